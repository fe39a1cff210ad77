use Rattle.std.proofs.Common.{◌≡◌, List, ℕ, [], length, ◌∙◌, ap, sym, refl, inl, inr, ◌⊎◌, arith}
use Rattle.std.proofs.lemmas.Bool.{both_ways}
use Rattle.std.proofs.lemmas.Bool.Decides.{nat_tests}
use Rattle.branch_wire.specs.Fields.{signed_number}
use Rattle.branch_wire.specs.Reading.{HasLength}
use Rattle.branch_wire.proofs.Numbers.{length-signed_number}
use Rattle.mrdt_counter.specs.declared.counter.CounterOp.{CounterOp}
use Rattle.mrdt_counter.specs.declared.counter.CounterOp.TheVariants.{Add, Reset}
use Rattle.mrdt_counter.specs.Counter.{op_spelling}
use Rattle.mrdt_counter.proofs.Whole.{whole-length, more-length}
use Rattle.mrdt_counter.proofs.counter.CounterMrdt.get_op.Goals as goal

-- bytes that are neither eight nor none
long_or_none : (bytes : List ℕ) → HasLength 8 bytes ⊎ (bytes ≡ []) → (length bytes ≡ 0 → ⊥) → (length bytes ≡ 8 → ⊥) → ⊥
long_or_none bytes (inl long) some other = other long
long_or_none bytes (inr none) some other = some (ap length none)

-- no bytes are a Reset alone
reset-alone : (o : CounterOp) (bytes : List ℕ) → length bytes ≡ 0 → op_spelling o ≡ bytes → Reset ≡ o
reset-alone (Add n) bytes none is = absurd (omega (arith, length-signed_number n, ap length is, none))
reset-alone Reset bytes none is = refl

pub returns-then-is_empty-clause-equal : goal.returns-then-is_empty-clause-equal
returns-then-is_empty-clause-equal c other known is =
    let none : length c.args.bytes.now ≡ 0 = grind (arith, nat_tests) in
    reset-alone other c.args.bytes.now none is

pub returns-then-is_at_end-clause-inside : goal.returns-then-is_at_end-clause-inside
returns-then-is_at_end-clause-inside c =
    let field = signed_number c.in_ok-amount.amount in
    inl (whole-length field c.take_i64.new.self c.args.bytes.now 8 (length-signed_number c.in_ok-amount.amount) (sym c.new-cursor.ensures ∙ c.in_ok-amount.ensures.ok) (c.if-is_at_end.ensures.0 refl))

pub returns-else-is_at_end-clause-outside : goal.returns-else-is_at_end-clause-outside
returns-else-is_at_end-clause-outside c error inside =
    let some : length c.args.bytes.now ≡ 0 → ⊥ = λ none. (grind (arith, nat_tests, none)) in
    long_or_none c.args.bytes.now inside some (more-length (signed_number c.in_ok-amount.amount) c.take_i64.new.self c.args.bytes.now 8 (length-signed_number c.in_ok-amount.amount) (sym c.new-cursor.ensures ∙ c.in_ok-amount.ensures.ok) (λ none. both_ways c.is_at_end.result c.if-is_at_end.false (c.is_at_end.ensures.1 none)))
