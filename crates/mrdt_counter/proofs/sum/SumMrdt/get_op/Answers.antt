use Rattle.std.proofs.Common.{◌∙◌, sym, refl}
use Rattle.std.proofs.lemmas.Bool.{both_ways}
use Rattle.branch_wire.specs.Fields.{signed_number}
use Rattle.branch_wire.proofs.Numbers.{length-signed_number}
use Rattle.mrdt_counter.proofs.Whole.{whole-length, more-length}
use Rattle.mrdt_counter.proofs.sum.SumMrdt.get_op.Goals as goal

pub returns-then-is_at_end-clause-inside : goal.returns-then-is_at_end-clause-inside
returns-then-is_at_end-clause-inside c =
    let field = signed_number c.in_ok-amount.amount in
    whole-length field c.take_i64.new.self c.args.bytes.now 8 (length-signed_number c.in_ok-amount.amount) (sym c.new-cursor.ensures ∙ c.in_ok-amount.ensures.ok) (c.if-is_at_end.ensures.0 refl)

pub returns-else-is_at_end-clause-outside : goal.returns-else-is_at_end-clause-outside
returns-else-is_at_end-clause-outside c error inside =
    let field = signed_number c.in_ok-amount.amount in
    more-length field c.take_i64.new.self c.args.bytes.now 8 (length-signed_number c.in_ok-amount.amount) (sym c.new-cursor.ensures ∙ c.in_ok-amount.ensures.ok) (λ none. both_ways c.is_at_end.result c.if-is_at_end.false (c.is_at_end.ensures.1 none)) inside
