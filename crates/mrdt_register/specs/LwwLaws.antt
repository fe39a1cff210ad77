-- The laws of the register that keeps the last write.
use Rattle.std.proofs.Common.{◌≡◌, ℕ, ◌+◌, ◌<◌, ◌^◌, Bool, true, false, cond, Option, None, Some, List, [], ◌∷◌, ◌++◌, length, refl, ◌∙◌, ap, sym, arith, length-append}
use Rattle.std.specs.Option.{option_map}
use Rattle.mrdt_model.specs.Times.{IsTime, is_earlier}
use Rattle.mrdt_model.specs.Spelled.{IsBytes}
use Rattle.mrdt_model.specs.Laws.{KeepsLaws}
use Rattle.mrdt_model.specs.Executions.{Event, IsWellFormed}
use Rattle.branch_wire.specs.Fields.{time_field, field}
use Rattle.branch_wire.proofs.Numbers.{length-time_field, length-field}
use Rattle.live_set.specs.declared.kept.Kept.{Kept}
use Rattle.mrdt_register.specs.declared.op.RegisterOp.{RegisterOp}
use Rattle.mrdt_register.specs.declared.op.RegisterOp.TheVariants.{Set}
use Rattle.live_set.specs.UnitReply.{IsAnyReply}
use Rattle.mrdt_register.specs.Writes.{payload_of, IsWrite, write_of}
use Rattle.mrdt_register.specs.Lww.{later, latest, lww_spelling, IsLwwState, lww_meaning}
use Rattle.mrdt_register.specs.Tops.{latest-left_within, latest-right_within, latest-alike}

-- the numbers and bytes of what was written lie in their ranges
abbrev IsKnown : Option (Kept (List ℕ)) → Type 0
IsKnown None = Unit {0}
IsKnown (Some k) = IsTime k.time × IsBytes k.payload

later-known : (k : Kept (List ℕ)) (o : Option (Kept (List ℕ))) → IsKnown (Some k) → IsKnown o → IsKnown (later (Some k) o)
later-known k None here rest = here
later-known k (Some j) here rest = at (is_earlier k.time j.time)
  where
    at : (p : Bool) → IsKnown (cond p (Some j) (Some k))
    at true = rest
    at false = here

latest-known : (x : List (Event RegisterOp (Unit {0}))) → IsWellFormed IsWrite IsAnyReply x → IsKnown (latest x)
latest-known [] w = tt
latest-known (e ∷ x) w = later-known (write_of e) (latest x) (w.0.time, w.0.operation) (latest-known x w.1)

short-state : (o : Option (Kept (List ℕ))) → IsKnown o → length (lww_spelling o) < 2 ^ 64 → IsLwwState o
short-state None known short = tt
short-state (Some k) known short =
    let size : length (time_field k.time ++ field k.payload) ≡ 12 + (8 + length k.payload) = length-append (time_field k.time) (field k.payload) ∙ ap (λ n. n + length (field k.payload)) (length-time_field k.time) ∙ ap (λ n. 12 + n) (length-field k.payload) in
    (known.0, (known.1, omega (arith, size, short)))

-- the latest write is in the grammar where it is not too long
pub latest-inside : (x : List (Event RegisterOp (Unit {0}))) → IsWellFormed IsWrite IsAnyReply x → length (lww_spelling (latest x)) < 2 ^ 64 → IsLwwState (latest x)
latest-inside x w short = short-state (latest x) (latest-known x w) short

-- operations that are spelled alike are one
pub same-write : (o p : RegisterOp) → payload_of o ≡ payload_of p → o ≡ p
same-write (Set a) (Set b) is = ap Set is

pub lww_laws : KeepsLaws lww_meaning
lww_laws = record {
  one_spelling = λ s x l is. ap lww_spelling is;
  replies_in_range = λ x o l known. tt;
  spelling_inside = λ x l short. (latest x, latest-inside x l.well_formed short, refl);
  op_inside = λ o known short. known;
  reply_inside = λ r known short. refl;
  one_op = λ o p known fits short is. same-write o p is;
  one_reply = λ r s known fits short is. refl;
  same_spelling = λ s t is. ap lww_spelling is;
  same_stands = λ s t is. (λ x l stands. sym is ∙ stands, λ x l stands. is ∙ stands);
  unchanged_left = λ base left right same x a b l closed_a closed_b is_base is_left is_right. is_right ∙ latest-left_within x a b (sym is_left ∙ sym same ∙ is_base);
  unchanged_right = λ base left right same x a b l closed_a closed_b is_base is_left is_right. is_left ∙ latest-right_within x a b (sym is_right ∙ sym same ∙ is_base);
  any_order = λ x y l k same. record {
    replies = λ o. refl;
    answers = λ query. ap (option_map (λ k. k.payload)) (latest-alike x y same);
    spellings = ap lww_spelling (latest-alike x y same);
  };
}
