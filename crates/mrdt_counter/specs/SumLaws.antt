-- The laws of the sum.
use Rattle.std.proofs.Common.{◌≡◌, ℤ, refl, ◌∙◌, ap, sym, arith}
use Rattle.std.proofs.lemmas.Int.{ints}
use Rattle.mrdt_model.specs.Laws.{KeepsLaws, Merges}
use Rattle.branch_wire.specs.Fields.{signed_number, wide_signed_number}
use Rattle.branch_wire.proofs.Numbers.{length-signed_number, length-wide_signed_number, signed_number-same}
use Rattle.mrdt_counter.specs.declared.sum.SumOp.{SumOp}
use Rattle.mrdt_counter.specs.declared.sum.SumOp.TheVariants.{Add}
use Rattle.mrdt_counter.specs.Sum.{total, amount, IsAmount, sum_meaning}
use Rattle.mrdt_counter.specs.Sums.{total-union, total-any_order}

one_amount : (o p : SumOp) → IsAmount o → IsAmount p → signed_number (amount o) ≡ signed_number (amount p) → o ≡ p
one_amount (Add m) (Add n) fits more is = ap Add (signed_number-same m n fits more is)

left_unchanged : (base left right : ℤ) → base ≡ left → Merges sum_meaning base left right right
left_unchanged base left right same x a b l in_a in_b is_base is_left is_right =
    let union = total-union x a b in
    omega (arith, ints)

right_unchanged : (base left right : ℤ) → base ≡ right → Merges sum_meaning base left right left
right_unchanged base left right same x a b l in_a in_b is_base is_left is_right =
    let union = total-union x a b in
    omega (arith, ints)

pub sum_laws : KeepsLaws sum_meaning
sum_laws = record {
  one_spelling = λ s x l is. ap wide_signed_number is;
  replies_in_range = λ x o l known. tt;
  spelling_inside = λ x l short. length-wide_signed_number (total x);
  op_inside = λ o known short. length-signed_number (amount o);
  reply_inside = λ r known short. refl;
  one_op = λ o p fits more short is. one_amount o p fits more is;
  one_reply = λ r s fits more short is. refl;
  same_spelling = λ s t same. ap wide_signed_number same;
  same_stands = λ s t same. (λ x l is. sym same ∙ is, λ x l is. same ∙ is);
  unchanged_left = left_unchanged;
  unchanged_right = right_unchanged;
  any_order = λ x y l m events.
      let sums = total-any_order x y l.well_formed m.well_formed events in
      record { replies = λ o. refl; answers = λ q. sums; spellings = ap wide_signed_number sums };
}
