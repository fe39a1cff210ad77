-- A counter renews a sum: where no operation is a Reset, it answers the sum of all Adds.
use Rattle.std.proofs.Common.{◌≡◌, ℤ, pos, ◌+ℤ◌, Bool, false, cond, ◌||◌, List, [], ◌∷◌, refl, ◌∙◌, ap}
use Rattle.mrdt_model.specs.declared.time.Time.{Time}
use Rattle.mrdt_model.specs.Executions.{Event}
use Rattle.mrdt_renewal.specs.Renewals.{renewed_events, Renews}
use Rattle.mrdt_counter.specs.declared.sum.SumOp.{SumOp}
use Rattle.mrdt_counter.specs.declared.sum.SumOp.TheVariants as sum_op
use Rattle.mrdt_counter.specs.Sum.{amount, total, IsAmount, sum_meaning}
use Rattle.mrdt_counter.specs.Counter.{amount as counter_amount, is_reset, IsCounterOp, is_cancelled, sum_but, op_spelling, counter_meaning}
use Rattle.branch_wire.specs.Fields.{signed_number}
use Rattle.mrdt_old_doc.specs.OldDocument.{renewed_sum_op}

ops : (o : SumOp) → IsAmount o → IsCounterOp (renewed_sum_op o)
ops (sum_op.Add n) known = known

spelled : (o : SumOp) → op_spelling (renewed_sum_op o) ≡ signed_number (amount o)
spelled (sum_op.Add n) = refl

is_no_reset : (o : SumOp) → is_reset (renewed_sum_op o) ≡ false
is_no_reset (sum_op.Add n) = refl

same_amount : (o : SumOp) → counter_amount (renewed_sum_op o) ≡ amount o
same_amount (sum_op.Add n) = refl

module _ {R : Type 0} where
  -- nothing is cancelled
  not_cancelled : (x : List (Event SumOp R)) (t : Time) → is_cancelled (renewed_events renewed_sum_op x) t ≡ false
  not_cancelled [] t = refl
  not_cancelled (e ∷ x) t = rw (is_no_reset e.operation) (not_cancelled x t)

  sum_renewed : (cancelled : Time → Bool) (x : List (Event SumOp R)) → ((t : Time) → cancelled t ≡ false) → sum_but cancelled (renewed_events renewed_sum_op x) ≡ total x
  sum_renewed cancelled [] none = refl
  sum_renewed cancelled (e ∷ x) none = rw (none e.time, same_amount e.operation) (ap (λ n. amount e.operation +ℤ n) (sum_renewed cancelled x none))

pub renews_sum : Renews sum_meaning counter_meaning renewed_sum_op
renews_sum = record {
  ops = ops;
  in_range = λ r known. tt;
  spelled = spelled;
  reply_spelled = λ r. refl;
  replies = λ x l o known. refl;
  answers = λ x l q. sum_renewed (is_cancelled (renewed_events renewed_sum_op x)) x (not_cancelled x);
}
