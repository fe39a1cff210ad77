-- The laws of the counter.
use Rattle.std.proofs.Common.{◌≡◌, ℕ, ℤ, List, [], length, refl, ◌∙◌, sym, ap, inl, inr, Some, subst, arith}
use Rattle.mrdt_model.specs.declared.time.Time.{Time}
use Rattle.mrdt_model.specs.Times.{IsTime}
use Rattle.mrdt_model.specs.Executions.{Event, IsLawful}
use Rattle.mrdt_model.specs.Laws.{KeepsLaws}
use Rattle.mrdt_model.proofs.SameEvents.{own-times}
use Rattle.branch_wire.specs.Fields.{signed_number}
use Rattle.branch_wire.proofs.Numbers.{length-signed_number, signed_number-same}
use Rattle.live_set.specs.Payloads.{IsAmount}
use Rattle.live_set.specs.Spelling.{KeptFits, AreLive}
use Rattle.live_set.proofs.Lengths.{length-live, each-live}
use Rattle.live_set.proofs.Standing.{live-rising}
use Rattle.live_set.proofs.Unchanged.{left-unchanged, right-unchanged}
use Rattle.live_set.proofs.AnyOrder.{live-alike}
use Rattle.live_set.specs.UnitReply.{IsAnyReply, no_reply}
use Rattle.mrdt_counter.specs.declared.counter.CounterOp.{CounterOp}
use Rattle.mrdt_counter.specs.declared.counter.CounterOp.TheVariants.{Add, Reset}
use Rattle.mrdt_counter.specs.Counter.{counter_effect, IsCounterOp, adds_of, sum_of, counter_spelling, IsOpSpelling, op_spelling, counter_meaning}
use Rattle.mrdt_counter.specs.Values.{value-live}

-- what an Add puts is in range
put-fits : (o : CounterOp) (t : Time) (n : ℤ) → IsCounterOp o → IsTime t → (counter_effect o).puts ≡ Some n → KeptFits IsAmount (record { time = t; payload = n })
put-fits (Add m) t n known time is = let own : m ≡ n = cc in (time, subst IsAmount own known)
put-fits Reset t n known time is = absurd (cc is)

-- the Adds that no Reset has seen are in the grammar
pub adds-live : (x : List (Event CounterOp (Unit {0}))) → IsLawful IsCounterOp IsAnyReply no_reply x → AreLive IsAmount (adds_of x)
adds-live x l =
    let few = l.few in
    record {
      few = omega (arith, length-live counter_effect x, few);
      rising = live-rising counter_effect x;
      each = each-live counter_effect IsCounterOp IsAnyReply (KeptFits IsAmount) put-fits x l.well_formed;
    }

op-inside : (op : CounterOp) → IsOpSpelling (op_spelling op)
op-inside (Add n) = inl (length-signed_number n)
op-inside Reset = inr refl

-- an amount is some bytes
not-empty : (n : ℤ) (bytes : List ℕ) → bytes ≡ [] → signed_number n ≡ bytes → ⊥
not-empty n bytes none is = omega (arith, length-signed_number n, ap length is, ap length none)

-- operations that are spelled alike are one
same-op : (o p : CounterOp) → IsCounterOp o → IsCounterOp p → op_spelling o ≡ op_spelling p → o ≡ p
same-op (Add m) (Add n) fits more is = ap Add (signed_number-same m n fits more is)
same-op (Add m) Reset fits more is = absurd (not-empty m [] refl is)
same-op Reset (Add n) fits more is = absurd (not-empty n [] refl (sym is))
same-op Reset Reset fits more is = refl

pub counter_laws : KeepsLaws counter_meaning
counter_laws = record {
  one_spelling = λ s x l is. ap counter_spelling is;
  replies_in_range = λ x o l known. tt;
  spelling_inside = λ x l short. (adds_of x, adds-live x l, refl);
  op_inside = λ o known short. op-inside o;
  reply_inside = λ r known short. refl;
  one_op = λ o p known fits short is. same-op o p known fits is;
  one_reply = λ r s known fits short is. refl;
  same_spelling = λ s t is. ap counter_spelling is;
  same_stands = λ s t is. (λ x l stands. sym is ∙ stands, λ x l stands. is ∙ stands);
  unchanged_left = λ base left right same x a b l closed_a closed_b is_base is_left is_right. left-unchanged counter_effect x a b base left right (own-times IsCounterOp IsAnyReply x l.well_formed) closed_a closed_b same is_base is_left is_right;
  unchanged_right = λ base left right same x a b l closed_a closed_b is_base is_left is_right. right-unchanged counter_effect x a b base left right (own-times IsCounterOp IsAnyReply x l.well_formed) closed_a closed_b same is_base is_left is_right;
  any_order = λ x y l k same.
      let adds = live-alike counter_effect IsCounterOp IsAnyReply x y l.well_formed k.well_formed same in
      record {
        replies = λ o. refl;
        answers = λ query. value-live x (own-times IsCounterOp IsAnyReply x l.well_formed) ∙ ap sum_of adds ∙ sym (value-live y (own-times IsCounterOp IsAnyReply y k.well_formed));
        spellings = ap counter_spelling adds;
      };
}
