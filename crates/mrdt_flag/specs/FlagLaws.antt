-- The laws of the flag.
use Rattle.std.proofs.Common.{◌≡◌, ◌^◌, ◌<◌, List, [], length, refl, ◌∙◌, sym, ap, inl, inr, arith}
use Rattle.mrdt_model.specs.declared.time.Time.{Time}
use Rattle.mrdt_model.specs.Times.{IsTime}
use Rattle.mrdt_model.specs.Executions.{Event, IsLawful}
use Rattle.mrdt_model.specs.Laws.{KeepsLaws}
use Rattle.mrdt_model.proofs.SameEvents.{own-times}
use Rattle.live_set.specs.Payloads.{IsNothing}
use Rattle.live_set.specs.Spelling.{KeptFits, AreLive}
use Rattle.live_set.proofs.Lengths.{length-live, each-live}
use Rattle.live_set.proofs.Standing.{live-rising}
use Rattle.live_set.proofs.Unchanged.{left-unchanged, right-unchanged}
use Rattle.live_set.proofs.AnyOrder.{live-alike, holds-alike}
use Rattle.mrdt_flag.specs.declared.flag.FlagOp.{FlagOp}
use Rattle.mrdt_flag.specs.declared.flag.FlagOp.TheVariants.{Enable, Disable}
use Rattle.live_set.specs.UnitReply.{IsAnyReply, no_reply}
use Rattle.mrdt_flag.specs.Flag.{flag_effect, IsAnyOp, enables, flag_spelling, IsOpSpelling, op_spelling, flag_meaning}

-- the Enables that no operation has seen are in the grammar
pub enables-live : (x : List (Event FlagOp (Unit {0}))) → IsLawful IsAnyOp IsAnyReply no_reply x → AreLive IsNothing (enables x)
enables-live x l =
    let few = l.few in
    record {
      few = omega (arith, length-live flag_effect x, few);
      rising = live-rising flag_effect x;
      each = each-live flag_effect IsAnyOp IsAnyReply (KeptFits IsNothing) (λ o t v known time is. (time, tt)) x l.well_formed;
    }

op-inside : (op : FlagOp) → IsOpSpelling (op_spelling op)
op-inside Enable = inl refl
op-inside Disable = inr refl

-- operations that are spelled alike are one
same-op : (o p : FlagOp) → op_spelling o ≡ op_spelling p → o ≡ p
same-op Enable Enable is = refl
same-op Enable Disable is = absurd (cc is)
same-op Disable Enable is = absurd (cc is)
same-op Disable Disable is = refl

pub flag_laws : KeepsLaws flag_meaning
flag_laws = record {
  one_spelling = λ s x l is. ap flag_spelling is;
  replies_in_range = λ x o l known. tt;
  spelling_inside = λ x l short. (enables x, enables-live x l, refl);
  op_inside = λ o known short. op-inside o;
  reply_inside = λ r known short. refl;
  one_op = λ o p known fits short is. same-op o p is;
  one_reply = λ r s known fits short is. refl;
  same_spelling = λ s t is. ap flag_spelling is;
  same_stands = λ s t is. (λ x l stands. sym is ∙ stands, λ x l stands. is ∙ stands);
  unchanged_left = λ base left right same x a b l closed_a closed_b is_base is_left is_right. left-unchanged flag_effect x a b base left right (own-times IsAnyOp IsAnyReply x l.well_formed) closed_a closed_b same is_base is_left is_right;
  unchanged_right = λ base left right same x a b l closed_a closed_b is_base is_left is_right. right-unchanged flag_effect x a b base left right (own-times IsAnyOp IsAnyReply x l.well_formed) closed_a closed_b same is_base is_left is_right;
  any_order = λ x y l k same. record {
    replies = λ o. refl;
    answers = λ query. holds-alike flag_effect IsAnyOp IsAnyReply x y l.well_formed k.well_formed same;
    spellings = ap flag_spelling (live-alike flag_effect IsAnyOp IsAnyReply x y l.well_formed k.well_formed same);
  };
}
