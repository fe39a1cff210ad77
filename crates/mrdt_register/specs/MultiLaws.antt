-- The laws of the register of several values.
use Rattle.std.proofs.Common.{◌≡◌, ℕ, ◌+◌, ◌<◌, ◌^◌, Some, List, [], ◌∷◌, ◌++◌, length, map, refl, ◌∙◌, ap, sym, subst, arith, length-append}
use Rattle.std.specs.List.{AllByRecursion, flat_map}
use Rattle.mrdt_model.specs.declared.time.Time.{Time}
use Rattle.mrdt_model.specs.Times.{IsTime}
use Rattle.mrdt_model.specs.Spelled.{IsBytes}
use Rattle.mrdt_model.specs.Laws.{KeepsLaws}
use Rattle.mrdt_model.specs.Executions.{Event, IsWellFormed}
use Rattle.mrdt_model.proofs.SameEvents.{own-times}
use Rattle.branch_wire.specs.Fields.{time_field, field}
use Rattle.branch_wire.proofs.Numbers.{length-time_field, length-field}
use Rattle.branch_wire.proofs.Lists.{length-counted}
use Rattle.live_set.specs.declared.kept.Kept.{Kept}
use Rattle.live_set.specs.Payloads.{IsShortText}
use Rattle.live_set.specs.Spelling.{kept_spelling, live_spelling, KeptFits, AreLive}
use Rattle.live_set.proofs.Standing.{live-rising}
use Rattle.live_set.proofs.Lengths.{length-live, each-live}
use Rattle.live_set.proofs.Unchanged.{left-unchanged, right-unchanged}
use Rattle.live_set.proofs.AnyOrder.{live-alike}
use Rattle.mrdt_register.specs.declared.op.RegisterOp.{RegisterOp}
use Rattle.live_set.specs.UnitReply.{IsAnyReply}
use Rattle.mrdt_register.specs.Writes.{payload_of, IsWrite}
use Rattle.mrdt_register.specs.LwwLaws.{same-write}
use Rattle.mrdt_register.specs.Multi.{write_effect, unseen, multi_meaning}

-- the time's numbers and the text's bytes lie in their ranges
abbrev IsKnown : Kept (List ℕ) → Type 0
IsKnown k = IsTime k.time × IsBytes k.payload

flat-short : (ks : List (Kept (List ℕ))) → AllByRecursion IsKnown ks → length (flat_map (kept_spelling field) ks) < 2 ^ 64 → AllByRecursion (KeptFits IsShortText) ks
flat-short [] known short = tt
flat-short (k ∷ ks) known short =
    let rest = flat_map (kept_spelling field) ks in
    let size : length ((time_field k.time ++ field k.payload) ++ rest) ≡ (12 + (8 + length k.payload)) + length rest =
    length-append (time_field k.time ++ field k.payload) rest ∙ ap (λ n. n + length rest) (length-append (time_field k.time) (field k.payload) ∙ ap (λ n. n + length (field k.payload)) (length-time_field k.time) ∙ ap (λ n. 12 + n) (length-field k.payload)) in
    ((known.0.0, (known.0.1, omega (arith, size, short))), flat-short ks known.1 (omega (arith, size, short)))

write_known : (o : RegisterOp) (t : Time) (v : List ℕ) → IsWrite o → IsTime t → Some (payload_of o) ≡ Some v → IsTime t × IsBytes v
write_known o t v known time is = let same : payload_of o ≡ v = cc in (time, subst IsBytes same known)

-- the writes are in the grammar where they are not too long
pub unseen-inside : (x : List (Event RegisterOp (Unit {0}))) → IsWellFormed IsWrite IsAnyReply x → length x < 2 ^ 32 → length (live_spelling field (unseen x)) < 2 ^ 64 → AreLive IsShortText (unseen x)
unseen-inside x w few short = record {
  few = omega (arith, few, length-live write_effect x);
  rising = live-rising write_effect x;
  each = flat-short (unseen x) (each-live write_effect IsWrite IsAnyReply IsKnown write_known x w) (omega (arith, short, length-counted (kept_spelling field) (unseen x)));
}

pub multi_laws : KeepsLaws multi_meaning
multi_laws = record {
  one_spelling = λ s x l is. ap (live_spelling field) is;
  replies_in_range = λ x o l known. tt;
  spelling_inside = λ x l short. (unseen x, unseen-inside x l.well_formed l.few short, refl);
  op_inside = λ o known short. known;
  reply_inside = λ r known short. refl;
  one_op = λ o p known fits short is. same-write o p is;
  one_reply = λ r s known fits short is. refl;
  same_spelling = λ s t is. ap (live_spelling field) is;
  same_stands = λ s t is. (λ x l stands. sym is ∙ stands, λ x l stands. is ∙ stands);
  unchanged_left = λ base left right same x a b l closed_a closed_b is_base is_left is_right. left-unchanged write_effect x a b base left right (own-times IsWrite IsAnyReply x l.well_formed) closed_a closed_b same is_base is_left is_right;
  unchanged_right = λ base left right same x a b l closed_a closed_b is_base is_left is_right. right-unchanged write_effect x a b base left right (own-times IsWrite IsAnyReply x l.well_formed) closed_a closed_b same is_base is_left is_right;
  any_order = λ x y l k same.
      let alike : unseen x ≡ unseen y = live-alike write_effect IsWrite IsAnyReply x y l.well_formed k.well_formed same in
      record {
        replies = λ o. refl;
        answers = λ query. ap (map (λ k. k.payload)) alike;
        spellings = ap (live_spelling field) alike;
      };
}
