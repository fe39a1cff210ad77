-- The laws of the log.
use Rattle.std.proofs.Common.{◌≡◌, ℕ, ◌<◌, ◌^◌, List, length, refl, ◌∙◌, ap, sym, subst, arith}
use Rattle.std.specs.List.{AllByRecursion}
use Rattle.mrdt_model.specs.Times.{both, either}
use Rattle.mrdt_model.specs.Spelled.{IsBytes}
use Rattle.mrdt_model.specs.Executions.{Event, restrict, IsWellFormed}
use Rattle.mrdt_model.specs.Laws.{KeepsLaws, Merges, ShowTheSame}
use Rattle.branch_wire.specs.Fields.{field}
use Rattle.live_set.specs.declared.kept.Kept.{Kept}
use Rattle.live_set.specs.Entries.{kept_times, IsRising}
use Rattle.live_set.specs.Payloads.{IsShortText}
use Rattle.live_set.specs.Spelling.{live_spelling, AreLive}
use Rattle.live_set.specs.UnitReply.{IsAnyReply}
use Rattle.live_set.proofs.Standing.{live-rising}
use Rattle.mrdt_model.proofs.SameEvents.{own-times}
use Rattle.live_set.proofs.Lengths.{length-live, each-live}
use Rattle.live_set.proofs.Unchanged.{left-unchanged, right-unchanged}
use Rattle.live_set.proofs.AnyOrder.{live-alike}
use Rattle.live_set.proofs.ShortTexts.{IsKnown, all-short}
use Rattle.mrdt_log.specs.declared.log.LogOp.{LogOp}
use Rattle.mrdt_log.specs.declared.log.LogOp.TheVariants.{Append}
use Rattle.mrdt_log.specs.declared.log.LogQuery.{LogQuery}
use Rattle.mrdt_log.specs.declared.log.LogQuery.TheVariants.{Read, Length}
use Rattle.mrdt_log.specs.Log.{payload_of, appends, IsAppend, log_answer, log_meaning}
use Rattle.mrdt_log.specs.Appends.{log_effect, appends-live}

abbrev Events : Type 0
Events = List (Event LogOp (Unit {0}))

appends-known : (x : Events) → IsWellFormed IsAppend IsAnyReply x → AllByRecursion IsKnown (appends x)
appends-known x w =
    subst (AllByRecursion IsKnown) (sym (appends-live x))
    (each-live log_effect IsAppend IsAnyReply IsKnown (λ o t v known time is. let payloads : payload_of o ≡ v = cc is in (time, subst IsBytes payloads known)) x w)

-- the appends are in the grammar where they are not too long
pub appends-inside : (x : Events) → IsWellFormed IsAppend IsAnyReply x → length x < 2 ^ 32 → length (live_spelling field (appends x)) < 2 ^ 64 → AreLive IsShortText (appends x)
appends-inside x w few short = record {
  few = omega (arith, few, ap length (appends-live x), length-live log_effect x);
  rising = rising x;
  each = all-short (appends x) (appends-known x w) short;
}
  where
    rising : (x : Events) → IsRising (kept_times (appends x))
    rising x = subst (λ ks. IsRising (kept_times ks)) (sym (appends-live x)) (live-rising log_effect x)

one-append : (o p : LogOp) → payload_of o ≡ payload_of p → o ≡ p
one-append (Append u) (Append v) is = ap Append is

-- where one side is the base, the other is the union
left_unchanged : (base left right : List (Kept (List ℕ))) → base ≡ left → Merges log_meaning base left right right
left_unchanged base left right same x a b l closed_a closed_b is_base is_left is_right =
    left-unchanged log_effect x a b base left right (own-times IsAppend IsAnyReply x l.well_formed) closed_a closed_b same
    (is_base ∙ appends-live (restrict (both a b) x)) (is_left ∙ appends-live (restrict a x)) (is_right ∙ appends-live (restrict b x))
    ∙ sym (appends-live (restrict (either a b) x))

right_unchanged : (base left right : List (Kept (List ℕ))) → base ≡ right → Merges log_meaning base left right left
right_unchanged base left right same x a b l closed_a closed_b is_base is_left is_right =
    right-unchanged log_effect x a b base left right (own-times IsAppend IsAnyReply x l.well_formed) closed_a closed_b same
    (is_base ∙ appends-live (restrict (both a b) x)) (is_left ∙ appends-live (restrict a x)) (is_right ∙ appends-live (restrict b x))
    ∙ sym (appends-live (restrict (either a b) x))

answers_alike : (x y : Events) (q : LogQuery) → appends x ≡ appends y → log_answer x q ≡ log_answer y q
answers_alike x y Read is = rw is refl
answers_alike x y Length is = rw is refl

shows_alike : (x y : Events) → appends x ≡ appends y → ShowTheSame log_meaning x y
shows_alike x y is = record { replies = λ o. refl; answers = λ q. answers_alike x y q is; spellings = ap (live_spelling field) is }

pub log_laws : KeepsLaws log_meaning
log_laws = record {
  one_spelling = λ s x l is. ap (live_spelling field) is;
  replies_in_range = λ x o l known. tt;
  spelling_inside = λ x l short. (appends x, appends-inside x l.well_formed l.few short, refl);
  op_inside = λ o known short. known;
  reply_inside = λ r known short. refl;
  one_op = λ o p known also short is. one-append o p is;
  one_reply = λ r s known also short is. refl;
  same_spelling = λ s t is. ap (live_spelling field) is;
  same_stands = λ s t is. (λ x l stands. sym is ∙ stands, λ x l stands. is ∙ stands);
  unchanged_left = left_unchanged;
  unchanged_right = right_unchanged;
  any_order = λ x y l m same. shows_alike x y (appends-live x ∙ live-alike log_effect IsAppend IsAnyReply x y l.well_formed m.well_formed same ∙ sym (appends-live y));
}
