-- What was ready at a look may land where the newest head is that of the look and there is room.
use Rattle.std.proofs.Common.{◌≡◌, ℕ, ◌<◌, List, length, refl, ap, Option, None, subst, Result, OnOk, IfErr}
use Rattle.std.proofs.lemmas.Result.{on_ok_weaker, IfErr-weaker}
use mathlib.Core.List.{IsPrefix}
use Rattle.mrdt_model.specs.declared.time.Time.{Time}
use Rattle.mrdt_model.specs.Laws.{Meaning, KeepsLaws}
use Rattle.branch_history.specs.declared.moves.Move.{Move}
use Rattle.branch_history.specs.History.{store_of}
use Rattle.branch_history.specs.Machine.{commit_refusal, forward_refusal}
use Rattle.branch_history.specs.Steps.{Refusal}
use Rattle.branch_history.specs.Validity.{IsValid}
use Rattle.store_seen.specs.declared.answers.LandRefused.{LandRefused}
use Rattle.store_seen.specs.declared.answers.LandRefused.TheVariants as land_refusal
use Rattle.store_seen.specs.declared.prepared.Ready.{Ready}
use Rattle.store_seen.specs.declared.prepared.Ready.TheVariants as ready
use Rattle.store_seen.specs.Keeps.{IsSeen, IsReady, IsReadyOperation, IsReadyMerge, IsReadyJoin, IsReadyForward, work_of}
use Rattle.store_seen.specs.Views.{CoreView, PreparedView, SeenView, Work, Operation, Merge, Join, Forward}
use Rattle.store_seen.specs.Turns.{MayLand, LandRefusedAs, RefusedBy}
use Rattle.store_seen.proofs.Landings.{operation-turn, merge-turn, join-turn, forward-turn}
use Rattle.store_seen.proofs.Readies.{branch-now, operation-now, merge-now, join-now, forward-now, operation-refused, merge-is_refused, join-is_refused, forward-is_refused}

-- why the move of a work is refused
abbrev pub move_refusal : {O R : Type 0} → CoreView (Move O R) → ℕ → ℕ → Work O R → Option Refusal
move_refusal core branch head (Operation op reply) = commit_refusal core.terms core.history branch head
move_refusal core branch head (Merge commit) = commit_refusal core.terms core.history branch head
move_refusal core branch head (Join commits) = commit_refusal core.terms core.history branch head
move_refusal core branch head (Forward commit) = forward_refusal core.terms core.history branch head

module _ {S O R Q A : Type 0} (meaning : Meaning S O R Q A) (laws : KeepsLaws meaning) (seen : SeenView (Move O R)) (is : IsSeen meaning seen) (core : CoreView (Move O R)) (prefix : IsPrefix seen.history core.history) (terms : seen.terms ≡ core.terms) (valid : IsValid meaning core.terms core.history) (branch head : ℕ) (at_branch : branch ≡ seen.branch) (at : head ≡ seen.head) {X : Type 0} (r : Result X LandRefused) where
  there : seen.branch < length (store_of core.terms.origin core.history).branches
  there = branch-now meaning laws seen is core prefix terms

  commit_free : commit_refusal core.terms core.history branch head ≡ None → commit_refusal core.terms core.history seen.branch seen.head ≡ None
  commit_free free =
      subst (λ (b : ℕ). commit_refusal core.terms core.history b seen.head ≡ None) at_branch
      (subst (λ (h : ℕ). commit_refusal core.terms core.history branch h ≡ None) at free)

  forward_free : forward_refusal core.terms core.history branch head ≡ None → forward_refusal core.terms core.history seen.branch seen.head ≡ None
  forward_free free =
      subst (λ (b : ℕ). forward_refusal core.terms core.history b seen.head ≡ None) at_branch
      (subst (λ (h : ℕ). forward_refusal core.terms core.history branch h ≡ None) at free)

  operation-may : (time : Time) (value : S) (op : O) (reply : R) → IsReadyOperation meaning seen time value op reply → OnOk r (commit_refusal core.terms core.history branch head ≡ None) → OnOk r (MayLand meaning (record { seen = seen; work = Operation op reply }) core)
  operation-may time value op reply was = on_ok_weaker r (λ free.
      ap (λ t. t.made) (operation-turn meaning laws core valid seen.branch there time value op seen.head (length (store_of core.terms.origin core.history).commits) reply (operation-now meaning laws seen is core prefix terms time value op reply was) (commit_free free) refl))

  merge-may : (commit clock : ℕ) (value : S) → IsReadyMerge meaning seen commit clock value → OnOk r (commit_refusal core.terms core.history branch head ≡ None) → OnOk r (MayLand meaning (record { seen = seen; work = Merge commit }) core)
  merge-may commit clock value was = on_ok_weaker r (λ free.
      ap (λ t. t.made) (merge-turn meaning laws core valid seen.branch there commit clock value seen.head (length (store_of core.terms.origin core.history).commits) (merge-now meaning laws seen is core prefix terms commit was.there clock value was) (commit_free free) refl))

  join-may : (others : List ℕ) (clock : ℕ) (value : S) → IsReadyJoin meaning seen others clock value → OnOk r (commit_refusal core.terms core.history branch head ≡ None) → OnOk r (MayLand meaning (record { seen = seen; work = Join others }) core)
  join-may others clock value was = on_ok_weaker r (λ free.
      ap (λ t. t.made) (join-turn meaning laws core valid seen.branch there others clock value seen.head (length (store_of core.terms.origin core.history).commits) (join-now meaning laws seen is core prefix terms others was.there clock value was) (commit_free free) refl))

  forward-may : (commit : ℕ) → IsReadyForward seen.terms seen.history seen.head commit → OnOk r (forward_refusal core.terms core.history branch head ≡ None) → OnOk r (MayLand meaning (record { seen = seen; work = Forward commit }) core)
  forward-may commit was = on_ok_weaker r (λ free.
      ap (λ t. t.made) (forward-turn meaning laws core valid seen.branch there commit seen.head (forward-now meaning laws seen is core prefix terms commit was.there was) (forward_free free)))

  pub ready-may : (made : Ready S O R) → IsReady meaning seen made → OnOk r (move_refusal core branch head (work_of made) ≡ None) → OnOk r (MayLand meaning (record { seen = seen; work = work_of made }) core)
  ready-may (ready.Operation time value op reply spelled) was = operation-may time value op reply was.0
  ready-may (ready.Merge commit clock value spelled) was = merge-may commit clock value was.0
  ready-may (ready.Join commits clock value spelled) was = join-may commits clock value was.0
  ready-may (ready.Forward commit) was = forward-may commit was

  pub ready-refused : (made : Ready S O R) → IsReady meaning seen made → IfErr r (RefusedBy (move_refusal core branch head (work_of made))) → IfErr r (LandRefusedAs meaning (record { seen = seen; work = work_of made }) core)
  ready-refused (ready.Operation time value op reply spelled) was = operation-refused meaning laws seen is core prefix terms branch head at_branch at valid r time value op reply was.0
  ready-refused (ready.Merge commit clock value spelled) was = merge-is_refused meaning laws seen is core prefix terms branch head at_branch at valid r commit clock value was.0
  ready-refused (ready.Join commits clock value spelled) was = join-is_refused meaning laws seen is core prefix terms branch head at_branch at valid r commits clock value was.0
  ready-refused (ready.Forward commit) was = forward-is_refused meaning laws seen is core prefix terms branch head at_branch at valid r commit was

-- what may land is refused for want of memory alone
only : {S O R Q A : Type 0} (meaning : Meaning S O R Q A) (made : PreparedView O R) (core : CoreView (Move O R)) → MayLand meaning made core → (refusal : LandRefused) → LandRefusedAs meaning made core refusal → refusal ≡ land_refusal.Memory
only meaning made core may (land_refusal.Dropped branch) is = let none = ap (λ t. t.made) is in absurd (cc)
only meaning made core may (land_refusal.Stale newest) is = let none = ap (λ t. t.made) is.0 in absurd (cc)
only meaning made core may (land_refusal.FullCommits count) is = let none = ap (λ t. t.made) is in absurd (cc)
only meaning made core may (land_refusal.FullMoves count) is = let none = ap (λ t. t.made) is in absurd (cc)
only meaning made core may land_refusal.Memory is = refl

pub only-memory : {S O R Q A : Type 0} (meaning : Meaning S O R Q A) (made : PreparedView O R) (core : CoreView (Move O R)) {X : Type 0} (r : Result X LandRefused) → IfErr r (LandRefusedAs meaning made core) → MayLand meaning made core → IfErr r (λ refusal. refusal ≡ land_refusal.Memory)
only-memory meaning made core r refused may = IfErr-weaker r (LandRefusedAs meaning made core) (λ refusal. refusal ≡ land_refusal.Memory) (only meaning made core may) refused
