-- What is ready at the newest head makes a move.
use Rattle.std.proofs.Common.{◌≡◌, ℕ, ◌+◌, ◌<◌, List, [], ◌∷◌, length, ap, sym, ◌∙◌, Some, None, subst}
use Rattle.std.proofs.lemmas.List.Elements.{All-nil, All-cons}
use Rattle.mrdt_model.specs.declared.time.Time.{Time}
use Rattle.mrdt_model.specs.Executions.{Event}
use Rattle.mrdt_model.specs.Laws.{Meaning, KeepsLaws}
use Rattle.branch_names.specs.Heads.{head_of, IsKeptBranch}
use Rattle.branch_history.specs.declared.moves.Move.{Move}
use Rattle.branch_history.specs.declared.moves.Move.TheVariants as move
use Rattle.branch_history.specs.Commits.{clock_of, visible}
use Rattle.branch_history.specs.History.{Store, store_of, with_commit, operation_event}
use Rattle.branch_history.specs.Machine.{turn, commit_refusal, forward_refusal}
use Rattle.branch_history.specs.Steps as machine
use Rattle.branch_history.specs.Validity.{AreCommits, IsMove, IsValid}
use Rattle.branch_graph.proofs.Ranked.{AllByRecursion-from_All}
use Rattle.branch_history.proofs.Histories.{valid-kept}
use Rattle.branch_history.proofs.Kept.{IsKept}
use Rattle.branch_history.proofs.Sees.{operation-visible, merge-visible, join-visible}
use Rattle.branch_history.proofs.Turns.{land-makes, merge-makes, forward-makes, IsMove-operation, IsMove-merge, IsMove-forward}
use Rattle.branch_history.proofs.Valid.{store_of-more, commit-room, commit-tells, forward-tells}
use Rattle.store_seen.specs.Keeps.{IsReadyOperation, IsReadyMerge, IsReadyJoin, IsReadyForward}
use Rattle.store_seen.specs.Nodes.{AddsCommit}
use Rattle.store_seen.specs.Turns.{at_head}
use Rattle.store_seen.specs.Views.{CoreView}
use Rattle.store_seen.proofs.Joins.{several-makes, IsMove-several}

module _ {S O R Q A : Type 0} (meaning : Meaning S O R Q A) (laws : KeepsLaws meaning) (core : CoreView (Move O R)) (valid : IsValid meaning core.terms core.history) (branch : ℕ) (there : branch < length (store_of core.terms.origin core.history).branches) where
  abbrev s : Store O R
  s = store_of core.terms.origin core.history

  abbrev newest : ℕ
  newest = head_of (store_of core.terms.origin core.history).branches branch

  kept : IsKept meaning core.terms s
  kept = valid-kept meaning core.terms laws core.history valid

  stands_there : newest < length s.commits
  stands_there = kept.ordered.heads branch there

  pub commit-newest : (head : ℕ) → commit_refusal core.terms core.history branch head ≡ None → newest ≡ head
  commit-newest head free = (commit-tells meaning core.terms core.history branch head free).1

  pub forward-newest : (head : ℕ) → forward_refusal core.terms core.history branch head ≡ None → newest ≡ head
  forward-newest head free = (forward-tells meaning core.terms core.history branch head free).1

  -- and it was not dropped
  pub commit-there : (head : ℕ) → commit_refusal core.terms core.history branch head ≡ None → IsKeptBranch s.branches branch
  commit-there head free = (there, (commit-tells meaning core.terms core.history branch head free).0)

  abbrev own : ℕ
  own = core.terms.origin + branch

  module _ (time : Time) (value : S) (op : O) where
    operation-adds_newest : (reply : R) → IsReadyOperation meaning (at_head core branch newest) time value op reply → commit_refusal core.terms core.history branch newest ≡ None
        → AddsCommit meaning core.terms core.history (move.Operation branch op (meaning.reply_of (visible s.commits newest) op)) branch (newest ∷ []) time.clock value
    operation-adds_newest reply is free =
        let same : R = meaning.reply_of (visible s.commits newest) op in
        let made : Event O R = operation_event s.commits own newest op same in
        let clock : clock_of s.commits newest + 1 ≡ time.clock = sym (ap (λ t. t.clock) is.timed) in
        record {
          moves = IsMove-operation meaning core.terms core.history branch newest op there stands_there is.known is.fits free;
          there = commit-there newest free;
          room = (commit-room meaning core.terms core.history branch newest free).0;
          below = All-cons (λ n. n < length s.commits) newest [] stands_there (All-nil (λ n. n < length s.commits));
          event = Some made;
          store = store_of-more core.terms.origin core.history (move.Operation branch op same) ∙ ap (λ n. with_commit s branch (record { parents = newest ∷ []; origin = own; clock = n; event = Some made })) clock;
          stands = subst (λ (x : List (Event O R)). meaning.stands value x) (sym (operation-visible core.terms core.history kept.ordered branch there op same)) is.stands;
        }

    pub operation-adds : (head : ℕ) (reply again : R) → IsReadyOperation meaning (at_head core branch head) time value op reply → commit_refusal core.terms core.history branch head ≡ None → again ≡ reply
        → AddsCommit meaning core.terms core.history (move.Operation branch op again) branch (head ∷ []) time.clock value
    operation-adds head reply again is free same =
        let at = commit-newest head free in
        let here = subst (λ (h : ℕ). IsReadyOperation meaning (at_head core branch h) time value op reply) (sym at) is in
        let room = subst (λ (h : ℕ). commit_refusal core.terms core.history branch h ≡ None) (sym at) free in
        subst (λ (h : ℕ). AddsCommit meaning core.terms core.history (move.Operation branch op again) branch (h ∷ []) time.clock value) at
        (subst (λ (r : R). AddsCommit meaning core.terms core.history (move.Operation branch op r) branch (newest ∷ []) time.clock value) (sym (same ∙ here.replies)) (operation-adds_newest reply here room))

    pub operation-turn : (head commit : ℕ) (reply : R) → IsReadyOperation meaning (at_head core branch head) time value op reply → commit_refusal core.terms core.history branch head ≡ None → commit ≡ length s.commits
        → turn meaning core.terms core.history (machine.Land branch head op) ≡ record { outcome = machine.Landed commit time reply; made = move.Operation branch op reply ∷ [] }
    operation-turn head commit reply is free number =
        land-makes meaning core.terms core.history branch head op is.fits free
        ∙ ap (λ r. record { outcome = machine.Landed (length s.commits) (record { clock = clock_of s.commits head + 1; origin = own }) r; made = move.Operation branch op r ∷ [] }) (sym is.replies)
        ∙ ap (λ t. record { outcome = machine.Landed (length s.commits) t reply; made = move.Operation branch op reply ∷ [] }) (sym is.timed)
        ∙ ap (λ n. record { outcome = machine.Landed n time reply; made = move.Operation branch op reply ∷ [] }) (sym number)

  module _ (other : ℕ) where
    module _ (clock : ℕ) (value : S) where
      merge-adds_newest : IsReadyMerge meaning (at_head core branch newest) other clock value → commit_refusal core.terms core.history branch newest ≡ None
          → AddsCommit meaning core.terms core.history (move.Merge branch other) branch (newest ∷ other ∷ []) clock value
      merge-adds_newest is free = record {
        moves = IsMove-merge meaning core.terms core.history branch newest other there stands_there is.there is.above is.below is.fits free;
        there = commit-there newest free;
        room = (commit-room meaning core.terms core.history branch newest free).0;
        below = All-cons (λ n. n < length s.commits) newest (other ∷ []) stands_there (All-cons (λ n. n < length s.commits) other [] is.there (All-nil (λ n. n < length s.commits)));
        event = None;
        store = store_of-more core.terms.origin core.history (move.Merge branch other) ∙ ap (λ n. with_commit s branch (record { parents = newest ∷ other ∷ []; origin = own; clock = n; event = None })) (sym is.timed);
        stands = subst (λ (x : List (Event O R)). meaning.stands value x) (sym (merge-visible core.terms core.history kept.ordered branch there other is.there)) is.stands;
      }

      pub merge-adds : (head : ℕ) → IsReadyMerge meaning (at_head core branch head) other clock value → commit_refusal core.terms core.history branch head ≡ None
          → AddsCommit meaning core.terms core.history (move.Merge branch other) branch (head ∷ other ∷ []) clock value
      merge-adds head is free =
          let at = commit-newest head free in
          subst (λ (h : ℕ). AddsCommit meaning core.terms core.history (move.Merge branch other) branch (h ∷ other ∷ []) clock value) at
          (merge-adds_newest (subst (λ (h : ℕ). IsReadyMerge meaning (at_head core branch h) other clock value) (sym at) is) (subst (λ (h : ℕ). commit_refusal core.terms core.history branch h ≡ None) (sym at) free))

      pub merge-turn : (head commit : ℕ) → IsReadyMerge meaning (at_head core branch head) other clock value → commit_refusal core.terms core.history branch head ≡ None → commit ≡ length s.commits
          → turn meaning core.terms core.history (machine.Merge branch head (other ∷ [])) ≡ record { outcome = machine.Merged commit; made = move.Merge branch other ∷ [] }
      merge-turn head commit is free number =
          merge-makes meaning core.terms core.history branch head other is.above is.below is.fits free
          ∙ ap (λ n. record { outcome = machine.Merged n; made = move.Merge branch other ∷ [] }) (sym number)

    module _ (head : ℕ) (is : IsReadyForward core.terms core.history head other) (free : forward_refusal core.terms core.history branch head ≡ None) where
      pub forward-moves : IsMove meaning core.terms core.history (move.Forward branch other)
      forward-moves =
          let here : head < length s.commits = subst (λ (h : ℕ). h < length s.commits) (forward-newest head free) stands_there in
          IsMove-forward meaning core.terms core.history branch head other there here is.there is.above is.below free

      pub forward-turn : turn meaning core.terms core.history (machine.Merge branch head (other ∷ [])) ≡ record { outcome = machine.Forwarded other; made = move.Forward branch other ∷ [] }
      forward-turn = forward-makes meaning core.terms core.history branch head other is.above is.below free

  module _ (others : List ℕ) (clock : ℕ) (value : S) where
    join-adds_newest : IsReadyJoin meaning (at_head core branch newest) others clock value → commit_refusal core.terms core.history branch newest ≡ None
        → AddsCommit meaning core.terms core.history (move.Join branch others) branch (newest ∷ others) clock value
    join-adds_newest is free =
        let all : AreCommits s.commits others = AllByRecursion-from_All (λ n. n < length s.commits) others is.there in
        record {
          moves = IsMove-several meaning core.terms core.history branch newest others is.several there stands_there all is.few is.brought is.fits free;
          there = commit-there newest free;
          room = (commit-room meaning core.terms core.history branch newest free).0;
          below = All-cons (λ n. n < length s.commits) newest others stands_there is.there;
          event = None;
          store = store_of-more core.terms.origin core.history (move.Join branch others) ∙ ap (λ n. with_commit s branch (record { parents = newest ∷ others; origin = own; clock = n; event = None })) (sym is.timed);
          stands = subst (λ (x : List (Event O R)). meaning.stands value x) (sym (join-visible core.terms core.history kept.ordered branch there others all)) is.stands;
        }

    pub join-adds : (head : ℕ) (parents : List ℕ) → parents ≡ head ∷ others → IsReadyJoin meaning (at_head core branch head) others clock value → commit_refusal core.terms core.history branch head ≡ None
        → AddsCommit meaning core.terms core.history (move.Join branch others) branch parents clock value
    join-adds head parents listed is free =
        let at = commit-newest head free in
        subst (λ (l : List ℕ). AddsCommit meaning core.terms core.history (move.Join branch others) branch l clock value) (ap (λ h. h ∷ others) at ∙ sym listed)
        (join-adds_newest (subst (λ (h : ℕ). IsReadyJoin meaning (at_head core branch h) others clock value) (sym at) is) (subst (λ (h : ℕ). commit_refusal core.terms core.history branch h ≡ None) (sym at) free))

    pub join-turn : (head commit : ℕ) → IsReadyJoin meaning (at_head core branch head) others clock value → commit_refusal core.terms core.history branch head ≡ None → commit ≡ length s.commits
        → turn meaning core.terms core.history (machine.Merge branch head others) ≡ record { outcome = machine.Joined commit; made = move.Join branch others ∷ [] }
    join-turn head commit is free number =
        several-makes meaning core.terms core.history branch head others is.several is.brought is.fits free
        ∙ ap (λ n. record { outcome = machine.Joined n; made = move.Join branch others ∷ [] }) (sym number)
