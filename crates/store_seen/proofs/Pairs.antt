-- What a pair of commits comes to: the values of a merge, and what the machine does with it from now on.
use Rattle.std.proofs.Common.{◌≡◌, ℕ, ◌<◌, ◌≤◌, false, List, [], ◌∷◌, ◌++◌, length, ap, sym, ◌∙◌, IsTrue, Some, subst}
use mathlib.Core.List.{IsPrefix}
use Rattle.mrdt_model.specs.Executions.{Event}
use Rattle.mrdt_model.specs.Laws.{Meaning, KeepsLaws, Merges}
use Rattle.branch_graph.specs.Graph.{reaches, maximal_common}
use Rattle.branch_names.specs.declared.terms.Terms.{Terms}
use Rattle.branch_history.specs.declared.moves.Move.{Move}
use Rattle.branch_history.specs.Commits.{Commit, graph_of, greatest_clock, visible, visible_at_all, all_events}
use Rattle.branch_history.specs.History.{store_of}
use Rattle.branch_history.specs.Laws.{IsSameAtAll, MergesLists, SeesAlone}
use Rattle.branch_history.specs.Machine.{turn, answers, merge_refusal}
use Rattle.branch_history.specs.Steps as machine
use Rattle.branch_history.specs.Validity.{AreCommits, IsValid}
use Rattle.branch_history.proofs.Kept.{IsKept, visible_at_all-closed, closed-lawful}
use Rattle.branch_history.proofs.Later.{commits-longer, longer-same_at_all, merge_refusal-same}
use Rattle.branch_history.proofs.Turns.{merge-too_large, merge-none, merge-same, merge-unprepared}
use Rattle.virtual_base.specs.Nodes.{NodesView, AreNodesOf, IsFold}
use Rattle.store_seen.specs.Keeps.{IsSeen, IsReadyMerge}
use Rattle.store_seen.specs.Pairs.{IsBaseAt}
use Rattle.store_seen.specs.Turns.{FromOn}
use Rattle.store_seen.specs.Views.{SeenView}
use Rattle.store_seen.proofs.Looks.{seen-kept, same-later}

-- the fold of the maximal common ancestors, at a history that the nodes are of
pub base-at : {S O R Q A : Type 0} (meaning : Meaning S O R Q A) (terms : Terms) (history : List (Move O R)) → IsValid meaning terms history → (nodes : NodesView S) → AreNodesOf meaning (store_of terms.origin history).commits nodes
    → (left right : ℕ) (base : S) → IsFold meaning nodes (maximal_common nodes.graph.commits (left ∷ []) (right ∷ [])) base → IsBaseAt meaning (store_of terms.origin history).commits left right base
base-at meaning terms history valid nodes are left right base folded =
    subst (λ (g : List (List ℕ)). meaning.stands base (visible_at_all (store_of terms.origin history).commits (maximal_common g (left ∷ []) (right ∷ [])))) are.parents (folded.stands terms history valid are)

module _ {S O R Q A : Type 0} (meaning : Meaning S O R Q A) (laws : KeepsLaws meaning) (seen : SeenView (Move O R)) (is : IsSeen meaning seen) (other : ℕ) (there : other < length (store_of seen.terms.origin seen.history).commits) where
  abbrev commits : List (Commit O R)
  commits = (store_of seen.terms.origin seen.history).commits

  abbrev graph : List (List ℕ)
  graph = graph_of (store_of seen.terms.origin seen.history).commits

  -- what either commit sees
  abbrev union : List (Event O R)
  union = visible_at_all (store_of seen.terms.origin seen.history).commits (seen.head ∷ other ∷ [])

  kept : IsKept meaning seen.terms (store_of seen.terms.origin seen.history)
  kept = seen-kept meaning laws seen is

  module _ (later : List (Move O R)) (prefix : IsPrefix seen.history later) where
    same_all : (ls rs : List ℕ) → AreCommits commits ls → AreCommits commits rs → IsSameAtAll commits (store_of seen.terms.origin later).commits ls rs
    same_all ls rs left right =
        subst (λ (l : List (Move O R)). IsSameAtAll commits (store_of seen.terms.origin l).commits ls rs) prefix.1
        (longer-same_at_all commits (store_of seen.terms.origin (seen.history ++ prefix.0)).commits (commits-longer seen.terms.origin seen.history prefix.0) kept.ordered.ranked ls rs left right)

    reach_above : reaches (graph_of (store_of seen.terms.origin later).commits) seen.head other ≡ reaches graph seen.head other
    reach_above = (same-later meaning laws seen is seen.head is.head later prefix).reach other

    reach_below : reaches (graph_of (store_of seen.terms.origin later).commits) other seen.head ≡ reaches graph other seen.head
    reach_below = (same-later meaning laws seen is other there later prefix).reach seen.head

  pub same-from_on : IsTrue (reaches graph seen.head other)
      → FromOn meaning seen.terms seen.history (λ later. turn meaning seen.terms later (machine.Merge seen.branch seen.head (other ∷ [])) ≡ answers {O = O} {R = R} {A = A} machine.Same)
  same-from_on above later prefix = merge-same meaning seen.terms later seen.branch seen.head other (reach_above later prefix ∙ above)

  -- the merge of the values of the two commits over that of their base
  pub merged-stands : MergesLists meaning → SeesAlone meaning → (nodes : NodesView S) → AreNodesOf meaning commits nodes
      → (base left right merged : S) → IsBaseAt meaning commits seen.head other base → meaning.stands left (visible commits seen.head) → IsFold meaning nodes (other ∷ []) right → Merges meaning base left right merged
      → meaning.stands merged union
  merged-stands lists alone nodes are base left right merged base_stands head_stands right_folded merges =
      let left_stands = subst (λ (x : List (Event O R)). meaning.stands left x) (sym (alone commits seen.head)) head_stands in
      lists seen.terms seen.history is.valid (seen.head ∷ []) (other ∷ []) base left right merged merges base_stands left_stands (right_folded.stands seen.terms seen.history is.valid are)

  module _ (above : reaches graph seen.head other ≡ false) (below : reaches graph other seen.head ≡ false) where
    refused-from_on : (refusal : machine.Refusal) → merge_refusal meaning seen.terms.limits commits (seen.head ∷ other ∷ []) ≡ Some refusal
        → FromOn meaning seen.terms seen.history (λ later. turn meaning seen.terms later (machine.Merge seen.branch seen.head (other ∷ [])) ≡ answers {O = O} {R = R} {A = A} (machine.Refused refusal))
    refused-from_on refusal e later prefix =
        let pair = same_all later prefix (seen.head ∷ other ∷ []) [] (is.head, (there, tt)) tt in
        merge-unprepared meaning seen.terms later seen.branch seen.head other refusal (reach_above later prefix ∙ above) (reach_below later prefix ∙ below)
        (merge_refusal-same meaning seen.terms.limits commits (store_of seen.terms.origin later).commits (seen.head ∷ other ∷ []) pair.visible ∙ e)

    module _ (merged : S) (stands : meaning.stands merged union) where
      merged_size : length (meaning.state_spelling merged) ≡ length (meaning.spelling_of union)
      merged_size =
          let part = visible_at_all-closed commits kept.ordered.ranked kept.ordered.rising kept.events kept.distinct (seen.head ∷ other ∷ []) in
          ap length (laws.one_spelling merged union (closed-lawful meaning union (all_events commits) kept.lawful part) stands)

      pub too_large-from_on : (size : ℕ) → size ≡ length (meaning.state_spelling merged) → seen.terms.limits.value < size
          → FromOn meaning seen.terms seen.history (λ later. turn meaning seen.terms later (machine.Merge seen.branch seen.head (other ∷ [])) ≡ answers {O = O} {R = R} {A = A} (machine.Refused (machine.ValueTooLarge size)))
      too_large-from_on size e large =
          let spelled = e ∙ merged_size in
          refused-from_on (machine.ValueTooLarge size)
          (merge-too_large meaning seen.terms.limits commits (seen.head ∷ other ∷ []) (subst (λ (n : ℕ). seen.terms.limits.value < n) spelled large) ∙ ap (λ n. Some (machine.ValueTooLarge n)) (sym spelled))

      pub merged-ready : (clock size : ℕ) → clock ≡ greatest_clock commits (seen.head ∷ other ∷ []) → size ≡ length (meaning.state_spelling merged) → size ≤ seen.terms.limits.value → IsReadyMerge meaning seen other clock merged
      merged-ready clock size timed e fits = record {
        there = there;
        above = above;
        below = below;
        fits = merge-none meaning seen.terms.limits commits (seen.head ∷ other ∷ []) (subst (λ (n : ℕ). n ≤ seen.terms.limits.value) (e ∙ merged_size) fits);
        timed = timed;
        stands = stands;
      }
