-- What is written of a ready work is what the history means.
use Rattle.std.proofs.Common.{◌≡◌, ℕ, ◌+◌, ◌∷◌, [], List, length, ap, ◌∙◌}
use Rattle.mrdt_model.specs.declared.time.Time.{Time}
use Rattle.mrdt_model.specs.Executions.{Event}
use Rattle.mrdt_model.specs.Laws.{Meaning, KeepsLaws}
use Rattle.branch_history.specs.declared.moves.Move.{Move}
use Rattle.branch_history.specs.Commits.{Commit, visible, visible_at_all, all_events}
use Rattle.branch_history.specs.History.{store_of}
use Rattle.branch_history.specs.Machine.{event_made}
use Rattle.branch_history.proofs.Histories.{made-lawful}
use Rattle.branch_history.proofs.Kept.{IsKept, visible_at_all-closed, closed-lawful}
use Rattle.branch_history.proofs.Valid.{operation-room}
use Rattle.store_seen.specs.declared.spelled.SpelledValue.{SpelledValue}
use Rattle.store_seen.specs.Keeps.{kept_spelling, IsSeen, IsReadyOperation, IsReadyMerge, IsReadyJoin, IsSpelledValue, AreSpelled}
use Rattle.store_seen.specs.Views.{SeenView, SpelledView}
use Rattle.store_seen.specs.Written.{IsWrittenOperation, IsWrittenMerge, IsWrittenJoin}
use Rattle.store_seen.proofs.Looks.{seen-kept, seen-small}

module _ {S O R Q A : Type 0} (meaning : Meaning S O R Q A) (laws : KeepsLaws meaning) (seen : SeenView (Move O R)) (is : IsSeen meaning seen) where
  abbrev commits : List (Commit O R)
  commits = (store_of seen.terms.origin seen.history).commits

  kept : IsKept meaning seen.terms (store_of seen.terms.origin seen.history)
  kept = seen-kept meaning laws seen is

  pub operation-written : (time : Time) (value : S) (op : O) (reply : R) (spelled : SpelledView) → IsReadyOperation meaning seen time value op reply → AreSpelled meaning seen.terms.layout value op reply spelled → IsWrittenOperation meaning seen op reply time.clock spelled.size spelled.value spelled.op spelled.reply
  operation-written time value op reply spelled ready are =
      let low = operation-room meaning seen.terms seen.history (seen.terms.origin + seen.branch) seen.head op ready.fits in
      let lawful = made-lawful meaning seen.terms laws seen.history is.valid (seen.terms.origin + seen.branch) seen.head op (seen-small meaning laws seen is) ready.known low in
      let one = laws.one_spelling value (event_made meaning commits (seen.terms.origin + seen.branch) seen.head op ∷ visible commits seen.head) lawful ready.stands in
      record {
        clock_is = ap (λ t. t.clock) ready.timed;
        replies = ready.replies;
        size_is = are.size_is ∙ ap length one;
        value_is = are.value_is ∙ ap (kept_spelling seen.terms.layout) one;
        op_is = are.op_is;
        reply_is = are.reply_is;
      }

  pub merge-written : (commit clock : ℕ) (value : S) (spelled : SpelledValue) (other : ℕ) → other ≡ commit → IsReadyMerge meaning seen commit clock value → IsSpelledValue meaning seen.terms.layout value spelled
      → IsWrittenMerge meaning seen commit other clock spelled.size spelled.bytes
  merge-written commit clock value spelled other same ready are =
      let union : List (Event O R) = visible_at_all commits (seen.head ∷ commit ∷ []) in
      let part = visible_at_all-closed commits kept.ordered.ranked kept.ordered.rising kept.events kept.distinct (seen.head ∷ commit ∷ []) in
      let one = laws.one_spelling value union (closed-lawful meaning union (all_events commits) kept.lawful part) ready.stands in
      record {
        other_is = same;
        there = ready.there;
        clock_is = ready.timed;
        size_is = are.size_is ∙ ap length one;
        value_is = are.bytes_are ∙ ap (kept_spelling seen.terms.layout) one;
      }

  pub join-written : (commits_joined : List ℕ) (clock : ℕ) (value : S) (spelled : SpelledValue) (others : List ℕ) → others ≡ commits_joined → IsReadyJoin meaning seen commits_joined clock value → IsSpelledValue meaning seen.terms.layout value spelled
      → IsWrittenJoin meaning seen commits_joined others clock spelled.size spelled.bytes
  join-written commits_joined clock value spelled others same ready are =
      let union : List (Event O R) = visible_at_all commits (seen.head ∷ commits_joined) in
      let part = visible_at_all-closed commits kept.ordered.ranked kept.ordered.rising kept.events kept.distinct (seen.head ∷ commits_joined) in
      let one = laws.one_spelling value union (closed-lawful meaning union (all_events commits) kept.lawful part) ready.stands in
      record {
        others_are = same;
        there = ready.there;
        several = ready.several;
        few = ready.few;
        clock_is = ready.timed;
        size_is = are.size_is ∙ ap length one;
        value_is = are.bytes_are ∙ ap (kept_spelling seen.terms.layout) one;
      }
