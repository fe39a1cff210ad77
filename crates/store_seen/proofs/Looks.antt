-- What holds at a look: its head's events, and what an operation there comes to.
use Rattle.std.proofs.Common.{◌≡◌, ℕ, ◌+◌, ◌<◌, ◌≤◌, ◌^◌, List, ◌∷◌, ◌++◌, length, ap, sym, ◌∙◌, arith, Some, None, subst, Result, Ok, Err, IfOk}
use mathlib.Core.List.{IsPrefix}
use Rattle.mrdt_model.specs.declared.time.Time.{Time}
use Rattle.mrdt_model.specs.Executions.{Event, IsAfter, next_event}
use Rattle.mrdt_model.specs.Laws.{Meaning, Lawful, KeepsLaws, Applies, Answers}
use Rattle.branch_names.specs.declared.layout.Layout.{Layout}
use Rattle.branch_history.specs.declared.moves.Move.{Move}
use Rattle.branch_history.specs.Commits.{Commit, clock_of, visible}
use Rattle.branch_history.specs.History.{store_of}
use Rattle.branch_history.specs.Laws.{IsSameAt}
use Rattle.branch_history.specs.Machine.{turn, answers, event_made, event_length, operation_refusal}
use Rattle.branch_history.specs.Steps as machine
use Rattle.branch_history.proofs.Kept.{IsKept, visible-after}
use Rattle.branch_history.proofs.Histories.{valid-kept, visible-lawful, made-lawful}
use Rattle.branch_history.proofs.Later.{commits-longer, longer-same_at, operation_refusal-same}
use Rattle.branch_history.proofs.Turns.{operation-exhausted, operation-too_large, operation-none, land-unprepared, ask-answers}
use Rattle.store_seen.specs.Keeps.{IsNode, IsSeen, IsReadyOperation, AreSpelled}
use Rattle.store_seen.specs.Turns.{Refuses, FromOn}
use Rattle.store_seen.specs.Views.{SeenView, SpelledView}

-- how many bytes the spellings have
pub spelled-size : {S O R Q A : Type 0} (meaning : Meaning S O R Q A) (layout : Layout) (value : S) (op : O) (reply : R) (s : SpelledView) → AreSpelled meaning layout value op reply s → (size : ℕ) → size ≡ s.size + length s.op + length s.reply
    → size ≡ length (meaning.state_spelling value) + length (meaning.op_spelling op) + length (meaning.reply_spelling reply)
spelled-size meaning layout value op reply s are size is =
    is
    ∙ ap (λ n. n + length s.op + length s.reply) are.size_is
    ∙ ap (λ l. length (meaning.state_spelling value) + length l + length s.reply) are.op_is
    ∙ ap (λ l. length (meaning.state_spelling value) + length (meaning.op_spelling op) + length l) are.reply_is

module _ {S O R Q A : Type 0} (meaning : Meaning S O R Q A) (laws : KeepsLaws meaning) (seen : SeenView (Move O R)) (is : IsSeen meaning seen) where
  abbrev commits : List (Commit O R)
  commits = (store_of seen.terms.origin seen.history).commits

  abbrev x : List (Event O R)
  x = visible (store_of seen.terms.origin seen.history).commits seen.head

  pub seen-kept : IsKept meaning seen.terms (store_of seen.terms.origin seen.history)
  seen-kept = valid-kept meaning seen.terms laws seen.history is.valid

  pub seen-there : seen.head < length commits
  seen-there = is.head

  -- the origin of the branch is a number of 32 bits
  pub seen-small : seen.terms.origin + seen.branch < 2 ^ 32
  seen-small =
      let fit = seen.terms.in_range in
      let few = seen-kept.few_branches in
      let there = is.branch in
      omega arith

  pub seen-lawful : Lawful meaning x
  seen-lawful = visible-lawful meaning seen.terms (store_of seen.terms.origin seen.history) seen-kept seen.head

  -- a commit stays as it was
  pub same-later : (n : ℕ) → n < length commits → (later : List (Move O R)) → IsPrefix seen.history later → IsSameAt commits (store_of seen.terms.origin later).commits n
  same-later n lt later prefix =
      subst (λ (l : List (Move O R)). IsSameAt commits (store_of seen.terms.origin l).commits n) prefix.1
      (longer-same_at commits (store_of seen.terms.origin (seen.history ++ prefix.0)).commits (commits-longer seen.terms.origin seen.history prefix.0) seen-kept.ordered.ranked n lt)

  pub answered-later : (query : Q) (answer : A) → answer ≡ meaning.answer_of x query
      → FromOn meaning seen.terms seen.history (λ later. turn meaning seen.terms later (machine.Ask seen.head query) ≡ answers {O = O} {R = R} (machine.Answered answer))
  answered-later query answer e later prefix =
      ask-answers meaning seen.terms later seen.head query
      ∙ ap (λ y. answers {O = O} {R = R} (machine.Answered (meaning.answer_of y query))) (same-later seen.head seen-there later prefix).visible
      ∙ ap (λ a. answers {O = O} {R = R} (machine.Answered a)) (sym e)

  module _ (op : O) where
    pub refused-later : (refusal : machine.Refusal) → operation_refusal meaning seen.terms.limits commits (seen.terms.origin + seen.branch) seen.head op ≡ Some refusal
        → FromOn meaning seen.terms seen.history (λ later. Refuses meaning seen.terms later (machine.Land seen.branch seen.head op) refusal)
    refused-later refusal e later prefix =
        land-unprepared meaning seen.terms later seen.branch seen.head op refusal
        (operation_refusal-same meaning seen.terms.limits commits (store_of seen.terms.origin later).commits (seen.terms.origin + seen.branch) seen.head op (same-later seen.head seen-there later prefix) ∙ e)

    module _ (clock : ℕ) (value : S) (node : IsNode meaning commits seen.head clock value) where
      pub op-exhausted : seen.terms.limits.clock ≤ clock → operation_refusal meaning seen.terms.limits commits (seen.terms.origin + seen.branch) seen.head op ≡ Some (machine.Exhausted clock)
      op-exhausted le =
          let timed = node.timed in
          operation-exhausted meaning seen.terms.limits commits (seen.terms.origin + seen.branch) seen.head op (omega arith) ∙ ap (λ n. Some (machine.Exhausted n)) (sym timed)

      abbrev time : Time
      time = record { clock = clock + 1; origin = seen.terms.origin + seen.branch }

      op-after : IsAfter x time
      op-after =
          subst (λ (n : ℕ). IsAfter x (record { clock = n + 1; origin = seen.terms.origin + seen.branch })) (sym node.timed)
          (visible-after commits seen-kept.ordered.ranked seen-kept.ordered.rising seen-kept.events seen.head (seen.terms.origin + seen.branch))

      module _ (state : S) (same : state ≡ value) (made : S) (reply : R) (applies : Applies meaning state op time made reply) where
        state_stands : meaning.stands state x
        state_stands = subst (λ (v : S). meaning.stands v x) (sym same) node.stands

        pub op-reply : reply ≡ meaning.reply_of x op
        op-reply = (applies x seen-lawful state_stands op-after).0

        pub op-stands : meaning.stands made (event_made meaning commits (seen.terms.origin + seen.branch) seen.head op ∷ x)
        op-stands =
            subst (λ (r : R). meaning.stands made (next_event x (record { clock = clock_of commits seen.head + 1; origin = seen.terms.origin + seen.branch }) op r ∷ x)) op-reply
            (subst (λ (n : ℕ). meaning.stands made (next_event x (record { clock = n + 1; origin = seen.terms.origin + seen.branch }) op reply ∷ x)) node.timed
            (applies x seen-lawful state_stands op-after).1)

        module _ (known : meaning.is_op op) (low : clock < seen.terms.limits.clock) where
          op-low : clock_of commits seen.head < seen.terms.limits.clock
          op-low = let timed = node.timed in omega arith

          abbrev length_made : ℕ
          length_made = length (meaning.state_spelling made) + length (meaning.op_spelling op) + length (meaning.reply_spelling reply)

          op-size : length_made ≡ event_length meaning (event_made meaning commits (seen.terms.origin + seen.branch) seen.head op) x
          op-size =
              let lawful = made-lawful meaning seen.terms laws seen.history is.valid (seen.terms.origin + seen.branch) seen.head op seen-small known op-low in
              let e = event_made meaning commits (seen.terms.origin + seen.branch) seen.head op in
              ap (λ s. length s + length (meaning.op_spelling op) + length (meaning.reply_spelling reply)) (laws.one_spelling made (e ∷ x) lawful op-stands)
              ∙ ap (λ r. length (meaning.spelling_of (e ∷ x)) + length (meaning.op_spelling op) + length (meaning.reply_spelling r)) op-reply

          pub op-too_large : (size : ℕ) → size ≡ length_made → seen.terms.limits.value < size → operation_refusal meaning seen.terms.limits commits (seen.terms.origin + seen.branch) seen.head op ≡ Some (machine.ValueTooLarge size)
          op-too_large size e large =
              let same = e ∙ op-size in
              operation-too_large meaning seen.terms.limits commits (seen.terms.origin + seen.branch) seen.head op op-low (subst (λ (n : ℕ). seen.terms.limits.value < n) same large)
              ∙ ap (λ n. Some (machine.ValueTooLarge n)) (sym same)

          pub op-fits : (size : ℕ) → size ≡ length_made → size ≤ seen.terms.limits.value → operation_refusal meaning seen.terms.limits commits (seen.terms.origin + seen.branch) seen.head op ≡ None
          op-fits size e fits =
              let same = e ∙ op-size in
              operation-none meaning seen.terms.limits commits (seen.terms.origin + seen.branch) seen.head op op-low (subst (λ (n : ℕ). n ≤ seen.terms.limits.value) same fits)

          pub op-ready : (size : ℕ) → size ≡ length_made → size ≤ seen.terms.limits.value → meaning.is_reply reply → IsReadyOperation meaning seen time made op reply
          op-ready size e fits known_reply = record {
            known = known;
            known_reply = known_reply;
            fits = op-fits size e fits;
            timed = ap (λ n. record { clock = n + 1; origin = seen.terms.origin + seen.branch }) node.timed;
            replies = op-reply;
            stands = op-stands;
          }

  pub asked-later : (clock : ℕ) (value : S) → IsNode meaning commits seen.head clock value → (state : S) → state ≡ value → (query : Q) {E : Type 0} (r : Result A E) → IfOk r (Answers meaning state query)
      → IfOk r (λ answer. FromOn meaning seen.terms seen.history (λ later. turn meaning seen.terms later (machine.Ask seen.head query) ≡ answers {O = O} {R = R} (machine.Answered answer)))
  asked-later clock value node state same query (Ok answer) is =
      answered-later query answer (is x seen-lawful (subst (λ (v : S). meaning.stands v x) (sym same) node.stands))
  asked-later clock value node state same query (Err e) is = tt

  pub value-spelled : (clock : ℕ) (value : S) → IsNode meaning commits seen.head clock value → (state : S) → state ≡ value → meaning.state_spelling state ≡ meaning.spelling_of x
  value-spelled clock value node state same = ap meaning.state_spelling same ∙ laws.one_spelling value x seen-lawful node.stands
