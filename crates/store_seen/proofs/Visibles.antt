-- What a commit of a history holds: what its value stands for and answers.
use Rattle.std.proofs.Common.{◌≡◌, ℕ, ◌<◌, List, ◌++◌, length, slice_get, ap, sym, ◌∙◌, Some, subst, Result, Ok, Err, IfOk}
use Rattle.std.proofs.lemmas.Option.{slice_get-get_or}
use mathlib.Core.List.{IsPrefix}
use Rattle.mrdt_model.specs.Executions.{Event}
use Rattle.mrdt_model.specs.Laws.{Meaning, Lawful, KeepsLaws, Answers}
use Rattle.branch_graph.specs.Graph.{Ancestry}
use Rattle.branch_names.specs.Heads.{Table}
use Rattle.branch_names.specs.declared.terms.Terms.{Terms}
use Rattle.branch_history.specs.declared.moves.Move.{Move}
use Rattle.branch_history.specs.Commits.{visible}
use Rattle.branch_history.specs.History.{store_of}
use Rattle.branch_history.specs.Laws.{IsSameAt}
use Rattle.branch_history.specs.Machine.{turn, answers}
use Rattle.branch_history.specs.Steps as machine
use Rattle.branch_history.proofs.Kept.{IsKept}
use Rattle.branch_history.proofs.Histories.{valid-kept, visible-lawful}
use Rattle.branch_history.proofs.Later.{commits-longer, longer-same_at}
use Rattle.branch_history.proofs.Turns.{ask-answers}
use Rattle.store_seen.specs.Nodes.{IsCore}
use Rattle.store_seen.specs.Turns.{FromOn}

module _ {S O R Q A : Type 0} (meaning : Meaning S O R Q A) (laws : KeepsLaws meaning) (terms : Terms) (history : List (Move O R)) (table : Table) (graph : Ancestry) (clocks : List ℕ) (values : List S) (core : IsCore meaning terms history table graph clocks values)
    (n : ℕ) (there : n < length (store_of terms.origin history).commits) (value : S) (found : slice_get values n ≡ Some value) where
  abbrev x : List (Event O R)
  x = visible (store_of terms.origin history).commits n

  kept : IsKept meaning terms (store_of terms.origin history)
  kept = valid-kept meaning terms laws history core.valid

  lawful : Lawful meaning x
  lawful = visible-lawful meaning terms (store_of terms.origin history) kept n

  pub past-stands : meaning.stands value (visible (store_of terms.origin history).commits n)
  past-stands = (core.each n _ value (slice_get-get_or clocks n 0 (subst (λ (m : ℕ). n < m) (sym core.count) there)) found).stands

  pub past-spelled : meaning.state_spelling value ≡ meaning.spelling_of (visible (store_of terms.origin history).commits n)
  past-spelled = laws.one_spelling value x lawful past-stands

  same-later : (later : List (Move O R)) → IsPrefix history later → IsSameAt (store_of terms.origin history).commits (store_of terms.origin later).commits n
  same-later later prefix =
      subst (λ (l : List (Move O R)). IsSameAt (store_of terms.origin history).commits (store_of terms.origin l).commits n) prefix.1
      (longer-same_at (store_of terms.origin history).commits (store_of terms.origin (history ++ prefix.0)).commits (commits-longer terms.origin history prefix.0) kept.ordered.ranked n there)

  pub past-asked : (query : Q) {E : Type 0} (r : Result A E) → IfOk r (Answers meaning value query)
      → IfOk r (λ answer. FromOn meaning terms history (λ later. turn meaning terms later (machine.Ask n query) ≡ answers {O = O} {R = R} (machine.Answered answer)))
  past-asked query (Ok answer) is = λ later prefix.
      ask-answers meaning terms later n query
      ∙ ap (λ y. answers {O = O} {R = R} (machine.Answered (meaning.answer_of y query))) (same-later later prefix).visible
      ∙ ap (λ a. answers {O = O} {R = R} (machine.Answered a)) (sym (is x lawful past-stands))
  past-asked query (Err e) is = tt
