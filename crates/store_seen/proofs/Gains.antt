-- A core that receives a commit of another store.
use Rattle.std.proofs.Common.{◌≡◌, ℕ, ◌<◌, List, [], ◌∷◌, ◌++◌, length, refl, ap, sym, ◌∙◌, Option, Some, None, subst}
use Rattle.mrdt_model.specs.Laws.{Meaning, KeepsLaws}
use Rattle.branch_graph.specs.Graph.{Ancestry}
use Rattle.branch_names.specs.declared.terms.Terms.{Terms}
use Rattle.branch_names.specs.Heads.{Table}
use Rattle.branch_history.specs.declared.moves.Move.{Move}
use Rattle.branch_history.specs.declared.moves.Move.TheVariants as move
use Rattle.branch_history.specs.Commits.{Commit}
use Rattle.branch_history.specs.History.{Store, store_of, received_commit}
use Rattle.branch_history.specs.Machine.{makes}
use Rattle.branch_history.specs.Steps as machine
use Rattle.branch_history.specs.Validity.{IsMove}
use Rattle.branch_history.proofs.Valid.{IsAccepted-from, store_of-more, new-room, received_operation-tells, received_merge-tells}
use Rattle.machine_answers.specs.Answers.{TurnsAs}
use Rattle.store_seen.specs.declared.answers.ReceiveRefused.{ReceiveRefused}
use Rattle.store_seen.specs.declared.answers.ReceiveRefused.TheVariants as receive_refusal
use Rattle.store_seen.specs.declared.arrival.Arriving.{Arriving}
use Rattle.store_seen.specs.Answers.{not_received}
use Rattle.store_seen.specs.Arrivals.{IsArrival}
use Rattle.store_seen.specs.Nodes.{IsCore, AddsReceived}
use Rattle.store_seen.specs.Views.{CoreView}
use Rattle.store_seen.proofs.Cores.{core-grown}

module _ {S O R Q A : Type 0} (meaning : Meaning S O R Q A) (laws : KeepsLaws meaning) (terms : Terms) (history : List (Move O R)) (table : Table) (graph : Ancestry) (clocks : List ℕ) (values : List S) (core : IsCore meaning terms history table graph clocks values) where
  pub received-core : (parents : List ℕ) (origin clock : ℕ) (act : Option (O × R)) (value : S) → AddsReceived meaning terms history parents origin clock act value
      → (moves : List (Move O R)) → moves ≡ history ++ move.Received parents origin clock act ∷ [] → (grown : Ancestry) → grown ≡ record graph { commits = graph.commits ++ parents ∷ [] }
      → (more_clocks : List ℕ) → more_clocks ≡ clocks ++ clock ∷ [] → (more_values : List S) → more_values ≡ values ++ value ∷ [] → IsCore meaning terms moves table grown more_clocks more_values
  received-core parents origin clock act value adds moves is grown pushed more_clocks clocked more_values valued =
      let m : Move O R = move.Received parents origin clock act in
      let s : Store O R = store_of terms.origin history in
      let after = store_of-more terms.origin history m in
      let c : Commit O R = received_commit s.commits parents origin clock act in
      let branches : table ≡ record table { branches = (store_of terms.origin (history ++ m ∷ [])).branches } =
      ap (λ bs. record table { branches = bs }) (ap (λ (t : Table). t.branches) core.heads ∙ ap (λ (z : Store O R). z.branches) (sym after)) in
      subst (λ (l : List (Move O R)). IsCore meaning terms l table grown more_clocks more_values) (sym is)
      (subst (λ (l : List ℕ). IsCore meaning terms (history ++ m ∷ []) table grown l more_values) (sym clocked)
      (subst (λ (l : List S). IsCore meaning terms (history ++ m ∷ []) table grown (clocks ++ clock ∷ []) l) (sym valued)
      (core-grown meaning laws terms history table graph clocks values core m adds.moves table branches c (ap (λ (z : Store O R). z.commits) after) value adds.stands grown pushed)))

module _ {S O R Q A : Type 0} (meaning : Meaning S O R Q A) (terms : Terms) (history : List (Move O R)) where
  -- where a commit was received there was room for it
  pub received-room : (parents : List ℕ) (origin clock : ℕ) (act : Option (O × R)) → IsMove meaning terms history (move.Received parents origin clock act) → length (store_of terms.origin history).commits < terms.limits.commits
  received-room parents origin clock None made =
      let is = IsAccepted-from meaning terms history (move.Received parents origin clock None) made in
      (new-room meaning terms history (received_merge-tells meaning terms history origin parents is.received).2).0
  received-room parents origin clock (Some d) made =
      let is = IsAccepted-from meaning terms history (move.Received parents origin clock (Some d)) made in
      (new-room meaning terms history (received_operation-tells meaning terms history origin is.parent d.0 is.received).3).0

  pub received-left : (parents : List ℕ) (origin clock : ℕ) (act : Option (O × R)) → IsMove meaning terms history (move.Received parents origin clock act) → length history < terms.limits.moves
  received-left parents origin clock None made =
      let is = IsAccepted-from meaning terms history (move.Received parents origin clock None) made in
      (new-room meaning terms history (received_merge-tells meaning terms history origin parents is.received).2).1
  received-left parents origin clock (Some d) made =
      let is = IsAccepted-from meaning terms history (move.Received parents origin clock (Some d)) made in
      (new-room meaning terms history (received_operation-tells meaning terms history origin is.parent d.0 is.received).3).1

-- where the machine makes a move, nothing but want of memory stops it
pub only-short : {O R A : Type 0} (whole : machine.Turn O R A) (made : Move O R) (outcome : machine.Outcome A R) → whole ≡ makes made outcome → (e : ReceiveRefused) → TurnsAs (not_received e) whole → e ≡ receive_refusal.Memory
only-short whole made outcome is receive_refusal.OwnOrigin by = absurd (let both = ap (λ t. t.made) (sym is ∙ by) in cc)
only-short whole made outcome is (receive_refusal.TimeClash number) by = absurd (let both = ap (λ t. t.made) (sym is ∙ by) in cc)
only-short whole made outcome is (receive_refusal.Exhausted clock) by = absurd (let both = ap (λ t. t.made) (sym is ∙ by) in cc)
only-short whole made outcome is (receive_refusal.ValueTooLarge length) by = absurd (let both = ap (λ t. t.made) (sym is ∙ by) in cc)
only-short whole made outcome is (receive_refusal.FullCommits count) by = absurd (let both = ap (λ t. t.made) (sym is ∙ by) in cc)
only-short whole made outcome is (receive_refusal.FullMoves count) by = absurd (let both = ap (λ t. t.made) (sym is ∙ by) in cc)
only-short whole made outcome is receive_refusal.Memory by = refl

module _ {S O R Q A : Type 0} (meaning : Meaning S O R Q A) where
  -- what was made anew at the history of a core, by its case
  pub arrival-now : (terms : Terms) (history : List (Move O R)) (origin : ℕ) (made : Arriving S O R) → IsArrival meaning terms history origin made → (core : CoreView (Move O R)) → record { history = history; terms = terms } ≡ core
      → (again : Arriving S O R) → made ≡ again → IsArrival meaning core.terms core.history origin again
  arrival-now terms history origin made is core same again case =
      subst (λ (k : CoreView (Move O R)). IsArrival meaning k.terms k.history origin again) same (subst (λ (r : Arriving S O R). IsArrival meaning terms history origin r) case is)
