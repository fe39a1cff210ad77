-- The value that a landing brings is spelled as it was prepared.
use Rattle.std.specs.Prelude.{◌≡◌, ℕ, ◌+◌, ◌-◌, List, [], ◌∷◌, ◌++◌, length, Some, None, IfSome}
use Rattle.std.specs.declared.option.Option.{Option}
use mathlib.Core.List.{IsPrefix}
use Rattle.mrdt_model.specs.Laws.{Meaning}
use Rattle.branch_history.specs.declared.moves.Move.{Move}
use Rattle.branch_history.specs.Commits.{visible, visible_at_all}
use Rattle.branch_history.specs.History.{store_of}
use Rattle.branch_history.specs.Machine.{event_made}
use Rattle.branch_machine.specs.Fixed.{Fixed, fix}
use Rattle.branch_machine.specs.Machine.{full_turn}
use Rattle.branch_machine.specs.Objects.{store_after}
use Rattle.branch_machine.specs.Validity.{IsFullyValid}
use Rattle.branch_names.specs.declared.terms.Terms.{Terms}
use Rattle.store_seen.specs.Turns.{move_of}
use Rattle.store_core.specs.Turns.{step_made}
use Rattle.store_seen.specs.Views.{SeenView, PreparedView, Work, Operation, Merge, Join, Forward}

-- The spelling of the value that a work on a look makes: of an operation, that of what is visible at the head with the new event; of a merge, that of what is visible at either commit; of a join, that of what is visible at the head or one of the commits. A move up makes no value.
abbrev pub value_of_work : {S O R Q A : Type 0} → Meaning S O R Q A → SeenView (Move O R) → Work O R → Option (List ℕ)
value_of_work meaning seen (Operation op reply) =
    let commits = (store_of seen.terms.origin seen.history).commits in
    Some (meaning.spelling_of (event_made meaning commits (seen.terms.origin + seen.branch) seen.head op ∷ visible commits seen.head))
value_of_work meaning seen (Merge commit) = Some (meaning.spelling_of (visible_at_all (store_of seen.terms.origin seen.history).commits (seen.head ∷ commit ∷ [])))
value_of_work meaning seen (Join commits) = Some (meaning.spelling_of (visible_at_all (store_of seen.terms.origin seen.history).commits (seen.head ∷ commits)))
value_of_work meaning seen (Forward commit) = None

-- the newest commit of the history has the value that was prepared: what is visible there is spelled so
abbrev pub LandsSpelled : {S O R Q A : Type 0} → Fixed S O R Q A → PreparedView O R → List (Move O R) → Type 0
LandsSpelled fixed made history = IfSome (value_of_work fixed.meaning made.seen made.work) (λ bytes.
    let commits = (store_after fixed history).commits in
    bytes ≡ fixed.meaning.spelling_of (visible commits (length commits - 1)))

-- wherever the machine lands what was prepared, on a history that begins with the one it was prepared on, its value is spelled so
abbrev pub SpellsLandings : {S O R Q A : Type 0} → Meaning S O R Q A → (List ℕ → List ℕ) → PreparedView O R → Type 0
SpellsLandings {S} {O} {R} meaning address made =
    (terms : Terms) (history : List (Move O R)) → IsFullyValid (fix meaning terms address) (history ++ move_of made.seen.branch made.work ∷ [])
    → IsPrefix made.seen.history history → made.seen.terms ≡ terms → (full_turn (fix meaning terms address) history (step_made made)).made ≡ move_of made.seen.branch made.work ∷ []
    → LandsSpelled (fix meaning terms address) made (history ++ move_of made.seen.branch made.work ∷ [])
