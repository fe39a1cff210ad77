-- What clients that share a store come to.
use Rattle.std.specs.Prelude.{◌≡◌, ◌≢◌, ℕ, ◌+◌, ◌≤◌, List, [], ◌∷◌, ◌++◌, length, slice_get, Some, sum_by}
use Rattle.std.specs.List.{AllZip}
use mathlib.Core.List.{IsPrefix}
use Rattle.branch_front.specs.Lists.{AreApart}
use Rattle.branch_history.specs.declared.moves.Move.{Move}
use Rattle.branch_machine.specs.Fixed.{Fixed}
use Rattle.branch_machine.specs.Validity.{IsFullyValid}
use Rattle.branch_script.specs.declared.step.Step.{Step}
use Rattle.branch_shared.specs.Passes.{PassView}
use Rattle.parallel_clients.specs.declared.outcome.Outcome.{Outcome}
use Rattle.parallel_clients.specs.Outcomes.{Setting, IsOutcome, places_of}

-- how many moves the clients made in all
abbrev pub count_places : List Outcome → ℕ
count_places outcomes = sum_by (λ outcome. length (places_of outcome)) outcomes

-- the places of all clients, in the order of their outcomes
abbrev pub all_places : List Outcome → List ℕ
all_places [] = []
all_places (outcome ∷ outcomes) = places_of outcome ++ all_places outcomes

-- no two clients have a place in common
abbrev pub HavePlacesApart : List Outcome → Type 0
HavePlacesApart outcomes = (one other : ℕ) (first second : Outcome) → one ≢ other → slice_get outcomes one ≡ Some first → slice_get outcomes other ≡ Some second → AreApart (places_of first) (places_of second)

-- where what a pass had seen is a valid history, what it has seen now is one
abbrev pub KeepsValid : {S O R Q A : Type 0} → Fixed S O R Q A → PassView (Move O R) → PassView (Move O R) → Type 0
KeepsValid fixed old new = IsFullyValid fixed old.moves → IsFullyValid fixed new.moves

-- Each script has its outcome. The pass has seen what each client saw, and claims the moves that they made, no two of them the
-- same one.
pub record Ran {S O R Q A : Type 0} (on : Setting S O R Q A) (old new : PassView (Move O R)) (scripts : List (List Step)) (outcomes : List Outcome) : Type 0 where
  pub each : AllZip (IsOutcome on old.moves new.moves new.faults) scripts outcomes
  pub seen : IsPrefix old.moves new.moves
  pub valid : KeepsValid on.fixed old new
  pub faults : old.faults ≤ new.faults
  pub apart : HavePlacesApart outcomes
  pub rest : new ≡ record old { moves = new.moves; sure = new.sure; others = old.others ++ all_places outcomes; faults = new.faults; receipts = old.receipts + count_places outcomes }
