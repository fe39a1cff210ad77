-- The clients of a store before, at and after their work.
use Rattle.std.specs.Prelude.{◌≡◌, ℕ, ◌+◌, ◌*◌, ◌-◌, ◌≤◌, List, [], ◌++◌, length, vec_capacity}
use Rattle.std.specs.List.{AllZip}
use mathlib.Core.List.{IsPrefix}
use Rattle.branch_front.specs.Lists.{AreDistinct}
use Rattle.branch_history.specs.declared.moves.Move.{Move}
use Rattle.branch_script.specs.declared.step.Step.{Step}
use Rattle.branch_shared.specs.Passes.{PassView}
use Rattle.parallel_clients.specs.declared.clients.Entrant.{Entrant}
use Rattle.parallel_clients.specs.declared.clients.Seat.{Seat}
use Rattle.parallel_clients.specs.declared.outcome.Outcome.{Outcome}
use Rattle.parallel_clients.specs.Clients.{KeepsValid, all_places, count_places}
use Rattle.parallel_clients.specs.Outcomes.{Setting, IsOutcome, places_of}
use Rattle.parallel_clients.specs.Sessions.{Advances}

-- the seat of a script, with room for a place for each of its steps, and none taken
pub record IsSeat (steps : List Step) (seat : Seat) : Type 0 where
  pub steps_are : seat.steps.now ≡ steps
  pub none : seat.places.items ≡ []
  pub room : length steps ≤ vec_capacity seat.places

-- a client on a seat, with two parts of a pass, that has done nothing yet
pub record IsReady {M : Type 0} (from : PassView M) (seat : Seat) (entrant : Entrant (PassView M)) : Type 0 where
  pub seat_is : entrant.seat ≡ seat
  pub pass_is : entrant.pass ≡ record from { mine = []; others = []; parts = 2; receipts = 0 }

-- so many clients entered, each with two parts of a pass
abbrev pub HaveEntered : {M : Type 0} → ℕ → PassView M → PassView M → Type 0
HaveEntered count old new = new ≡ record old { parts = old.parts - 2 * count }

-- what a client did
pub record HasWorked {S O R Q A : Type 0} (on : Setting S O R Q A) (before after : Entrant (PassView (Move O R))) : Type 0 where
  pub steps_are : after.seat.steps.now ≡ before.seat.steps.now
  pub became : IsOutcome on before.pass.moves after.pass.moves after.pass.faults before.seat.steps.now after.outcome
  pub advances : Advances before.pass after.pass [] (places_of after.outcome)
  pub valid : KeepsValid on.fixed before.pass after.pass

-- a client that has done its script, and began where a pass was
pub record HasRun {S O R Q A : Type 0} (on : Setting S O R Q A) (from : PassView (Move O R)) (steps : List Step) (entrant : Entrant (PassView (Move O R))) : Type 0 where
  pub became : IsOutcome on from.moves entrant.pass.moves entrant.pass.faults steps entrant.outcome
  pub seen : IsPrefix from.moves entrant.pass.moves
  pub parts : entrant.pass.parts ≡ 2
  pub mine : entrant.pass.mine ≡ places_of entrant.outcome
  pub others : entrant.pass.others ≡ []
  pub counted : entrant.pass.receipts ≡ length (places_of entrant.outcome)
  pub valid : KeepsValid on.fixed from entrant.pass

-- a client that has done its own script
abbrev pub HasRunOwn : {S O R Q A : Type 0} → Setting S O R Q A → PassView (Move O R) → Entrant (PassView (Move O R)) → Type 0
HasRunOwn on from entrant = HasRun on from entrant.seat.steps.now entrant

-- what became of a client's own script
abbrev pub IsOwnOutcome : {S O R Q A : Type 0} → Setting S O R Q A → PassView (Move O R) → PassView (Move O R) → Entrant (PassView (Move O R)) → Outcome → Type 0
IsOwnOutcome on old new entrant outcome = IsOutcome on old.moves new.moves new.faults entrant.seat.steps.now outcome

-- some clients have left into a pass, which claims their moves, each once
pub record HaveLeft {S O R Q A : Type 0} (on : Setting S O R Q A) (old new : PassView (Move O R)) (entrants : List (Entrant (PassView (Move O R)))) (outcomes : List Outcome) : Type 0 where
  pub each : AllZip (IsOwnOutcome on old new) entrants outcomes
  pub seen : IsPrefix old.moves new.moves
  pub valid : KeepsValid on.fixed old new
  pub faults : old.faults ≤ new.faults
  pub mine : new.mine ≡ old.mine
  pub others : new.others ≡ old.others ++ all_places outcomes
  pub once : AreDistinct (all_places outcomes)
  pub parts : new.parts ≡ old.parts + 2 * length entrants
  pub counted : new.receipts ≡ old.receipts + count_places outcomes
