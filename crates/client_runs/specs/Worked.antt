-- What becomes of clients that do drawn steps. Its words are no part of this: the layer that writes them tells a client's number, and then that it is done and how
-- many places it has, or the text of the refusal.
use Rattle.std.specs.Prelude.{◌≡◌, ◌≢◌, ℕ, ◌+◌, ◌<◌, true, List, length, slice_get, Some}
use Rattle.std.specs.List.{AllZip}
use Rattle.branch_front.specs.Lists.{AreAllWithin}
use Rattle.branch_names.specs.Heads.{is_dropped}
use Rattle.branch_history.specs.declared.moves.Move.{Move}
use Rattle.branch_history.specs.History.{store_of}
use Rattle.branch_machine.specs.Fixed.{Fixed}
use Rattle.branch_doc.specs.Types.{PlainForms}
use Rattle.branch_script.specs.declared.step.Step.{Step}
use Rattle.branch_gen.specs.Clients.{client_steps}
use Rattle.parallel_clients.specs.declared.outcome.ClientRefusal.{ClientRefusal}
use Rattle.parallel_clients.specs.declared.outcome.ClientRefusal.TheVariants as refusal
use Rattle.parallel_clients.specs.declared.outcome.Outcome.{Outcome}
use Rattle.parallel_clients.specs.declared.outcome.Outcome.TheVariants.{Done, Refused, Unseen}
use Rattle.parallel_clients.specs.Allowed.{MayMake}
use Rattle.parallel_clients.specs.Clients.{all_places, count_places, HavePlacesApart}
use Rattle.parallel_clients.specs.Outcomes.{Setting, IsOutcome}

-- each script has its outcome, in their order, where a history grew from an old one to a new one, and the disk has had so many faults since it was opened; as many
-- moves are new as the outcomes have places, which are the numbers of these moves, each once: no two clients have one in common
pub record HaveRun {S O R Q A : Type 0} (on : Setting S O R Q A) (old new : List (Move O R)) (faults : ℕ) (scripts : List (List Step)) (outcomes : List Outcome) : Type 0 where
  pub each : AllZip (IsOutcome on old new faults) scripts outcomes
  pub apart : HavePlacesApart outcomes
  pub all : AreAllWithin (length old) (all_places outcomes) (length new)
  pub counted : length new ≡ length old + count_places outcomes

-- What may refuse a client of drawn steps, where a history grew from an old one to a new one: no unknown branch, none that was dropped since, no drop, and no step of a kind that
-- the store lacks. A full store has the
-- count that is told, which is the limit; a clock is exhausted at the limit, and a value is too large over the limit. Objects that collide have one address and other bytes.
abbrev pub MayRefuse : {S O R Q A : Type 0} → Fixed S O R Q A → List (Move O R) → List (Move O R) → ClientRefusal → Type 0
MayRefuse fixed old new (refusal.UnknownBranch name) = ⊥
MayRefuse fixed old new (refusal.Dropped branch) = is_dropped (store_of fixed.terms.origin old).branches branch ≡ true
MayRefuse fixed old new refusal.KeepsMain = ⊥
MayRefuse fixed old new (refusal.Exhausted clock) = clock ≡ fixed.terms.limits.clock
MayRefuse fixed old new (refusal.FullCommits count) = (count ≡ fixed.terms.limits.commits) × (count ≡ length (store_of fixed.terms.origin new).commits)
MayRefuse fixed old new (refusal.FullBranches count) = (count ≡ fixed.terms.limits.branches) × (count ≡ length (store_of fixed.terms.origin new).branches)
MayRefuse fixed old new (refusal.FullMoves count) = (count ≡ fixed.terms.limits.moves) × (count ≡ length new)
MayRefuse fixed old new (refusal.ValueTooLarge length) = fixed.terms.limits.value < length
MayRefuse fixed old new (refusal.Collision address stored fresh) = (fixed.address stored ≡ address) × (fixed.address fresh ≡ address) × (stored ≢ fresh)
MayRefuse fixed old new refusal.NoSequences = ⊥
MayRefuse fixed old new refusal.DiskFault = Unit {0}
MayRefuse fixed old new (refusal.Failed count) = Unit {0}
MayRefuse fixed old new refusal.Memory = Unit {0}

-- what may become of such a client: none names a session that has not looked
abbrev pub MayComeTo : {S O R Q A : Type 0} → Fixed S O R Q A → List (Move O R) → List (Move O R) → Outcome → Type 0
MayComeTo fixed old new (Done places) = Unit {0}
MayComeTo fixed old new (Refused step refusal places) = MayRefuse fixed old new refusal
MayComeTo fixed old new (Unseen step places) = ⊥

-- a step of one of so many clients of drawn steps may make the move
pub record IsOfClients {O R Q A : Type 0} (forms : PlainForms O Q R A) (count steps number : ℕ) (made : Move O R) : Type 0 where
  pub client : ℕ
  pub is_one : client < count
  pub place : ℕ
  pub step : Step
  pub is_step : slice_get (client_steps client steps number) place ≡ Some step
  pub may : MayMake forms step made

-- what became of a client with these steps, where a history grew from an old one to a new one, and the disk has had so many faults since it was opened
pub record HasWorked {S O R Q A : Type 0} (on : Setting S O R Q A) (old new : List (Move O R)) (faults : ℕ) (steps : List Step) (outcome : Outcome) : Type 0 where
  pub is : IsOutcome on old new faults steps outcome
  pub may : MayComeTo on.fixed old new outcome

-- so many clients have one outcome each, in their order. As many moves are new as the outcomes have places, which are the numbers of these moves, each once: no two
-- clients have one in common
pub record HaveWorked {S O R Q A : Type 0} (on : Setting S O R Q A) (old new : List (Move O R)) (faults count steps number : ℕ) (outcomes : List Outcome) : Type 0 where
  pub clients : length outcomes ≡ count
  pub each : (client : ℕ) (outcome : Outcome) → slice_get outcomes client ≡ Some outcome → HasWorked on old new faults (client_steps client steps number) outcome
  pub apart : HavePlacesApart outcomes
  pub all : AreAllWithin (length old) (all_places outcomes) (length new)
  pub counted : length new ≡ length old + count_places outcomes
