-- The machine's turns, of what a core's calls answer.
use Rattle.std.specs.Prelude.{◌≡◌, ℕ, List, [], ◌∷◌, ◌++◌, length, take, IsTrue, Some}
use Rattle.std.specs.declared.option.Option.{Option}
use mathlib.Core.List.{IsPrefix}
use Rattle.mrdt_model.specs.Laws.{Meaning}
use Rattle.branch_names.specs.declared.terms.Terms.{Terms}
use Rattle.branch_history.specs.declared.moves.Move.{Move}
use Rattle.branch_history.specs.declared.moves.Move.TheVariants as move
use Rattle.branch_names.specs.Heads.{head_of}
use Rattle.branch_graph.specs.Graph.{reaches}
use Rattle.branch_history.specs.Commits.{graph_of}
use Rattle.branch_history.specs.History.{store_of}
use Rattle.branch_history.specs.Steps as machine
use Rattle.branch_history.specs.Machine.{turn, answers}
use Rattle.store_seen.specs.declared.answers.Kind.{Kind}
use Rattle.store_seen.specs.declared.answers.Kind.TheVariants as kind
use Rattle.store_seen.specs.declared.answers.Forked.{Forked}
use Rattle.store_seen.specs.declared.answers.LookRefused.{LookRefused}
use Rattle.store_seen.specs.declared.answers.LookRefused.TheVariants as look_refusal
use Rattle.store_seen.specs.declared.answers.PrepareRefused.{PrepareRefused}
use Rattle.store_seen.specs.declared.answers.PrepareRefused.TheVariants as prepare_refusal
use Rattle.store_seen.specs.declared.answers.LandRefused.{LandRefused}
use Rattle.store_seen.specs.declared.answers.LandRefused.TheVariants as land_refusal
use Rattle.store_seen.specs.declared.answers.DropRefused.{DropRefused}
use Rattle.store_seen.specs.declared.answers.DropRefused.TheVariants as drop_refusal
use Rattle.store_seen.specs.declared.answers.ForkRefused.{ForkRefused}
use Rattle.store_seen.specs.declared.answers.ForkRefused.TheVariants as fork_refusal
use Rattle.machine_answers.specs.Answers.{Answer, Takes}
use Rattle.store_seen.specs.Views.{CoreView, VersionsView, SeenView, PreparedView, Work}
use Rattle.store_seen.specs.Views as work

-- the machine refuses a step, and nothing moves
abbrev pub Refuses : {S O R Q A : Type 0} → Meaning S O R Q A → Terms → List (Move O R) → machine.Step O Q → machine.Refusal → Type 0
Refuses {S} {O} {R} {Q} {A} meaning terms history step refusal = turn meaning terms history step ≡ answers {A = A} (machine.Refused refusal)

-- after each history that begins with this one
abbrev pub FromOn : {S O R Q A : Type 0} → Meaning S O R Q A → Terms → List (Move O R) → (List (Move O R) → Type 0) → Type 0
FromOn {S} {O} {R} meaning terms history P = (later : List (Move O R)) → IsPrefix history later → P later

abbrev pub LookRefusedAs : {S O R Q A : Type 0} → Meaning S O R Q A → CoreView (Move O R) → List ℕ → LookRefused → Type 0
LookRefusedAs meaning core name (look_refusal.UnknownBranch named) = (named ≡ name) × Refuses meaning core.terms core.history (machine.Look name) (machine.UnknownBranch name)
LookRefusedAs meaning core name look_refusal.Memory = Unit {0}

abbrev pub PrepareRefusedAs : {S O R Q A : Type 0} → Meaning S O R Q A → SeenView (Move O R) → O → PrepareRefused → Type 0
PrepareRefusedAs meaning seen op (prepare_refusal.Exhausted clock) = FromOn meaning seen.terms seen.history (λ later. Refuses meaning seen.terms later (machine.Land seen.branch seen.head op) (machine.Exhausted clock))
PrepareRefusedAs meaning seen op (prepare_refusal.ValueTooLarge length) = FromOn meaning seen.terms seen.history (λ later. Refuses meaning seen.terms later (machine.Land seen.branch seen.head op) (machine.ValueTooLarge length))
PrepareRefusedAs meaning seen op prepare_refusal.Memory = Unit {0}

-- the machine makes this move, and answers so; the history goes on by the move
pub record Moves {S O R Q A : Type 0} (meaning : Meaning S O R Q A) (old new : CoreView (Move O R)) (step : machine.Step O Q) (made : Move O R) (outcome : machine.Outcome A R) (moves : ℕ) : Type 0 where
  pub turn_is : turn meaning old.terms old.history step ≡ record { outcome = outcome; made = made ∷ [] }
  pub history : new ≡ record old { history = old.history ++ made ∷ [] }
  pub counted : moves ≡ length new.history

-- the step that a work on a look takes, and the move that it makes
abbrev pub step_of : {O R Q : Type 0} → SeenView (Move O R) → Work O R → machine.Step O Q
step_of seen (work.Operation op reply) = machine.Land seen.branch seen.head op
step_of seen (work.Merge commit) = machine.Merge seen.branch seen.head (commit ∷ [])
step_of seen (work.Join commits) = machine.Merge seen.branch seen.head commits
step_of seen (work.Forward commit) = machine.Merge seen.branch seen.head (commit ∷ [])

abbrev pub move_of : {O R : Type 0} → ℕ → Work O R → Move O R
move_of branch (work.Operation op reply) = move.Operation branch op reply
move_of branch (work.Merge commit) = move.Merge branch commit
move_of branch (work.Join commits) = move.Join branch commits
move_of branch (work.Forward commit) = move.Forward branch commit

abbrev pub outcome_of : {A R : Type 0} → Kind R → machine.Outcome A R
outcome_of (kind.Operation commit time reply) = machine.Landed commit time reply
outcome_of (kind.Merged commit) = machine.Merged commit
outcome_of (kind.Joined commit) = machine.Joined commit
outcome_of (kind.Forward commit) = machine.Forwarded commit

-- what was prepared landed as the machine's step does it
abbrev pub LandsAs : {S O R Q A : Type 0} → Meaning S O R Q A → PreparedView O R → CoreView (Move O R) → CoreView (Move O R) → ℕ → Kind R → Type 0
LandsAs {S} {O} {R} {Q} {A} meaning made old new moves kind = Moves meaning old new (step_of made.seen made.work) (move_of made.seen.branch made.work) (outcome_of kind) moves

-- the machine makes the move of what was prepared
abbrev pub MayLand : {S O R Q A : Type 0} → Meaning S O R Q A → PreparedView O R → CoreView (Move O R) → Type 0
MayLand meaning made core = (turn meaning core.terms core.history (step_of made.seen made.work)).made ≡ move_of made.seen.branch made.work ∷ []

-- the addresses of the commits' objects after a work: where it makes a commit, the last is that of this commit's object
abbrev pub addresses_after : {O R : Type 0} → Work O R → List ℕ → List (List ℕ) → List (List ℕ)
addresses_after (work.Operation op reply) address addresses = addresses ++ address ∷ []
addresses_after (work.Merge commit) address addresses = addresses ++ address ∷ []
addresses_after (work.Join commits) address addresses = addresses ++ address ∷ []
addresses_after (work.Forward commit) address addresses = addresses

-- before a move, the branch whose head it moves stood at this commit; some moves move none
abbrev pub StoodAt : {O R : Type 0} → Terms → List (Move O R) → Move O R → ℕ → Type 0
StoodAt terms moves (move.Fork name number from) head = Unit {0}
StoodAt terms moves (move.Operation branch op reply) head = head ≡ head_of (store_of terms.origin moves).branches branch
StoodAt terms moves (move.Merge branch commit) head = head ≡ head_of (store_of terms.origin moves).branches branch
StoodAt terms moves (move.Join branch commits) head = head ≡ head_of (store_of terms.origin moves).branches branch
StoodAt terms moves (move.Forward branch commit) head = head ≡ head_of (store_of terms.origin moves).branches branch
StoodAt terms moves (move.Received parents origin clock act) head = Unit {0}
StoodAt terms moves (move.Place name number commit) head = Unit {0}
StoodAt terms moves (move.Drop branch) head = Unit {0}

-- the branch whose head the last move of a history moved stood at this commit before
abbrev pub StoodBefore : {O R : Type 0} → Terms → List (Move O R) → ℕ → Type 0
StoodBefore {O} {R} terms history head = (moves : List (Move O R)) (made : Move O R) → history ≡ moves ++ made ∷ [] → StoodAt terms moves made head

-- the moves of a history without the last one
abbrev pub Undone : {O R : Type 0} → VersionsView (Move O R) → VersionsView (Move O R) → Type 0
Undone {O} {R} old new =
    (moves : List (Move O R)) (made : Move O R) → old.core.history ≡ moves ++ made ∷ []
    → new ≡ record { core = record old.core { history = moves }; addresses = take (length (store_of old.core.terms.origin moves).commits) old.addresses }

-- what the last move made of the old one goes back to it
abbrev pub GoesBack : {O R : Type 0} → VersionsView (Move O R) → VersionsView (Move O R) → Type 0
GoesBack {O} {R} new old = (back : VersionsView (Move O R)) → Undone new back → back ≡ old

-- a core's newest commits, as one sees them who looks at this branch and commit
abbrev pub at_head : {M : Type 0} → CoreView M → ℕ → ℕ → SeenView M
at_head core branch head = record { history = core.history; terms = core.terms; branch = branch; head = head }

-- a refusal of the machine is this one
abbrev pub RefusedBy : Option machine.Refusal → LandRefused → Type 0
RefusedBy refusal (land_refusal.Dropped branch) = refusal ≡ Some (machine.Dropped branch)
RefusedBy refusal (land_refusal.Stale newest) = refusal ≡ Some (machine.Stale newest)
RefusedBy refusal (land_refusal.FullCommits count) = refusal ≡ Some (machine.FullCommits count)
RefusedBy refusal (land_refusal.FullMoves count) = refusal ≡ Some (machine.FullMoves count)
RefusedBy refusal land_refusal.Memory = Unit {0}

-- a refusal of the machine to drop a branch is this one
abbrev pub DropRefusedBy : Option machine.Refusal → DropRefused → Type 0
DropRefusedBy refusal (drop_refusal.Dropped branch) = refusal ≡ Some (machine.Dropped branch)
DropRefusedBy refusal drop_refusal.KeepsMain = refusal ≡ Some machine.KeepsMain
DropRefusedBy refusal (drop_refusal.Stale newest) = refusal ≡ Some (machine.Stale newest)
DropRefusedBy refusal (drop_refusal.FullMoves count) = refusal ≡ Some (machine.FullMoves count)
DropRefusedBy refusal drop_refusal.Memory = Unit {0}

-- the machine refuses what was prepared, and a head that is not the newest lies below the newest
abbrev pub LandRefusedAs : {S O R Q A : Type 0} → Meaning S O R Q A → PreparedView O R → CoreView (Move O R) → LandRefused → Type 0
LandRefusedAs meaning made core (land_refusal.Dropped branch) = Refuses meaning core.terms core.history (step_of made.seen made.work) (machine.Dropped branch)
LandRefusedAs meaning made core (land_refusal.Stale newest) =
    Refuses meaning core.terms core.history (step_of made.seen made.work) (machine.Stale newest)
    × IsTrue (reaches (graph_of (store_of core.terms.origin core.history).commits) newest made.seen.head)
LandRefusedAs meaning made core (land_refusal.FullCommits count) = Refuses meaning core.terms core.history (step_of made.seen made.work) (machine.FullCommits count)
LandRefusedAs meaning made core (land_refusal.FullMoves count) = Refuses meaning core.terms core.history (step_of made.seen made.work) (machine.FullMoves count)
LandRefusedAs meaning made core land_refusal.Memory = Unit {0}

-- the history goes on by a new branch from the head of another
pub record BranchAdded {O R : Type 0} (name : List ℕ) (source : ℕ) (old new : CoreView (Move O R)) (forked : Forked) : Type 0 where
  pub number : forked.number ≡ length (store_of old.terms.origin old.history).branches
  pub head : forked.head ≡ head_of (store_of old.terms.origin old.history).branches source
  pub history : new ≡ record old { history = old.history ++ move.Fork name forked.number source ∷ [] }
  pub counted : forked.moves ≡ length new.history

-- the history goes on by a new branch at a commit
pub record PlaceAdded {O R : Type 0} (name : List ℕ) (commit : ℕ) (old new : CoreView (Move O R)) (forked : Forked) : Type 0 where
  pub number : forked.number ≡ length (store_of old.terms.origin old.history).branches
  pub head : forked.head ≡ commit
  pub history : new ≡ record old { history = old.history ++ move.Place name forked.number commit ∷ [] }
  pub counted : forked.moves ≡ length new.history

-- a branch forked as the machine's step does it
abbrev pub Forks : {S O R Q A : Type 0} → Meaning S O R Q A → List ℕ → List ℕ → CoreView (Move O R) → CoreView (Move O R) → Forked → Type 0
Forks {S} {O} {R} {Q} {A} meaning name from old new forked =
    (source : ℕ) × Moves meaning old new (machine.Fork name from) (move.Fork name forked.number source) (machine.Forked forked.number forked.head) forked.moves

abbrev pub ForkRefusedAs : {S O R Q A : Type 0} → Meaning S O R Q A → List ℕ → List ℕ → CoreView (Move O R) → ForkRefused → Type 0
ForkRefusedAs meaning name from core (fork_refusal.UnknownBranch named) = (named ≡ from) × Refuses meaning core.terms core.history (machine.Fork name from) (machine.UnknownBranch from)
ForkRefusedAs meaning name from core (fork_refusal.NameTaken number) = Refuses meaning core.terms core.history (machine.Fork name from) (machine.NameTaken number)
ForkRefusedAs meaning name from core (fork_refusal.FullBranches count) = Refuses meaning core.terms core.history (machine.Fork name from) (machine.FullBranches count)
ForkRefusedAs meaning name from core (fork_refusal.FullMoves count) = Refuses meaning core.terms core.history (machine.Fork name from) (machine.FullMoves count)
ForkRefusedAs meaning name from core fork_refusal.Memory = Unit {0}

-- A step of the machine is answered so; the history goes on by its move, and these are the addresses then.
pub record Steps {S O R Q A : Type 0} (meaning : Meaning S O R Q A) (step : machine.Step O Q)
    (old new : VersionsView (Move O R)) (addresses : List (List ℕ)) (answer : Answer A R) : Type 0 where
  pub takes : Takes (turn meaning old.core.terms old.core.history step) old.core.history new.core.history answer
  pub rest : new ≡ record { core = record { history = new.core.history; terms = old.core.terms }; addresses = addresses }
