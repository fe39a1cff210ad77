-- The machine's refusals, of what the calls of a recorded history refuse.
use Rattle.std.specs.Prelude.{◌≡◌, List, [], ℕ, IsTrue}
use Rattle.branch_graph.specs.Graph.{reaches}
use Rattle.branch_history.specs.declared.moves.Move.{Move}
use Rattle.branch_history.specs.Commits.{graph_of}
use Rattle.branch_history.specs.Steps as machine
use Rattle.branch_machine.specs.Fixed.{Fixed}
use Rattle.branch_machine.specs.Objects.{store_after}
use Rattle.object_store.specs.declared.errors.StageRefused.{StageRefused}
use Rattle.object_store.specs.declared.errors.StageRefused.TheVariants as staging
use Rattle.store_seen.specs.declared.answers.ForkRefused.{ForkRefused}
use Rattle.store_seen.specs.declared.answers.ForkRefused.TheVariants as fork_refusal
use Rattle.store_seen.specs.declared.answers.LandRefused as seen
use Rattle.store_seen.specs.declared.answers.LandRefused.TheVariants as seen_refusal
use Rattle.store_seen.specs.Turns.{step_of}
use Rattle.store_seen.specs.Views.{PreparedView}
use Rattle.recorded_history.specs.declared.answers.LandRefused.{LandRefused}
use Rattle.recorded_history.specs.declared.answers.LandRefused.TheVariants as land_refusal
use Rattle.recorded_history.specs.Machine.{FullyRefuses}
use Rattle.recorded_history.specs.Views.{RecordedView}

-- what cannot be staged cannot land, for the same reason
abbrev pub stage_refused : StageRefused → LandRefused
stage_refused (staging.Collision address stored new) = land_refusal.Collision address stored new
stage_refused staging.Memory = land_refusal.Memory

-- what cannot land where no objects are kept cannot land, for the same reason
abbrev pub land_refused : seen.LandRefused → LandRefused
land_refused (seen_refusal.Dropped branch) = land_refusal.Dropped branch
land_refused (seen_refusal.Stale newest) = land_refusal.Stale newest
land_refused (seen_refusal.FullCommits count) = land_refusal.FullCommits count
land_refused (seen_refusal.FullMoves count) = land_refusal.FullMoves count
land_refused seen_refusal.Memory = land_refusal.Memory

-- the machine that keeps objects refuses what was prepared, and a head that is not the newest lies below the newest
abbrev pub LandRefusedAs : {S O R Q A : Type 0} → Fixed S O R Q A → PreparedView O R → List (Move O R) → LandRefused → Type 0
LandRefusedAs fixed made history (land_refusal.Dropped branch) = FullyRefuses fixed history (step_of made.seen made.work) (machine.Dropped branch)
LandRefusedAs fixed made history (land_refusal.Stale newest) =
    FullyRefuses fixed history (step_of made.seen made.work) (machine.Stale newest)
    × IsTrue (reaches (graph_of (store_after fixed history).commits) newest made.seen.head)
LandRefusedAs fixed made history (land_refusal.FullCommits count) = FullyRefuses fixed history (step_of made.seen made.work) (machine.FullCommits count)
LandRefusedAs fixed made history (land_refusal.FullMoves count) = FullyRefuses fixed history (step_of made.seen made.work) (machine.FullMoves count)
LandRefusedAs fixed made history (land_refusal.Collision address stored new) = FullyRefuses fixed history (step_of made.seen made.work) (machine.Collision address stored new)
LandRefusedAs fixed made history land_refusal.Memory = Unit {0}

-- nothing has changed; but where memory is short, no move is pending any more
abbrev pub LeavesPending : {M : Type 0} → RecordedView M → RecordedView M → LandRefused → Type 0
LeavesPending old new (land_refusal.Dropped branch) = new ≡ old
LeavesPending old new (land_refusal.Stale newest) = new ≡ old
LeavesPending old new (land_refusal.FullCommits count) = new ≡ old
LeavesPending old new (land_refusal.FullMoves count) = new ≡ old
LeavesPending old new (land_refusal.Collision address stored fresh) = new ≡ old
LeavesPending old new land_refusal.Memory = new ≡ record old { pending = [] }

-- the machine that keeps objects refuses a fork
abbrev pub ForkRefusedAs : {S O R Q A : Type 0} → Fixed S O R Q A → List ℕ → List ℕ → List (Move O R) → ForkRefused → Type 0
ForkRefusedAs fixed name from history (fork_refusal.UnknownBranch named) = (named ≡ from) × FullyRefuses fixed history (machine.Fork name from) (machine.UnknownBranch from)
ForkRefusedAs fixed name from history (fork_refusal.NameTaken number) = FullyRefuses fixed history (machine.Fork name from) (machine.NameTaken number)
ForkRefusedAs fixed name from history (fork_refusal.FullBranches count) = FullyRefuses fixed history (machine.Fork name from) (machine.FullBranches count)
ForkRefusedAs fixed name from history (fork_refusal.FullMoves count) = FullyRefuses fixed history (machine.Fork name from) (machine.FullMoves count)
ForkRefusedAs fixed name from history fork_refusal.Memory = Unit {0}
