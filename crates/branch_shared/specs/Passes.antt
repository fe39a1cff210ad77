-- What a pass is to a contract, and what the calls of a shared store do to it.
use Rattle.std.specs.Prelude.{◌≡◌, ℕ, ◌+◌, List, [], ◌∷◌, ◌++◌, length, IsTrue}
use mathlib.Core.List.{IsPrefix}
use Rattle.branch_io.specs.Causes.{Rose}
use Rattle.branch_graph.specs.Graph.{reaches}
use Rattle.branch_history.specs.declared.moves.Move.{Move}
use Rattle.branch_history.specs.declared.moves.Move.TheVariants as move
use Rattle.branch_history.specs.Commits.{graph_of}
use Rattle.branch_history.specs.History.{store_of}
use Rattle.branch_history.specs.Steps.{Step, Outcome}
use Rattle.branch_history.specs.Steps as machine
use Rattle.branch_machine.specs.Fixed.{Fixed}
use Rattle.branch_machine.specs.Machine.{full_turn}
use Rattle.machine_answers.specs.Answers.{Answer, Made, Still, Refused, Fault, Failed, Short, Takes}
use Rattle.recorded_history.specs.Machine.{FullyRefuses}
use Rattle.store_seen.specs.declared.answers.Forked.{Forked}
use Rattle.store_seen.specs.declared.answers.Kind.{Kind}
use Rattle.store_seen.specs.Turns.{move_of, outcome_of}
use Rattle.store_seen.specs.Views.{CoreView, PreparedView}
use Rattle.store_core.specs.declared.answers.LandRefused.{LandRefused}
use Rattle.store_core.specs.declared.answers.LandRefused.TheVariants as land_refusal
use Rattle.store_core.specs.declared.answers.ForkRefused.{ForkRefused}
use Rattle.store_core.specs.declared.answers.ForkRefused.TheVariants as fork_refusal
use Rattle.store_core.specs.Turns.{step_made}
use Rattle.branch_names.specs.declared.terms.Terms.{Terms}

-- the history that its holder has seen; the moments of the disk at which the moves behind those that the store began with were
-- acknowledged, in order; the lengths at which its own moves landed, and those at which the moves of the passes
-- did that left into it; the disk's faults since the core was opened, as last seen; its share of the parts; and the number of
-- moves that it and the passes that left into it landed. It claims its own moves and the others
pub record PassView (M : Type 0) : Type 0 where
  pub moves : List M
  pub sure : List ℕ
  pub mine : List ℕ
  pub others : List ℕ
  pub faults : ℕ
  pub parts : ℕ
  pub receipts : ℕ

-- what a core holds whose history is what the holder of a pass has seen
abbrev pub seen_by : {M : Type 0} → PassView M → Terms → CoreView M
seen_by pass terms = record { history = pass.moves; terms = terms }

-- nothing but what the holder knows of the store is new
abbrev pub IsSeenOn : {M : Type 0} → PassView M → PassView M → Type 0
IsSeenOn old new = new ≡ record old { moves = new.moves; sure = new.sure; faults = new.faults }

-- a pass of a store that began with a history still knows the moments that it knew, and knows one for each move behind those
abbrev pub KnowsMoments : {M : Type 0} → List M → PassView M → PassView M → Type 0
KnowsMoments begun old new = IsPrefix old.sure new.sure × (length begun + length new.sure ≡ length new.moves)

-- the disk, which had had `opened` faults when the core was opened, failed between two passes, or before the second
abbrev pub HasFailedSince : {M : Type 0} → ℕ → PassView M → PassView M → Type 0
HasFailedSince opened old new = Rose (opened + old.faults) (opened + new.faults)

abbrev pub HasFailed : {M : Type 0} → ℕ → PassView M → Type 0
HasFailed opened new = Rose opened (opened + new.faults)

-- behind all that had been seen, and perhaps more, the machine makes this move, and answers so. It is the last of what is
-- seen then, and of one's own moves no other is new
pub record MovesAt {S O R Q A : Type 0} (fixed : Fixed S O R Q A) (old new : PassView (Move O R)) (step : Step O Q) (made : Move O R) (outcome : Outcome A R) (moves : ℕ) : Type 0 where
  pub before : List (Move O R)
  pub seen : IsPrefix old.moves before
  pub turn_is : full_turn fixed before step ≡ record { outcome = outcome; made = made ∷ [] }
  pub last : new.moves ≡ before ++ made ∷ []
  pub counted : moves ≡ length new.moves
  pub rest : new ≡ record old { moves = new.moves; sure = new.sure; mine = old.mine ++ moves ∷ []; faults = new.faults; receipts = old.receipts + 1 }

-- what was prepared landed as the machine's step does it there
abbrev pub LandedAt : {S O R Q A : Type 0} → Fixed S O R Q A → PreparedView O R → PassView (Move O R) → PassView (Move O R) → ℕ → Kind R → Type 0
LandedAt fixed made old new moves kind = MovesAt fixed old new (step_made made) (move_of made.seen.branch made.work) (outcome_of kind) moves

-- a branch forked as the machine's step does it there
abbrev pub ForkedAt : {S O R Q A : Type 0} → Fixed S O R Q A → List ℕ → List ℕ → PassView (Move O R) → PassView (Move O R) → Forked → Type 0
ForkedAt fixed name from old new forked =
    (source : ℕ) × MovesAt fixed old new (machine.Fork name from) (move.Fork name forked.number source) (machine.Forked forked.number forked.head) forked.moves

-- Why what was prepared did not land, at the history that is seen then. The disk fails only where the machine makes the move.
abbrev pub LandRefusedAt : {S O R Q A : Type 0} → Fixed S O R Q A → ℕ → PreparedView O R → PassView (Move O R) → PassView (Move O R) → LandRefused → Type 0
LandRefusedAt fixed opened made old new (land_refusal.Dropped branch) = FullyRefuses fixed new.moves (step_made made) (machine.Dropped branch)
LandRefusedAt fixed opened made old new (land_refusal.Stale newest) =
    FullyRefuses fixed new.moves (step_made made) (machine.Stale newest) × IsTrue (reaches (graph_of (store_of fixed.terms.origin new.moves).commits) newest made.seen.head)
LandRefusedAt fixed opened made old new (land_refusal.FullCommits count) = FullyRefuses fixed new.moves (step_made made) (machine.FullCommits count)
LandRefusedAt fixed opened made old new (land_refusal.FullMoves count) = FullyRefuses fixed new.moves (step_made made) (machine.FullMoves count)
LandRefusedAt fixed opened made old new (land_refusal.Collision address stored fresh) = FullyRefuses fixed new.moves (step_made made) (machine.Collision address stored fresh)
LandRefusedAt fixed opened made old new land_refusal.DiskFault =
    HasFailedSince opened old new × ((full_turn fixed new.moves (step_made made)).made ≡ move_of made.seen.branch made.work ∷ [])
LandRefusedAt fixed opened made old new (land_refusal.Failed moves) = HasFailed opened new × (moves ≡ length new.moves)
LandRefusedAt fixed opened made old new land_refusal.Memory = Unit {0}

-- Why what was prepared did not land together with others. A disk that fails does so for all of them, also for one that the machine refuses.
abbrev pub BatchRefusedAt : {S O R Q A : Type 0} → Fixed S O R Q A → ℕ → PreparedView O R → PassView (Move O R) → PassView (Move O R) → LandRefused → Type 0
BatchRefusedAt fixed opened made old new land_refusal.DiskFault = HasFailedSince opened old new
BatchRefusedAt fixed opened made old new refused = LandRefusedAt fixed opened made old new refused

-- Why no branch was forked, at the history that is seen then. The disk fails only where the machine makes the fork.
abbrev pub ForkRefusedAt : {S O R Q A : Type 0} → Fixed S O R Q A → ℕ → List ℕ → List ℕ → PassView (Move O R) → PassView (Move O R) → ForkRefused → Type 0
ForkRefusedAt {S} {O} {R} fixed opened name from old new (fork_refusal.UnknownBranch named) = (named ≡ from) × FullyRefuses fixed new.moves (machine.Fork name from) (machine.UnknownBranch from)
ForkRefusedAt {S} {O} {R} fixed opened name from old new (fork_refusal.NameTaken number) = FullyRefuses fixed new.moves (machine.Fork name from) (machine.NameTaken number)
ForkRefusedAt {S} {O} {R} fixed opened name from old new (fork_refusal.FullBranches count) = FullyRefuses fixed new.moves (machine.Fork name from) (machine.FullBranches count)
ForkRefusedAt {S} {O} {R} fixed opened name from old new (fork_refusal.FullMoves count) = FullyRefuses fixed new.moves (machine.Fork name from) (machine.FullMoves count)
ForkRefusedAt {S} {O} {R} fixed opened name from old new fork_refusal.DiskFault =
    HasFailedSince opened old new × ((made : Move O R) × ((full_turn fixed new.moves (machine.Fork name from)).made ≡ made ∷ []))
ForkRefusedAt {S} {O} {R} fixed opened name from old new (fork_refusal.Failed moves) = HasFailed opened new × (moves ≡ length new.moves)
ForkRefusedAt {S} {O} {R} fixed opened name from old new fork_refusal.Memory = Unit {0}

-- What an answer makes of a pass. Of one's own moves none is new but a move that was made. A disk that failed did so since the core was opened, and where the answer tells
-- of no fault there was none.
abbrev pub PassesAs : {A R M : Type 0} → Answer A R → ℕ → PassView M → PassView M → Type 0
PassesAs (Made outcome moves) opened old new =
    (new ≡ record old { moves = new.moves; sure = new.sure; mine = old.mine ++ moves ∷ []; faults = new.faults; receipts = old.receipts + 1 }) × (new.faults ≡ 0)
PassesAs (Still outcome) opened old new = IsSeenOn old new × (new.faults ≡ 0)
PassesAs (Refused refusal) opened old new = IsSeenOn old new × (new.faults ≡ 0)
PassesAs Fault opened old new = IsSeenOn old new × HasFailedSince opened old new
PassesAs (Failed moves) opened old new = IsSeenOn old new × HasFailed opened new
PassesAs Short opened old new = IsSeenOn old new × (new.faults ≡ 0)

-- behind all that had been seen, and perhaps more, the machine's turn is answered so, and what is seen then is what the answer leaves
pub record AnsweredAt {S O R Q A : Type 0} (fixed : Fixed S O R Q A) (opened : ℕ) (old new : PassView (Move O R)) (step : Step O Q) (answer : Answer A R) : Type 0 where
  pub before : List (Move O R)
  pub seen : IsPrefix old.moves before
  pub takes : Takes (full_turn fixed before step) before new.moves answer
  pub passes : PassesAs answer opened old new
