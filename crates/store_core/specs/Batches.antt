-- Landings of a batch, one behind another.
use Rattle.std.specs.Prelude.{◌≡◌, ℕ, ◌+◌, ◌≤◌, ◌^◌, true, false, List, [], ◌∷◌, ◌++◌, length, replicate, IsTrue, Option, Result, Ok, Err, IfOk, OnOk, OnErr}
use Rattle.mrdt_model.specs.Laws.{Meaning}
use Rattle.branch_io.specs.Causes.{Rose}
use Rattle.branch_disk.specs.Disk.{Files, LeavesOnly}
use Rattle.branch_disk.specs.declared.disk.Disk.{Ghosts}
use Rattle.branch_graph.specs.Graph.{reaches}
use Rattle.branch_history.specs.declared.moves.Move.{Move}
use Rattle.branch_history.specs.Commits.{graph_of}
use Rattle.branch_history.specs.History.{store_of}
use Rattle.branch_history.specs.Steps as machine
use Rattle.heads_journal.specs.declared.record.Record.{Record}
use Rattle.branch_machine.specs.Fixed.{Fixed, fix}
use Rattle.branch_machine.specs.Machine.{full_turn}
use Rattle.branch_machine.specs.Validity.{IsFullyValid}
use Rattle.branch_files.specs.Records.{records_after}
use Rattle.store_seen.specs.declared.answers.Landed.{Landed}
use Rattle.store_seen.specs.Turns.{move_of, outcome_of}
use Rattle.store_seen.specs.Views.{PreparedView}
use Rattle.recorded_history.specs.Machine.{FullyRefuses}
use Rattle.recorded_history.specs.Views.{RecordedView}
use Rattle.store_core.specs.declared.answers.LandRefused.{LandRefused}
use Rattle.store_core.specs.declared.answers.LandRefused.TheVariants as refusal
use Rattle.store_core.specs.Contents.{LeavesExactly, MayTearAll}
use Rattle.store_core.specs.Images.{AllStand, WithFirst}
use Rattle.store_core.specs.Turns.{step_made}
use Rattle.store_core.specs.Views.{StoreView}

-- the move that the machine makes of what was prepared, or none
abbrev pub job_made : {S O R Q A : Type 0} → Fixed S O R Q A → List (Move O R) → PreparedView O R → List (Move O R)
job_made fixed history job = (full_turn fixed history (step_made job)).made

-- the moves that the machine makes of jobs, each behind those of the jobs before it
abbrev pub batch_made : {S O R Q A : Type 0} → Fixed S O R Q A → List (Move O R) → List (PreparedView O R) → List (Move O R)
batch_made fixed history [] = []
batch_made fixed history (job ∷ jobs) = job_made fixed history job ++ batch_made fixed (history ++ job_made fixed history job) jobs

-- what was prepared landed behind this history, as the machine's step does it
pub record HasLanded {S O R Q A : Type 0} (fixed : Fixed S O R Q A) (history : List (Move O R)) (job : PreparedView O R) (landed : Landed R) : Type 0 where
  pub turn_is : full_turn fixed history (step_made job) ≡ record { outcome = outcome_of landed.kind; made = move_of job.seen.branch job.work ∷ [] }
  pub counted : landed.moves ≡ length history + 1

-- This is the machine's answer behind this history. It is no fault of the disk, and no want of memory.
abbrev pub AnswersJob : {S O R Q A : Type 0} → Fixed S O R Q A → List (Move O R) → PreparedView O R → Result (Landed R) LandRefused → Type 0
AnswersJob fixed history job (Ok landed) = HasLanded fixed history job landed
AnswersJob fixed history job (Err (refusal.Dropped branch)) = FullyRefuses fixed history (step_made job) (machine.Dropped branch)
AnswersJob fixed history job (Err (refusal.Stale newest)) =
    FullyRefuses fixed history (step_made job) (machine.Stale newest)
    × IsTrue (reaches (graph_of (store_of fixed.terms.origin history).commits) newest job.seen.head)
AnswersJob fixed history job (Err (refusal.FullCommits count)) = FullyRefuses fixed history (step_made job) (machine.FullCommits count)
AnswersJob fixed history job (Err (refusal.FullMoves count)) = FullyRefuses fixed history (step_made job) (machine.FullMoves count)
AnswersJob fixed history job (Err (refusal.Collision address stored fresh)) = FullyRefuses fixed history (step_made job) (machine.Collision address stored fresh)
AnswersJob fixed history job (Err refusal.DiskFault) = ⊥
AnswersJob fixed history job (Err (refusal.Failed moves)) = ⊥
AnswersJob fixed history job (Err refusal.Memory) = ⊥

-- one answer for each job, in order: the machine's behind the moves of the jobs before it
abbrev pub AnswersAll : {S O R Q A : Type 0} → Fixed S O R Q A → List (Move O R) → List (PreparedView O R) → List (Result (Landed R) LandRefused) → Type 0
AnswersAll fixed history [] [] = Unit {0}
AnswersAll fixed history [] (answer ∷ answers) = ⊥
AnswersAll fixed history (job ∷ jobs) [] = ⊥
AnswersAll fixed history (job ∷ jobs) (answer ∷ answers) =
    AnswersJob fixed history job answer × AnswersAll fixed (history ++ job_made fixed history job) jobs answers

-- Jobs landed in memory, where no move waited: these are the answers, the moves that wait, and their records.
pub record HaveLanded {S O R Q A : Type 0} (fixed : Fixed S O R Q A) (jobs : List (PreparedView O R)) (old new : RecordedView (Move O R)) (answers : List (Result (Landed R) LandRefused)) (records : List Record) : Type 0 where
  pub answered : AnswersAll fixed old.written jobs answers
  pub pending : new ≡ record old { pending = batch_made fixed old.written jobs }
  pub are : records ≡ records_after fixed old.written (batch_made fixed old.written jobs)
  pub few : length (batch_made fixed old.written jobs) ≤ length jobs

-- The history of a store that had not failed has all that the machine makes of the jobs, and each answer is the machine's.
pub record LandsAll {D S O R Q A : Type 0} (fixed : Fixed S O R Q A) (jobs : List (PreparedView O R)) (old new : StoreView (Move O R) D) (answers : List (Result (Landed R) LandRefused)) : Type 0 where
  pub answered : AnswersAll fixed old.history jobs answers
  pub history : new ≡ record old { history = old.history ++ batch_made fixed old.history jobs; disk = new.disk }
  pub few : length new.history ≤ 2 ^ 48

-- every job has this refusal
abbrev pub AllRefused : {O R : Type 0} → LandRefused → List (PreparedView O R) → List (Result (Landed R) LandRefused) → Type 0
AllRefused refused jobs answers = answers ≡ replicate (length jobs) (Err refused)

-- the disk failed, every job has that answer, and the store holds what it held
pub record FaultsAll {D O R : Type 0} (jobs : List (PreparedView O R)) (old new : StoreView (Move O R) D) (answers : List (Result (Landed R) LandRefused)) : Type 0 where
  pub answered : AllRefused refusal.DiskFault jobs answers
  pub kept : new ≡ record old { failed = true; disk = new.disk }

-- the disk had failed before, every job has that answer, and nothing has changed
pub record HadFailedAll {D O R : Type 0} (jobs : List (PreparedView O R)) (old new : StoreView (Move O R) D) (answers : List (Result (Landed R) LandRefused)) : Type 0 where
  pub answered : AllRefused (refusal.Failed (length old.history)) jobs answers
  pub kept : new ≡ old

-- What landing a batch answers, and the store behind it. All jobs land or are refused by the machine, or they share a failure of the disk; after want of memory nothing has changed.
pub record AnswersBatch {D S O R Q A E : Type 0} (fixed : Fixed S O R Q A) (jobs : List (PreparedView O R)) (old new : StoreView (Move O R) D) (result : Result (List (Result (Landed R) LandRefused)) E) : Type 0 where
  pub landed : IfOk result (λ answers. new.failed ≡ false → LandsAll fixed jobs old new answers)
  pub faulted : IfOk result (λ answers. old.failed ≡ false → new.failed ≡ true → FaultsAll jobs old new answers)
  pub failed : IfOk result (λ answers. old.failed ≡ true → HadFailedAll jobs old new answers)
  pub short : OnErr result (new ≡ old)

-- A disk tells exactly the bytes of the history that the store has now, over what it told before, where moves were made. Where none was, no call of it was made.
abbrev pub ExactlyAll : {D S O R Q A : Type 0} → Meaning S O R Q A → (List ℕ → List ℕ) → (D → Option Files) → StoreView (Move O R) D → StoreView (Move O R) D → List (Move O R) → Type 0
ExactlyAll meaning address contents old new [] = new.disk ≡ old.disk
ExactlyAll meaning address contents old new (made ∷ more) = LeavesExactly meaning address contents old new

-- What landing a batch leaves of the images of the disk, where the machine makes these moves, of what it tells, and of its count of faults. At every moment an image stands for the history with the first of the moves, and each of these is valid.
pub record LeavesMoves {D S O R Q A T E : Type 0} (disk : Ghosts D) (meaning : Meaning S O R Q A) (address : List ℕ → List ℕ)
    (made : List (Move O R)) (old new : StoreView (Move O R) D) (result : Result T E) : Type 0 where
  pub stands : new.failed ≡ false → AllStand (fix meaning old.terms address) new.history (disk.may_leave new.disk)
  pub moments : old.failed ≡ false → LeavesOnly disk.moment disk.left_since old.disk new.disk
      (WithFirst (fix meaning old.terms address) old.history made)
  pub left : old.failed ≡ false → (c : Files) → disk.may_leave new.disk c → WithFirst (fix meaning old.terms address) old.history made c
  pub valid : old.failed ≡ false → OnOk result (IsFullyValid (fix meaning old.terms address) (old.history ++ made))
  pub exact : new.failed ≡ false → OnOk result (ExactlyAll meaning address disk.contents old new made)
  pub torn : old.failed ≡ false → new.failed ≡ true → MayTearAll (fix meaning old.terms address) old.history made (disk.contents old.disk) (disk.contents new.disk)
  pub later : disk.faults old.disk ≤ disk.faults new.disk
  pub caused : old.failed ≡ false → new.failed ≡ true → Rose (disk.faults old.disk) (disk.faults new.disk)
  pub quiet : new.failed ≡ old.failed → disk.faults new.disk ≡ disk.faults old.disk

-- the same of jobs
abbrev pub LeavesBatch : {D S O R Q A T E : Type 0} → Ghosts D → Meaning S O R Q A → (List ℕ → List ℕ) → List (PreparedView O R)
    → StoreView (Move O R) D → StoreView (Move O R) D → Result T E → Type 0
LeavesBatch disk meaning address jobs old new result = LeavesMoves disk meaning address (batch_made (fix meaning old.terms address) old.history jobs) old new result
