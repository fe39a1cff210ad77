-- What calls of a store answer, as answers to a step of the machine, and what each answer leaves of the store and its disk.
use Rattle.std.specs.Prelude.{◌≡◌, ℕ, ◌≤◌, Bool, true, false, List, ◌++◌, Option, Result, Ok, Err}
use Rattle.mrdt_model.specs.Laws.{Meaning}
use Rattle.branch_io.specs.Causes.{Rose}
use Rattle.branch_disk.specs.Disk.{Files, LeavesOnly}
use Rattle.branch_disk.specs.declared.disk.Disk.{Ghosts}
use Rattle.branch_history.specs.declared.moves.Move.{Move}
use Rattle.branch_history.specs.Steps.{Step, Turn}
use Rattle.branch_history.specs.Steps as machine
use Rattle.branch_machine.specs.Fixed.{Fixed, fix}
use Rattle.branch_machine.specs.Machine.{full_turn}
use Rattle.branch_machine.specs.Validity.{IsFullyValid}
use Rattle.machine_answers.specs.Answers.{Answer, Made, Still, Refused, Fault, Failed, Short}
use Rattle.store_seen.specs.declared.answers.Forked.{Forked}
use Rattle.store_seen.specs.Answers.{placed, dropped}
use Rattle.store_seen.specs.Views.{SeenView}
use Rattle.store_core.specs.declared.answers.PlaceRefused.{PlaceRefused}
use Rattle.store_core.specs.declared.answers.PlaceRefused.TheVariants as place_refusal
use Rattle.store_core.specs.declared.answers.DropRefused.{DropRefused}
use Rattle.store_core.specs.declared.answers.DropRefused.TheVariants as drop_refusal
use Rattle.store_core.specs.Contents.{LeavesExactly, MayBeTorn}
use Rattle.store_core.specs.Images.{AllStand, WithOrWithout}
use Rattle.store_core.specs.Views.{StoreView}

-- what `place` answers, as an answer to a step
abbrev pub place_answer : {A R : Type 0} → Result Forked PlaceRefused → Answer A R
place_answer (Ok forked) = placed forked
place_answer (Err (place_refusal.NameTaken number)) = Refused (machine.NameTaken number)
place_answer (Err (place_refusal.FullBranches count)) = Refused (machine.FullBranches count)
place_answer (Err (place_refusal.FullMoves count)) = Refused (machine.FullMoves count)
place_answer (Err place_refusal.DiskFault) = Fault
place_answer (Err (place_refusal.Failed moves)) = Failed moves
place_answer (Err place_refusal.Memory) = Short

-- what `drop_branch` answers to a look
abbrev pub drop_answer : {A R M : Type 0} → SeenView M → Result ℕ DropRefused → Answer A R
drop_answer seen (Ok moves) = dropped seen moves
drop_answer seen (Err (drop_refusal.Dropped branch)) = Refused (machine.Dropped branch)
drop_answer seen (Err drop_refusal.KeepsMain) = Refused machine.KeepsMain
drop_answer seen (Err (drop_refusal.Stale newest)) = Refused (machine.Stale newest)
drop_answer seen (Err (drop_refusal.FullMoves count)) = Refused (machine.FullMoves count)
drop_answer seen (Err drop_refusal.DiskFault) = Fault
drop_answer seen (Err (drop_refusal.Failed moves)) = Failed moves
drop_answer seen (Err drop_refusal.Memory) = Short

-- the machine's turn of a step over the history of a store
abbrev pub turn_of : {D S O R Q A : Type 0} → Meaning S O R Q A → (List ℕ → List ℕ) → StoreView (Move O R) D → Step O Q → Turn O R A
turn_of meaning address store step = full_turn (fix meaning store.terms address) store.history step

-- the disk had failed before
abbrev pub had_failed : {A R : Type 0} → Answer A R → Bool
had_failed (Made outcome moves) = false
had_failed (Still outcome) = false
had_failed (Refused refusal) = false
had_failed Fault = false
had_failed (Failed moves) = true
had_failed Short = false

-- the store behind an answer: a move lengthens the history and a fault fails the store, and all else leaves it as it was
abbrev pub Keeps : {A R M D : Type 0} → Answer A R → StoreView M D → StoreView M D → Type 0
Keeps (Made outcome moves) old new = new ≡ record old { history = new.history; disk = new.disk }
Keeps (Still outcome) old new = new ≡ old
Keeps (Refused refusal) old new = new ≡ old
Keeps Fault old new = new ≡ record old { failed = true; disk = new.disk }
Keeps (Failed moves) old new = new ≡ old
Keeps Short old new = new ≡ old

-- the images of the disk behind an answer: a move is in each, and behind a fault it is in some, where it is a valid one
abbrev pub StandsAs : {S O R Q A : Type 0} → Fixed S O R Q A → Answer A R → List (Move O R) → List (Move O R) → (Files → Type 0) → Type 0
StandsAs fixed (Made outcome moves) history made images = AllStand fixed (history ++ made) images
StandsAs fixed Fault history made images = ((c : Files) → images c → WithOrWithout fixed history made c) × IsFullyValid fixed (history ++ made)
StandsAs fixed answer history made images = Unit {0}

-- what a disk tells behind an answer: exactly the longer history, or behind a fault what it told but for the place of the move
abbrev pub TellsAs : {D S O R Q A : Type 0} → Meaning S O R Q A → (List ℕ → List ℕ) → (D → Option Files)
    → Answer A R → StoreView (Move O R) D → StoreView (Move O R) D → List (Move O R) → Type 0
TellsAs meaning address contents (Made outcome moves) old new made = LeavesExactly meaning address contents old new
TellsAs meaning address contents Fault old new made = MayBeTorn (fix meaning old.terms address) old.history made (contents old.disk) (contents new.disk)
TellsAs meaning address contents answer old new made = Unit {0}

-- the count of faults rises at a fault, and else it stays
abbrev pub FaultsAs : {A R : Type 0} → Answer A R → ℕ → ℕ → Type 0
FaultsAs (Made outcome moves) before now = now ≡ before
FaultsAs (Still outcome) before now = now ≡ before
FaultsAs (Refused refusal) before now = now ≡ before
FaultsAs Fault before now = (before ≤ now) × Rose before now
FaultsAs (Failed moves) before now = now ≡ before
FaultsAs Short before now = now ≡ before

-- What an answer leaves of a store and its disk, where the machine makes these moves. At every moment an image stands for the history before, or for that with the move.
pub record LeavesBy {D S O R Q A : Type 0} (disk : Ghosts D) (meaning : Meaning S O R Q A) (address : List ℕ → List ℕ)
    (made : List (Move O R)) (old new : StoreView (Move O R) D) (answer : Answer A R) : Type 0 where
  pub worked : old.failed ≡ had_failed answer
  pub keeps : Keeps answer old new
  pub stands : StandsAs (fix meaning old.terms address) answer old.history made (disk.may_leave new.disk)
  pub moments : old.failed ≡ false → LeavesOnly disk.moment disk.left_since old.disk new.disk
      (WithOrWithout (fix meaning old.terms address) old.history made)
  pub tells : TellsAs meaning address disk.contents answer old new made
  pub faults : FaultsAs answer (disk.faults old.disk) (disk.faults new.disk)

-- the same of an answer to a step
abbrev pub Leaves : {D S O R Q A : Type 0} → Ghosts D → Meaning S O R Q A → (List ℕ → List ℕ) → Step O Q
    → StoreView (Move O R) D → StoreView (Move O R) D → Answer A R → Type 0
Leaves disk meaning address step old new answer = LeavesBy disk meaning address (turn_of meaning address old step).made old new answer
