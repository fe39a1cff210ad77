-- Making the store of the compact history on the other disk, and switching to it: what is written,
-- and what becomes of both disks.
use Rattle.std.specs.Prelude.{◌≡◌, ◌≢◌, ◌⊎◌, ℕ, false, List, [], ◌∷◌, length}
use Rattle.std.specs.declared.option.Option.{Option}
use Rattle.branch_disk.specs.declared.disk.Disk.{Ghosts}
use Rattle.branch_disk.specs.Disk.{Files, LeavesOnly}
use Rattle.branch_history.specs.declared.moves.Move.{Move}
use Rattle.branch_compact.specs.Compact.{compact}
use Rattle.branch_compact.specs.Switch.{current}
use Rattle.branch_print.specs.Reports.{compacted_text}
use Rattle.store_core.specs.Views.{StoreView}
use Rattle.store_compact.specs.declared.answers.Which.{Which}
use Rattle.store_compact.specs.declared.answers.Which.TheVariants.{First, Second}
use Rattle.store_compact.specs.Compacting.{first_of, second_of, BothRead, ReadsEither, Compacts, HoldsCompact}
use Rattle.branch_shell.specs.declared.status.Status.{Status}
use Rattle.branch_shell.specs.declared.status.Status.TheVariants.{Done, StoreRefused}
use Rattle.branch_shell.specs.Once.{WroteOnce}
use Rattle.branch_shell.specs.Stores.{Stored, IsOpenedAs}
use Rattle.branch_shell.specs.Values.{ValueType}
use Rattle.branch_shell.specs.Documents.{SaysUnopened}
use Rattle.branch_shell.specs.Disks.{LeavesAsBefore, StaysSame}

-- how many moves of a store its compact history has, of how many
abbrev pub counts_text : {O R : Type 0} → Stored O R → List ℕ
counts_text store =
    compacted_text (length (compact store.terms store.history)) (length store.history)

-- the text of that, of the store that opening found
abbrev pub SaysCompacted : {S O R Q A : Type 0} → ValueType S O R Q A → (List ℕ → List ℕ)
    → Option Files → List ℕ → Type 0
SaysCompacted {S} {O} {R} of address told text = (store : Stored O R)
    × IsOpenedAs of.kind of.meaning address told store × (text ≡ counts_text store)

-- a store that was opened over this disk
abbrev pub view_of : {O R D : Type 0} → Stored O R → D → StoreView (Move O R) D
view_of store opened = record {
  history = store.history;
  terms = store.terms;
  failed = false;
  disk = opened;
  opened = opened;
}

-- The store was not opened: the current disk tells what it told, and the other is as it was.
pub record StaysAside {D : Type 0} (disk : Ghosts D) (held held_now other other_now : D)
    (status : Status) : Type 0 where
  pub undone : status ≢ Done
  pub current : StaysSame disk held held_now
  pub aside : other_now ≡ other

-- One of two disks goes on to a later state of it, and the other stays as it is.
pub record Stage (D : Type 0) : Type 0 where
  pub which : Which
  pub to : D

-- the first of two disks behind a stage, and the second
abbrev pub first_after : {D : Type 0} → Which → D → D → D
first_after First to first = to
first_after Second to first = first

abbrev pub second_after : {D : Type 0} → Which → D → D → D
second_after First to second = second
second_after Second to second = to

-- at each moment of a stage, of each image of the one disk with each that the other may leave this is
-- true
abbrev pub LeavesPairs : {D : Type 0} → Ghosts D → (Files → Files → Type 0) → Which → D → D → D
    → Type 0
LeavesPairs disk P First to first second = LeavesOnly disk.moment disk.left_since first to
    (λ f. (s : Files) → disk.may_leave second s → P f s)
LeavesPairs disk P Second to first second = LeavesOnly disk.moment disk.left_since second to
    (λ s. (f : Files) → disk.may_leave first f → P f s)

-- two disks come by these stages, one behind the other, to what they are at the end, and at each
-- moment this is true of each image of the one with each of the other
abbrev pub GoInStages : {D : Type 0} → Ghosts D → (Files → Files → Type 0) → List (Stage D) → D → D
    → D → D → Type 0
GoInStages disk P [] first second first_end second_end =
    (first_end ≡ first) × (second_end ≡ second)
GoInStages disk P (stage ∷ stages) first second first_end second_end =
    LeavesPairs disk P stage.which stage.to first second
    × GoInStages disk P stages (first_after stage.which stage.to first)
    (second_after stage.which stage.to second) first_end second_end

-- The store was opened over this disk. From then on the two disks are in the stages of a compaction,
-- in each of which they read as the history or as the compact one, whatever a crash leaves of both;
-- so they do at the end, and after `Done` as the compact one, whose files they have then.
pub record IsCompactedFrom {S O R Q A D : Type 0} (disk : Ghosts D) (of : ValueType S O R Q A)
    (address : List ℕ → List ℕ) (which : Which) (store : Stored O R)
    (opened other first second : D) (status : Status) : Type 0 where
  pub stages : Compacts disk of.meaning address which (view_of store opened) other first second
  pub pairs : (all : List (Stage D)) × GoInStages disk
      (λ f s. ReadsEither of.meaning address store.terms store.history (current f s)) all
      (first_of which opened other) (second_of which opened other) first second
  pub either : (f s : Files) → disk.may_leave first f → disk.may_leave second s
      → ReadsEither of.meaning address store.terms store.history (current f s)
  pub complete : status ≡ Done → BothRead of.meaning address store.terms
      (compact store.terms store.history) (disk.may_leave first) (disk.may_leave second)
  pub exact : status ≡ Done
      → HoldsCompact disk of.meaning address which (view_of store opened) other first second

-- It was opened at some moment, before which a crash leaves of the current disk only what one might
-- have left at the start.
pub record IsCompacted {S O R Q A D : Type 0} (disk : Ghosts D) (of : ValueType S O R Q A)
    (address : List ℕ → List ℕ) (which : Which) (store : Stored O R) (old other first second : D)
    (status : Status) : Type 0 where
  pub opened : D
  pub before : LeavesAsBefore disk old opened
  pub since : IsCompactedFrom disk of address which store opened other first second status

-- what became of the two disks, where the store that opening found was compacted
abbrev pub CompactsFound : {S O R Q A D : Type 0} → Ghosts D → ValueType S O R Q A
    → (List ℕ → List ℕ) → Which → D → D → D → D → Status → Type 0
CompactsFound {S} {O} {R} disk of address which old other first second status =
    (store : Stored O R) × IsOpenedAs of.kind of.meaning address (disk.contents old) store
    × IsCompacted disk of address which store old other first second status

-- What compacting did, which ended with this status, given the current disk and the other: what was
-- written; and what is left of both, of which nothing changed where the store was refused.
pub record RanCompact {S O R Q A D : Type 0} (disk : Ghosts D) (of : ValueType S O R Q A)
    (address : List ℕ → List ℕ) (which : Which) (held held_now other other_now : D)
    (status : Status) (text : List ℕ) : Type 0 where
  pub wrote : WroteOnce (SaysCompacted of address (disk.contents held))
      (SaysUnopened of address (disk.contents held)) status text
  pub left : StaysAside disk held held_now other other_now status
      ⊎ CompactsFound disk of address which held other (first_of which held_now other_now)
      (second_of which held_now other_now) status
  pub refused : status ≡ StoreRefused → StaysAside disk held held_now other other_now status
