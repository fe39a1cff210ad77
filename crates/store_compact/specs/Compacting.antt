-- What compacting a store leaves of two disks.
use Rattle.std.specs.Prelude.{◌≡◌, ◌≢◌, ◌⊎◌, ℕ, ◌≤◌, List, [], ◌∷◌, length}
use Rattle.mrdt_model.specs.Laws.{Meaning}
use Rattle.branch_io.specs.Causes.{Rose}
use Rattle.branch_disk.specs.Disk.{Files, LeavesOnly, OnPart, Holds, Tells}
use Rattle.branch_disk.specs.declared.disk.Disk.{Ghosts}
use Rattle.branch_disk.specs.declared.part.Part.TheVariants.{Heads}
use Rattle.branch_names.specs.declared.terms.Terms.{Terms}
use Rattle.branch_history.specs.declared.moves.Move.{Move}
use Rattle.branch_machine.specs.Fixed.{fix}
use Rattle.branch_files.specs.Reading.{Opens, ReadsAs}
use Rattle.branch_files.specs.Stands.{Stands}
use Rattle.branch_compact.specs.Compact.{compact}
use Rattle.branch_compact.specs.Switch.{current}
use Rattle.store_core.specs.Contents.{HoldsExactly}
use Rattle.store_core.specs.Images.{AllStand}
use Rattle.store_core.specs.Views.{StoreView}
use Rattle.store_compact.specs.declared.answers.Which.{Which}
use Rattle.store_compact.specs.declared.answers.Which.TheVariants.{First, Second}
use Rattle.store_compact.specs.declared.answers.Compacted.{Compacted}
use Rattle.store_compact.specs.declared.answers.CompactRefused.{CompactRefused}
use Rattle.store_compact.specs.declared.answers.CompactRefused.TheVariants as refusal
use Rattle.store_compact.specs.Written.{with_first}

-- the first of two disks, given the current one and the other
abbrev pub first_of : {D : Type 0} → Which → D → D → D
first_of First held other = held
first_of Second held other = other

-- the second of them
abbrev pub second_of : {D : Type 0} → Which → D → D → D
second_of First held other = other
second_of Second held other = held

-- two disks read as this history, whatever a crash leaves of both
abbrev pub BothRead : {S O R Q A : Type 0} → Meaning S O R Q A → (List ℕ → List ℕ) → Terms → List (Move O R)
    → (Files → Type 0) → (Files → Type 0) → Type 0
BothRead m address terms moves firsts seconds =
    (f s : Files) → firsts f → seconds s → ReadsAs m address (current f s) (Opens terms moves)

-- the files read as this history, or as its compact one
abbrev pub ReadsEither : {S O R Q A : Type 0} → Meaning S O R Q A → (List ℕ → List ℕ) → Terms → List (Move O R)
    → Files → Type 0
ReadsEither m address terms moves files =
    ReadsAs m address files (Opens terms moves) ⊎ ReadsAs m address files (Opens terms (compact terms moves))

-- The first disk is current. While the second goes from `other` to `second`, the first is the core's, and the two read as the
-- history. Then the second stays, and the first goes from the core's to `first`: the two read so, or as the compact
-- history. That begins only once each image of the second stands for the compact history.
pub record ToSecond {D S O R Q A : Type 0} (disk : Ghosts D) (m : Meaning S O R Q A) (address : List ℕ → List ℕ)
    (store : StoreView (Move O R) D) (other first second : D) : Type 0 where
  pub writing : LeavesOnly disk.moment disk.left_since other second
      (λ s. (f : Files) → disk.may_leave store.disk f → ReadsAs m address (current f s) (Opens store.terms store.history))
  pub switching : LeavesOnly disk.moment disk.left_since store.disk first
      (λ f. (s : Files) → disk.may_leave second s → ReadsEither m address store.terms store.history (current f s))
  pub ready : (first ≡ store.disk)
      ⊎ AllStand (fix m store.terms address) (compact store.terms store.history) (disk.may_leave second)

-- The second disk is current, and stays the core's. While the first goes from `other` to one between, the two read as the
-- history. Then it goes on to `first`: the two read so, or as the compact history. That begins only once each image of
-- the first stands for the compact history, but for the first byte of its heads.
pub record ToFirst {D S O R Q A : Type 0} (disk : Ghosts D) (m : Meaning S O R Q A) (address : List ℕ → List ℕ)
    (store : StoreView (Move O R) D) (other first second : D) : Type 0 where
  pub between : D
  pub writing : LeavesOnly disk.moment disk.left_since other between
      (λ f. (s : Files) → disk.may_leave store.disk s → ReadsAs m address (current f s) (Opens store.terms store.history))
  pub switching : LeavesOnly disk.moment disk.left_since between first
      (λ f. (s : Files) → disk.may_leave store.disk s → ReadsEither m address store.terms store.history (current f s))
  pub ready : (first ≡ between)
      ⊎ ((c : Files) → disk.may_leave between c
      → Stands (fix m store.terms address) (compact store.terms store.history) (with_first 1 c))
  pub kept : second ≡ store.disk

-- what compacting leaves of the two disks at each moment, given which is current, and so behind it
abbrev pub Compacts : {D S O R Q A : Type 0} → Ghosts D → Meaning S O R Q A → (List ℕ → List ℕ) → Which
    → StoreView (Move O R) D → D → D → D → Type 0
Compacts disk m address First store other first second = ToSecond disk m address store other first second
Compacts disk m address Second store other first second = ToFirst disk m address store other first second

-- behind it: the other disk has exactly the files of the compact history over what it had, and of the one that was
-- current nothing has changed but that byte
abbrev pub HoldsCompact : {D S O R Q A : Type 0} → Ghosts D → Meaning S O R Q A → (List ℕ → List ℕ) → Which
    → StoreView (Move O R) D → D → D → D → Type 0
HoldsCompact disk m address First store other first second =
    HoldsExactly (fix m store.terms address) (compact store.terms store.history) (disk.contents other) (disk.contents second)
    × Tells (OnPart Heads (Holds 0 (2 ∷ []))) (disk.contents store.disk) (disk.contents first)
HoldsCompact disk m address Second store other first second =
    HoldsExactly (fix m store.terms address) (compact store.terms store.history) (disk.contents other) (disk.contents first)

-- What is so once a store is compacted: how many moves were kept, and of how many; the two disks read as the compact
-- history, whatever a crash leaves of both.
pub record IsCompacted {D S O R Q A : Type 0} (disk : Ghosts D) (m : Meaning S O R Q A) (address : List ℕ → List ℕ)
    (which : Which) (store : StoreView (Move O R) D) (other : D) (counted : Compacted) (first second : D) : Type 0 where
  pub kept : counted.kept ≡ length (compact store.terms store.history)
  pub moves : counted.moves ≡ length store.history
  pub reads : BothRead m address store.terms (compact store.terms store.history)
      (disk.may_leave first) (disk.may_leave second)
  pub moments : Compacts disk m address which store other first second
  pub exact : HoldsCompact disk m address which store other first second

-- What is left where a store is not compacted: the two disks read as the history, or as the compact one. For want of memory
-- nothing is called of a disk.
pub record IsNotCompacted {D S O R Q A : Type 0} (disk : Ghosts D) (m : Meaning S O R Q A) (address : List ℕ → List ℕ)
    (which : Which) (store : StoreView (Move O R) D) (other : D) (refused : CompactRefused) (first second : D)
    : Type 0 where
  pub reads : (f s : Files) → disk.may_leave first f → disk.may_leave second s
      → ReadsEither m address store.terms store.history (current f s)
  pub moments : Compacts disk m address which store other first second
  pub same : refused ≡ refusal.Memory
      → (first ≡ first_of which store.disk other) × (second ≡ second_of which store.disk other)

-- a disk's count of faults never falls, and no count changes but where the fault is answered: then one of the two
-- rose, and the other stays
pub record HasCauseOfEither (first_before first_now second_before second_now : ℕ) (refused : CompactRefused)
    : Type 0 where
  pub first_later : first_before ≤ first_now
  pub second_later : second_before ≤ second_now
  pub failed : refused ≡ refusal.DiskFault
      → (Rose first_before first_now × (second_now ≡ second_before))
      ⊎ ((first_now ≡ first_before) × Rose second_before second_now)
  pub others : refused ≢ refusal.DiskFault → (first_now ≡ first_before) × (second_now ≡ second_before)
