-- What a crash leaves of a shared store, at each moment since it was shared.
use Rattle.std.specs.Prelude.{◌≡◌, ◌⊎◌, ℕ, ◌+◌, ◌≤◌, false, List, [], ◌++◌, length, take, slice_get, Some}
use Rattle.std.specs.List.{AllByRecursion}
use mathlib.Core.List.{IsPrefix}
use Rattle.branch_disk.specs.Disk.{Files, LeavesOnly}
use Rattle.branch_disk.specs.declared.disk.Disk.{Ghosts}
use Rattle.branch_history.specs.declared.moves.Move.{Move}
use Rattle.branch_machine.specs.Fixed.{Fixed}
use Rattle.branch_machine.specs.Validity.{IsFullyValid}
use Rattle.branch_files.specs.Stands.{Stands}
use Rattle.store_core.specs.Images.{WithFirst}
use Rattle.store_core.specs.Views.{StoreView}

-- At each moment since that one a crash leaves files that have P. What it might have left before, it might have left then.
pub record LeavesSince {D : Type 0} (disk : Ghosts D) (since : ℕ) (left : ℕ → Files → Type 0) (now : D) (P : Files → Type 0) : Type 0 where
  pub later : since ≤ disk.moment now
  pub each : (c : Files) → disk.left_since now since c → P c
  -- for a run that began earlier
  pub before : (t : ℕ) (c : Files) → t ≤ since → disk.left_since now t c → left t c ⊎ P c
  pub keeps : (t : ℕ) (c : Files) → t ≤ since → left t c → disk.left_since now t c

-- the files stand for a beginning of the history, which itself begins with another
pub record StandsFrom {S O R Q A : Type 0} (fixed : Fixed S O R Q A) (begun history : List (Move O R)) (c : Files) : Type 0 where
  pub moves : List (Move O R)
  pub begins : IsPrefix begun moves
  pub within : IsPrefix moves history
  pub stands : Stands fixed moves c

-- What a crash leaves of a store that began with some moves. Behind its history there may be a tail: no move until the disk fails, and then those of the one call that failed.
-- The store's name allows each of them.
pub record IsSafe {D S O R Q A : Type 0} (disk : Ghosts D) (fixed : Fixed S O R Q A) (since : ℕ) (left : ℕ → Files → Type 0) (begun : List (Move O R)) (allows : Move O R → Type 0)
    (core : StoreView (Move O R) D) : Type 0 where
  pub tail : List (Move O R)
  pub begins : IsPrefix begun core.history
  pub none : core.failed ≡ false → tail ≡ []
  pub few : length tail ≤ 64
  pub allowed : AllByRecursion allows tail
  pub valid : IsFullyValid fixed (core.history ++ tail)
  -- now each image has the history, with the first moves of the tail behind it: none, some or all
  pub now : (c : Files) → disk.may_leave core.disk c → WithFirst fixed core.history tail c
  -- at each moment since that one an image has a beginning of these moves that has all that the store began with
  pub moments : LeavesSince disk since left core.disk (StandsFrom fixed begun (core.history ++ tail))

-- This is the moment of the disk of a store that works, and these files are what a crash might have left until then.
pub record IsSharedAt {M D : Type 0} (disk : Ghosts D) (since : ℕ) (left : ℕ → Files → Type 0) (core : StoreView M D) : Type 0 where
  pub works : core.failed ≡ false
  pub moment_is : disk.moment core.disk ≡ since
  pub no_more : (t : ℕ) (c : Files) → left t c → disk.left_since core.disk t c
  pub no_less : (t : ℕ) (c : Files) → disk.left_since core.disk t c → left t c

-- That moment has come, and at each moment since then a crash leaves these moves, perhaps with more behind them.
pub record IsSureSince {D S O R Q A : Type 0} (disk : Ghosts D) (fixed : Fixed S O R Q A) (moves : List (Move O R)) (since : ℕ) (now : D) : Type 0 where
  pub come : since ≤ disk.moment now
  pub have : (c : Files) → disk.left_since now since c → (more : List (Move O R)) × Stands fixed (moves ++ more) c

-- Each move behind those that a store began with has its moment, in order: since then a crash leaves it, with all moves before it.
pub record AreSure {D S O R Q A : Type 0} (disk : Ghosts D) (fixed : Fixed S O R Q A) (begun moves : List (Move O R)) (sure : List ℕ) (now : D) : Type 0 where
  pub long : length begun + length sure ≡ length moves
  pub each : (n since : ℕ) → slice_get sure n ≡ Some since → IsSureSince disk fixed (take (length begun + n + 1) moves) since now

-- The same as `IsSafe`, for who knows the store as it was when it was shared.
pub record IsSafeFrom {D S O R Q A : Type 0} (disk : Ghosts D) (fixed : Fixed S O R Q A) (allows : Move O R → Type 0) (old new : StoreView (Move O R) D) : Type 0 where
  pub tail : List (Move O R)
  pub begins : IsPrefix old.history new.history
  pub none : new.failed ≡ false → tail ≡ []
  pub few : length tail ≤ 64
  pub allowed : AllByRecursion allows tail
  pub valid : IsFullyValid fixed (new.history ++ tail)
  pub now : (c : Files) → disk.may_leave new.disk c → WithFirst fixed new.history tail c
  pub moments : LeavesOnly disk.moment disk.left_since old.disk new.disk (StandsFrom fixed old.history (new.history ++ tail))
