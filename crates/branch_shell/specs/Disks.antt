-- Two disks, and the one of them that a command works on: the current one.
use Rattle.std.specs.Prelude.{◌≡◌, ◌⊎◌, ℕ, true, false, List, [], Some, None, if◌then◌else◌}
use Rattle.std.specs.declared.option.Option.{Option}
use Rattle.std.specs.Option.{ForSome}
use Rattle.branch_disk.specs.declared.disk.Disk.{Ghosts}
use Rattle.branch_disk.specs.Disk.{Files, LeavesOnly}
use Rattle.branch_compact.specs.Switch.{is_current}
use Rattle.store_compact.specs.declared.answers.Which.{Which}
use Rattle.store_compact.specs.declared.answers.Which.TheVariants.{First, Second}
use Rattle.branch_shell.specs.declared.choose.Values.{Values}
use Rattle.branch_shell.specs.declared.status.Status.{Status}
use Rattle.branch_shell.specs.declared.status.Status.TheVariants.{DiskFault, Memory}
use Rattle.branch_shell.specs.Values.{HaveValues}

-- two disks
pub record Disks (D : Type 0) : Type 0 where
  pub first : D
  pub second : D

-- the one of them that was chosen
abbrev pub held : {D : Type 0} → Which → Disks D → D
held First disks = disks.first
held Second disks = disks.second

-- the one that was not
abbrev pub other : {D : Type 0} → Which → Disks D → D
other First disks = disks.second
other Second disks = disks.first

-- the files of the first disk say that this one is current
abbrev pub IsCurrentBy : Which → Files → Type 0
IsCurrentBy First files = is_current files ≡ true
IsCurrentBy Second files = is_current files ≡ false

-- what the current one of two disks tells, by what both tell
abbrev pub current_told : Option Files → Option Files → Option Files
current_told (Some files) second = if is_current files then Some files else second
current_told None second = None

-- at each moment of a run a crash leaves only what one might have left at its start
abbrev pub LeavesAsBefore : {D : Type 0} → Ghosts D → D → D → Type 0
LeavesAsBefore disk old new = LeavesOnly disk.moment disk.left_since old new (disk.may_leave old)

-- the disk tells what it told, and a crash leaves only what one might have left before
pub record StaysSame {D : Type 0} (disk : Ghosts D) (old new : D) : Type 0 where
  pub same : disk.contents new ≡ disk.contents old
  pub kept : LeavesAsBefore disk old new

-- each image of the disk is what it tells
abbrev pub IsSettled : {D : Type 0} → Ghosts D → D → Type 0
IsSettled disk now = (c : Files) → disk.may_leave now c → disk.contents now ≡ Some c

-- This one of two disks is current, and has these values. Both were synced, so that each image of
-- either is what it tells, and nothing else was done to them.
pub record AreChosen {D : Type 0} (disk : Ghosts D) (old now : Disks D) (which : Which)
    (values : Values) : Type 0 where
  pub first : StaysSame disk old.first now.first
  pub second : StaysSame disk old.second now.second
  pub first_settled : IsSettled disk now.first
  pub second_settled : IsSettled disk now.second
  pub current : ForSome (disk.contents old.first) (IsCurrentBy which)
  pub have : ForSome (disk.contents (held which old)) (HaveValues values)

-- None was chosen, since a disk failed or memory was short: nothing was read or written, and a crash
-- leaves of either disk only what one might have left before.
pub record NoneChosen {D : Type 0} (disk : Ghosts D) (old new : Disks D) (status : Status)
    (input text : List ℕ) : Type 0 where
  pub why : (status ≡ DiskFault) ⊎ (status ≡ Memory)
  pub no_input : input ≡ []
  pub no_text : text ≡ []
  pub first : StaysSame disk old.first new.first
  pub second : StaysSame disk old.second new.second
