-- What a disk in memory holds.
use Rattle.std.specs.Prelude.{◌≡◌, ◌⊎◌, ℕ, ◌+◌, ◌-◌, ◌<◌, ◌≤◌, length, vec_capacity, Option, Some, Result, OnOk, OnErr}
use Rattle.branch_io.specs.declared.faults.Faults.{Faults}
use Rattle.branch_io.specs.Counts.{fault_count, capped, IsNextListed}
use Rattle.branch_disk.specs.declared.memory.MemoryDisk.{MemoryDisk}
use Rattle.branch_disk.specs.declared.disk.DiskFailed.{DiskFailed}
use Rattle.branch_disk.specs.Disk.{Files}
use Rattle.branch_disk.specs.Image.{Held}
use Rattle.branch_disk.specs.History.{both_at_rest, replay, WasLeft}

-- what it held before its first call
abbrev pub first : MemoryDisk → Held
first disk = both_at_rest disk.first_objects.items disk.first_heads.items

-- what it holds after its calls
abbrev pub held : MemoryDisk → Held
held disk = replay (first disk) disk.calls.items

abbrev pub moment : MemoryDisk → ℕ
moment disk = length disk.calls.items

abbrev pub left_since : MemoryDisk → ℕ → Files → Type 0
left_since disk = WasLeft (first disk) disk.calls.items

abbrev pub contents : MemoryDisk → Option Files
contents disk = Some (record { objects = disk.objects.items; heads = disk.heads.items })

-- which calls fail, and how many have
abbrev pub faults_of : MemoryDisk → Faults
faults_of disk = disk.faults

abbrev pub faults : MemoryDisk → ℕ
faults disk = fault_count (faults_of disk)

-- A call that is noted changes what is held in the one way where it goes through, in the other where it fails, as it
-- does because it is listed. Where there is no room to note it, that is counted and nothing changes.
abbrev pub Changes : {T : Type 0} → (Held → Held) → (Held → Held) → Result T DiskFailed → MemoryDisk → MemoryDisk → Type 0
Changes through failing result old new =
    OnOk result ((held new ≡ through (held old)) × (moment new ≡ moment old + 1))
    × OnErr result (((held new ≡ failing (held old)) × (moment new ≡ moment old + 1) × IsNextListed (faults_of old) × (new.faults.refused ≡ old.faults.refused))
    ⊎ ((new.calls.items ≡ old.calls.items) × (new.faults.refused ≡ capped (old.faults.refused + 1))))

-- for how many calls more there is room to note them
abbrev pub room : MemoryDisk → ℕ
room disk = vec_capacity disk.calls - length disk.calls.items

-- A call that is noted takes the room of one. Where there was any, it is not refused for want of it.
pub record TakesRoom (old new : MemoryDisk) : Type 0 where
  pub refused : 0 < room old → new.faults.refused ≡ old.faults.refused
  pub taken : room old ≤ room new + 1
