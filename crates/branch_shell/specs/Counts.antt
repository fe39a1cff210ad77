-- How often the source, the sink and the disks have failed, by how a run ends.
use Rattle.std.specs.Prelude.{◌≡◌, ◌⊎◌, ℕ}
use Rattle.branch_io.specs.Causes.{Rose}
use Rattle.branch_shell.specs.declared.status.Status.{Status}
use Rattle.branch_shell.specs.declared.status.Status.TheVariants.{Done, Usage, StoreRefused, DiskFault, ReadFault, WriteFault, LineTooLong, InputTooLong, Memory}

-- how often each has failed
pub record Counts : Type 0 where
  pub source : ℕ
  pub sink : ℕ
  pub disk : ℕ

abbrev pub StayTheSame : Counts → Counts → Type 0
StayTheSame before now = (now.source ≡ before.source) × (now.sink ≡ before.sink)
    × (now.disk ≡ before.disk)

-- the sink failed, and nothing else; or it failed to finish behind a fault of the source or of the
-- disk
abbrev pub SinkFailed : Counts → Counts → Type 0
SinkFailed before now =
    Rose before.sink now.sink
    × (((now.source ≡ before.source) × (now.disk ≡ before.disk))
    ⊎ ((Rose before.source now.source × (now.disk ≡ before.disk))
    ⊎ ((now.source ≡ before.source) × Rose before.disk now.disk)))

-- only the fault that the status tells raised its count, but that the sink may fail to finish
-- behind another fault
abbrev pub HasReason : Counts → Counts → Status → Type 0
HasReason before now Done = StayTheSame before now
HasReason before now Usage = StayTheSame before now
HasReason before now StoreRefused = StayTheSame before now
HasReason before now DiskFault = Rose before.disk now.disk × (now.source ≡ before.source)
    × (now.sink ≡ before.sink)
HasReason before now ReadFault = Rose before.source now.source × (now.sink ≡ before.sink)
    × (now.disk ≡ before.disk)
HasReason before now WriteFault = SinkFailed before now
HasReason before now LineTooLong = StayTheSame before now
HasReason before now InputTooLong = StayTheSame before now
HasReason before now Memory = StayTheSame before now

-- how often each has failed, of a run over two disks
pub record BothCounts : Type 0 where
  pub source : ℕ
  pub sink : ℕ
  pub first : ℕ
  pub second : ℕ

-- the counts of a run over one of the two
abbrev pub on_first : BothCounts → Counts
on_first counts = record {
  source = counts.source;
  sink = counts.sink;
  disk = counts.first;
}

abbrev pub on_second : BothCounts → Counts
on_second counts = record {
  source = counts.source;
  sink = counts.sink;
  disk = counts.second;
}

-- only the fault that the status tells raised its count, but that the sink may fail to finish
-- behind another fault; and of the two disks one at most failed
abbrev pub HaveReason : BothCounts → BothCounts → Status → Type 0
HaveReason before now status =
    (HasReason (on_first before) (on_first now) status × (now.second ≡ before.second))
    ⊎ (HasReason (on_second before) (on_second now) status × (now.first ≡ before.first))

-- why telling a script stopped before the sink was to finish: at the first fault
abbrev pub StopsAtFault : Counts → Counts → Status → Type 0
StopsAtFault before now Usage = ⊥
StopsAtFault before now StoreRefused = ⊥
StopsAtFault before now WriteFault = Rose before.sink now.sink × (now.source ≡ before.source)
    × (now.disk ≡ before.disk)
StopsAtFault before now status = HasReason before now status

-- telling lines was stopped by a fault of the sink or of the disk, or by want of memory
abbrev pub StopsTelling : ℕ → ℕ → ℕ → ℕ → Status → Type 0
StopsTelling sink_before sink_now disk_before disk_now WriteFault = Rose sink_before sink_now
    × (disk_now ≡ disk_before)
StopsTelling sink_before sink_now disk_before disk_now DiskFault = Rose disk_before disk_now
    × (sink_now ≡ sink_before)
StopsTelling sink_before sink_now disk_before disk_now Memory = (sink_now ≡ sink_before)
    × (disk_now ≡ disk_before)
StopsTelling sink_before sink_now disk_before disk_now status = ⊥

-- telling lines that give nothing was stopped by a fault of the disk, or by want of memory
abbrev pub StopsCounting : ℕ → ℕ → Status → Type 0
StopsCounting before now DiskFault = Rose before now
StopsCounting before now Memory = now ≡ before
StopsCounting before now status = ⊥

-- a text was to be given: the sink's count rose where that failed, and stays else
abbrev pub SaysReason : ℕ → ℕ → Status → Type 0
SaysReason before now WriteFault = Rose before now
SaysReason before now status = now ≡ before
