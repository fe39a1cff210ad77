-- A disk in memory may go to another thread.
use denote.Param.Send.{IsSend, sendable}
use Rattle.std.proofs.Crossing.{crosses}
use Rattle.branch_disk.specs.contracts.memory.MemoryDisk as MemoryDisk

pub MemoryDisk-send : IsSend (MemoryDisk.the_field).row
MemoryDisk-send = search (sendable, crosses) depth 20
