use denote.Builtin.{unit, i128}
use denote.Param.{param}
use denote.Param.Send.{sendable, IsSend, IsSync}
use Rattle.std.proofs.Crossing.{crosses}
use Rattle.branch_address.specs.contracts.address.Sha256Address as Sha256Address
use Rattle.branch_address.specs.contracts.address.Sha256AddressAddress.TheImpl as Sha256AddressAddress
use Rattle.branch_disk.specs.contracts.memory.MemoryDisk as MemoryDisk
use Rattle.branch_disk.specs.contracts.memory.MemoryDiskDisk.TheImpl as MemoryDiskDisk
use Rattle.mrdt_counter.specs.contracts.sum.Sum as Sum
use Rattle.mrdt_counter.specs.contracts.sum.SumOp as SumOp
use Rattle.mrdt_counter.specs.contracts.counter.CounterQuery as CounterQuery
use Rattle.mrdt_counter.specs.contracts.sum.SumMrdt.TheImpl as SumMrdt
use Rattle.branch_shared.specs.contracts.pass.Pass as Pass
use Rattle.branch_shared.specs.contracts.shared.Shared as Shared
use Rattle.thread_tests.specs.contracts.calls.Turns as Turns
use Rattle.branch_shared.proofs.Crosses.{Shared-sync, Pass-send}
use Rattle.thread_tests.proofs.calls.beside.Goals as goal

pub join-requires-send-F : goal.join-requires-send-F
join-requires-send-F g c κs within =
    let n : IsSend (param 0 g.row.N) = search sendable in
    let d : IsSend MemoryDisk.the_row = search (sendable, crosses) depth 20 in
    let s : IsSync (Shared.the_row Sum.the_row MemoryDisk.the_row Sha256Address.the_row (param 0 g.row.N) SumOp.the_row CounterQuery.the_row i128 unit SumMrdt.ghosts MemoryDiskDisk.ghosts Sha256AddressAddress.ghosts g.N.Named) =
    Shared-sync Sum.the_row MemoryDisk.the_row Sha256Address.the_row (param 0 g.row.N) SumOp.the_row CounterQuery.the_row i128 unit SumMrdt.ghosts MemoryDiskDisk.ghosts Sha256AddressAddress.ghosts g.N.Named (search sendable) (search sendable) d (search sendable) n (search sendable) (search sendable) in
    let p : IsSend (Pass.the_row Sum.the_row (param 0 g.row.N) SumOp.the_row CounterQuery.the_row i128 unit SumMrdt.ghosts g.N.Named) =
    Pass-send Sum.the_row (param 0 g.row.N) SumOp.the_row CounterQuery.the_row i128 unit SumMrdt.ghosts g.N.Named n in
    let t : IsSync (Turns.the_field).row = search (sendable, crosses) depth 20 in
    let r : IsSync (param 1 g.row.R) = c.type_bounds.sync-R in
    search (sendable, crosses) depth 30
