-- The store is shared with the threads of the clients.
use denote.Param.Send.{sendable}
use Rattle.std.proofs.Crossing.{crosses}
use Rattle.parallel_clients.proofs.Crossed.{store-shared}
use Rattle.parallel_clients.proofs.clients.work_all.Goals as goal

pub for_each_mut-requires-sync-F : goal.for_each_mut-requires-sync-F
for_each_mut-requires-sync-F g c κs within =
    let b = c.type_bounds in
    let shared = store-shared _ _ _ _ _ _ _ _ g.T.Mrdt g.D.Disk g.A.Address g.N.Named b.send-T b.sync-T b.send-D b.send-A b.send-N b.send-T-Op b.send-T-Query b.send-T-Answer b.send-T-Reply in
    let runtime = b.sync-R in
    let gate = b.sync-G in
    search (sendable, crosses) depth 30
