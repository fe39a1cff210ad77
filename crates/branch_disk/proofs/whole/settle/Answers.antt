use Rattle.branch_disk.proofs.Settled.{settled}
use Rattle.branch_disk.proofs.whole.settle.Goals as goal

pub returns-clause-durable : goal.returns-clause-durable
returns-clause-durable g c =
    let d = g.D.Disk in let laws = g.met.D.Disk in
    settled d.contents d.may_leave d.moment d.left_since laws.counts_now laws.told _ _ _ c.in_ok-sync.ensures.moments c.in_ok-sync.ensures.same c.in_ok-sync.ensures.durable
    c.sync-2.ensures.moments c.sync-2.ensures.same c.sync-2.result c.sync-2.ensures.durable
