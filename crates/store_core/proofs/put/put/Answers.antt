-- What the moves leave where the disk fails.
use Rattle.branch_disk.specs.Moments.{now_too}
use Rattle.branch_machine.specs.Fixed.{fix}
use Rattle.store_core.proofs.Landings.{first_left}
use Rattle.store_core.proofs.put.put.Goals as goal

pub returns-in-Err-clause-left : goal.returns-in-Err-clause-left
returns-in-Err-clause-left g c = λ f image.
    let d = g.D.Disk in let laws = g.met.D.Disk in
    let r = c.args.recorded.now in
    first_left (fix g.T.Mrdt.meaning r.terms g.A.Address.address) r.written r.pending c.moves.ensures.valid f
    (now_too d.moment d.left_since d.may_leave laws.counts_now _ _ _ c.write_waiting.ensures.any_moment f image)
