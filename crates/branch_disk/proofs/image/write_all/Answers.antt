use Rattle.std.proofs.Common.{◌<◌, length, rules}
use Rattle.branch_disk.proofs.Replayed.{next_reads}
use Rattle.branch_disk.proofs.image.write_all.Goals as goal

pub loop-call-preserved : goal.loop-call-preserved
loop-call-preserved c = λ held began.
    let inside : c.loop-call.call-index < length c.args.calls.now = search rules in
    next_reads held _ _ c.call-item.result c.args.part inside c.call-item.is _ _ (c.loop-call.invariant held began) c.in_ok-write_one.ensures
