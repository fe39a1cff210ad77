use Rattle.branch_disk.specs.Fill.{IsLastSync}
use Rattle.branch_disk.proofs.image.last_sync.Given as goal

abbrev pub invariant-loop-i : goal.invariant-loop-i
invariant-loop-i l = IsLastSync l.part l.calls l.i l.last
