use Rattle.std.proofs.Common.{◌+◌, length}
use Rattle.live_set.proofs.Merging.{IsMerging}
use Rattle.live_set.proofs.live.Live.merge.Given as goal

abbrev pub invariant-loop-time : goal.invariant-loop-time
invariant-loop-time g l = IsMerging l.base l.left l.right l.base_ahead l.right_ahead l.merged

-- what is ahead
abbrev pub decreases-loop-time : goal.decreases-loop-time
decreases-loop-time g l = length l.base_ahead + length l.right_ahead
