use Rattle.std.proofs.Common.{length}
use Rattle.live_set.proofs.Sharing.{AreAlike}
use Rattle.live_set.proofs.spelled.are_same.Given as goal

-- what was compared is the same
abbrev pub invariant-loop-kept : goal.invariant-loop-kept
invariant-loop-kept g l = AreAlike l.entries l.others l.mine l.theirs

-- what is ahead
abbrev pub decreases-loop-kept : goal.decreases-loop-kept
decreases-loop-kept g l = length l.mine
