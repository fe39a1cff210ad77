use Rattle.std.proofs.Common.{length}
use Rattle.mrdt_sequence.proofs.Walks.{Alike}
use Rattle.mrdt_sequence.proofs.compare.are_same.Given as goal

abbrev pub invariant-loop-node : goal.invariant-loop-node
invariant-loop-node l = Alike l.nodes l.others l.mine l.theirs

-- what is ahead
abbrev pub decreases-loop-node : goal.decreases-loop-node
decreases-loop-node l = length l.mine
