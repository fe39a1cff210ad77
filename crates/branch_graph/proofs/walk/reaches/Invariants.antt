use Rattle.branch_graph.proofs.Reaching.{IsReachingAt}
use Rattle.branch_graph.proofs.walk.reaches.Given as goal

abbrev pub invariant-loop-number : goal.invariant-loop-number
invariant-loop-number g l = IsReachingAt l.graph.commits l.above l.below l.waiting l.end l.steps l.fn.steps

abbrev pub decreases-loop-number : goal.decreases-loop-number
decreases-loop-number g l = l.end
