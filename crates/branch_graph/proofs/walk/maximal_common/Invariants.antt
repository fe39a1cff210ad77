use Rattle.branch_graph.proofs.Maximal.{IsAt}
use Rattle.branch_graph.proofs.walk.maximal_common.Given as goal

abbrev pub invariant-loop-number : goal.invariant-loop-number
invariant-loop-number g l = IsAt l.graph.commits l.left l.right l.waiting l.end l.found.items l.steps l.fn.steps

abbrev pub decreases-loop-number : goal.decreases-loop-number
decreases-loop-number g l = l.end
