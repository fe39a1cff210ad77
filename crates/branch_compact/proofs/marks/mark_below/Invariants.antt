-- The commits from the number on have marked their parents.
use Rattle.std.proofs.Common.{◌≤◌, length}
use Rattle.branch_compact.proofs.Marked.{AreMarkedFrom}
use Rattle.branch_compact.proofs.marks.mark_below.Given as goal

abbrev pub decreases-loop-number : goal.decreases-loop-number
decreases-loop-number l = l.number

abbrev pub invariant-loop-number : goal.invariant-loop-number
invariant-loop-number l = AreMarkedFrom l.graph.commits l.fn.marks l.marks l.number × (l.number ≤ length l.graph.commits)
