use Rattle.std.proofs.Common.{length}
use Rattle.mrdt_map.proofs.Same.{SameSoFar}
use Rattle.mrdt_map.proofs.tables.are_same.Given as goal

-- what was gone over is the same
abbrev pub invariant-loop-slot : goal.invariant-loop-slot
invariant-loop-slot g l = SameSoFar g.T.Inner.meaning l.left l.right l.walk l.others

abbrev pub decreases-loop-slot : goal.decreases-loop-slot
decreases-loop-slot g l = length l.walk
