use Rattle.std.proofs.Common.{length}
use Rattle.mrdt_set.proofs.Walked.{BeginAlike}
use Rattle.mrdt_set.proofs.same.same_tables.Given as goal

-- what was compared is the same
abbrev pub invariant-loop-slot : goal.invariant-loop-slot
invariant-loop-slot l = BeginAlike l.table l.other l.walk l.others

abbrev pub decreases-loop-slot : goal.decreases-loop-slot
decreases-loop-slot l = length l.walk
