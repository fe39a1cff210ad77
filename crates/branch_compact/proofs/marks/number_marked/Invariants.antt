-- The commits so far are numbered.
use Rattle.branch_compact.proofs.Counted.{AreCounted}
use Rattle.branch_compact.proofs.marks.number_marked.Given as goal

abbrev pub invariant-loop-kept : goal.invariant-loop-kept
invariant-loop-kept l = AreCounted l.marks l.numbers.items l.count l.kept-index
