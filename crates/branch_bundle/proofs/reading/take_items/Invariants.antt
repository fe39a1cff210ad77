use Rattle.branch_bundle.proofs.Taken.{AreTaken}
use Rattle.branch_bundle.proofs.reading.take_items.Given as goal

-- as many items as turns have been taken
abbrev pub invariant-loop-index : goal.invariant-loop-index
invariant-loop-index l = AreTaken l.layout l.initial.cursor l.index l.cursor l.items.items
