use Rattle.mrdt_set.specs.Reading.{AreTaken}
use Rattle.mrdt_set.proofs.spelled.take_members.Given as goal

-- as many members as turns have been taken
abbrev pub invariant-loop-index : goal.invariant-loop-index
invariant-loop-index l = AreTaken l.fn.cursor l._index l.cursor l.slots.items
