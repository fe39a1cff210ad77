use Rattle.mrdt_map.specs.Reading.{AreTaken}
use Rattle.mrdt_map.proofs.tables.take_entries.Given as goal

-- as many entries as turns have been taken
abbrev pub invariant-loop-index : goal.invariant-loop-index
invariant-loop-index g l = AreTaken g.T.Inner.meaning l.fn.cursor l._index l.cursor l.slots.items
