use Rattle.std.proofs.Common.{length}
use Rattle.std.specs.List.{flat_map}
use Rattle.mrdt_map.specs.Keyed.{entry_spelling, entries_spelling}
use Rattle.mrdt_map.proofs.Writing.{PutSoFar}
use Rattle.mrdt_map.proofs.tables.put_entries.Given as goal

abbrev pub invariant-loop-slot : goal.invariant-loop-slot
invariant-loop-slot g l =
    let spelling = g.T.Inner.meaning.state_spelling in
    PutSoFar l.fn.out.items l.out.items (flat_map (entry_spelling spelling) l.walk) (entries_spelling spelling l.table)

abbrev pub decreases-loop-slot : goal.decreases-loop-slot
decreases-loop-slot g l = length l.walk
