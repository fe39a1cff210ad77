-- Some first ones of the moves were made, and the rest are made again behind them.
use Rattle.std.proofs.Common.{◌≡◌, length}
use Rattle.std.specs.Vec.Iter.{into_iter_items, into_iter_len}
use Rattle.moves_again.proofs.Loops.{GoesOn}
use Rattle.moves_again.proofs.again.make_all.Given as goal

abbrev pub invariant-loop-made : goal.invariant-loop-made
invariant-loop-made g l =
    (goal.iterator-loop-made g).can_next l.made-iterator × (goal.iterator-loop-made g).is_finite l.made-iterator
    × GoesOn g.D.Disk g.T.Mrdt.meaning g.A.Address.address l.fn.moves.items (into_iter_items l.made-iterator) l.fn.core l.core
    × (into_iter_len l.made-iterator ≡ length (into_iter_items l.made-iterator))
