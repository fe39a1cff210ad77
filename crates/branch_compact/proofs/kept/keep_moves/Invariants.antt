-- The moves that stay are those so far, and those that stay of the rest.
use Rattle.std.proofs.Common.{◌≡◌, ◌+◌, ◌++◌, length}
use Rattle.std.specs.Vec.Iter.{into_iter_items, into_iter_len}
use Rattle.branch_compact.specs.Compact.{kept_moves}
use Rattle.branch_compact.specs.Marks.{is_marked, all_made}
use Rattle.branch_compact.proofs.Counted.{kept_from}
use Rattle.branch_compact.proofs.kept.keep_moves.Given as goal

abbrev pub invariant-loop-made : goal.invariant-loop-made
invariant-loop-made g l =
    (goal.iterator-loop-made g).can_next l.made-iterator × (goal.iterator-loop-made g).is_finite l.made-iterator
    × (kept_moves (is_marked l.kept) l.fn.moves ≡ l.fewer.items ++ kept_from (is_marked l.kept) l.before (into_iter_items l.made-iterator))
    × (into_iter_len l.made-iterator ≡ length (into_iter_items l.made-iterator))
    × (l.before + all_made (into_iter_items l.made-iterator) ≡ 1 + all_made l.fn.moves)
