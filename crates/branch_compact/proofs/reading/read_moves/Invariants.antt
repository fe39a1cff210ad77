-- The moves so far are read.
use Rattle.std.proofs.Common.{◌≡◌, take}
use Rattle.branch_history.specs.History.{store_of}
use Rattle.branch_compact.specs.Marks.{IsReadOf}
use Rattle.branch_compact.proofs.reading.read_moves.Given as goal

abbrev pub invariant-loop-made : goal.invariant-loop-made
invariant-loop-made g l =
    IsReadOf (store_of l.fn.terms.origin (take l.made-index l.moves)) l.read.graph.commits l.read.branches.items
    × (l.read.graph.limit ≡ l.fn.terms.limits.commits)
