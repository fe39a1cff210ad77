-- The edges so far are written.
use Rattle.std.proofs.Common.{◌≡◌, ◌++◌, take}
use Rattle.std.specs.List.{flat_map}
use Rattle.branch_log.specs.Graphs.{edge_text}
use Rattle.branch_log.proofs.graph.put_edges.Given as goal

abbrev pub invariant-loop-parent : goal.invariant-loop-parent
invariant-loop-parent l = l.out.items ≡ l.initial.out.items ++ flat_map (edge_text l.number) (take l.parent-index l.parents)
