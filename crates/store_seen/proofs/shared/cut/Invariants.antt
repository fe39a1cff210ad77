-- So many of the last ones were taken off.
use Rattle.std.proofs.Common.{◌≡◌, ◌-◌, length}
use Rattle.store_seen.specs.Nodes.{first_nodes}
use Rattle.store_seen.proofs.shared.cut.Given as goal

abbrev pub invariant-loop-popped : goal.invariant-loop-popped
invariant-loop-popped g l = l.nodes ≡ first_nodes (length l.fn.nodes.graph.commits - l._popped) l.fn.nodes
