-- What is brought of the commits before this one.
use Rattle.std.proofs.Common.{◌≡◌}
use Rattle.store_seen.proofs.Brought.{brought_first}
use Rattle.store_seen.proofs.group.brought_of.Given as goal

abbrev pub invariant-loop-place : goal.invariant-loop-place
invariant-loop-place g l = l.found.items ≡ brought_first l.nodes.graph.commits l.head l.others l.place
