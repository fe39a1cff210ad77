use Rattle.std.proofs.Common.{length}
use Rattle.std.specs.List.{flat_map}
use Rattle.live_set.proofs.Writing.{PutSoFar}
use Rattle.mrdt_sequence.specs.Sequence.{node_spelling, sequence_spelling}
use Rattle.mrdt_sequence.proofs.nodes.Nodes.put.Given as goal

abbrev pub invariant-loop-node : goal.invariant-loop-node
invariant-loop-node l = PutSoFar l.fn.out.items l.out.items (flat_map node_spelling l.ahead) (sequence_spelling l.self)

-- what is ahead
abbrev pub decreases-loop-node : goal.decreases-loop-node
decreases-loop-node l = length l.ahead
