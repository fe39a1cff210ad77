use Rattle.std.proofs.Common.{false, refl}
use Rattle.std.specs.List.{flat_map}
use Rattle.std.proofs.lemmas.Bool.{both_ways}
use Rattle.mrdt_sequence.specs.Sequence.{node_spelling}
use Rattle.mrdt_sequence.proofs.Walks.{alike-first, alike-next, alike-more}
use Rattle.mrdt_sequence.proofs.compare.are_same.Goals as goal

pub returns-then-not-is_same_node-clause-same : goal.returns-then-not-is_same_node-clause-same
returns-then-not-is_same_node-clause-same c = (
  λ no. absurd (both_ways false refl no),
  λ same.
      let one = alike-first c.args.nodes.now c.args.others.now c.loop-node.mine c.loop-node.theirs c.loop-node.invariant c.in-Some.node.now c.in-Some-next.other.now c.next.new.self c.next-in-Some.new.self c.in-Some.ensures c.in-Some-next.ensures same in
      absurd (both_ways c.is_same_node.result c.if-not-is_same_node.true (c.is_same_node.ensures.same.1 one)),
)

pub returns-then-not-is_same_node-clause-spelled : goal.returns-then-not-is_same_node-clause-spelled
returns-then-not-is_same_node-clause-spelled c spelled =
    let next = alike-next c.args.nodes.now c.args.others.now c.loop-node.mine c.loop-node.theirs c.loop-node.invariant c.in-Some.node.now c.in-Some-next.other.now c.next.new.self c.next-in-Some.new.self c.in-Some.ensures c.in-Some-next.ensures spelled in
    let one = c.is_same_node.ensures.spelled (flat_map node_spelling c.next.new.self) (flat_map node_spelling c.next-in-Some.new.self) next in
    absurd (both_ways c.is_same_node.result c.if-not-is_same_node.true (c.is_same_node.ensures.same.1 one))

pub loop-node-preserved : goal.loop-node-preserved
loop-node-preserved c =
    alike-more c.args.nodes.now c.args.others.now c.loop-node.mine c.loop-node.theirs c.loop-node.invariant c.in-Some.node.now c.in-Some-next.other.now c.next.new.self c.next-in-Some.new.self c.in-Some.ensures c.in-Some-next.ensures (c.is_same_node.ensures.same.0 c.if-not-is_same_node.false)
