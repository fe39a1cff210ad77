use Rattle.std.proofs.Common.{◌∙◌, sym}
use Rattle.mrdt_sequence.proofs.Walks.{settles-more}
use Rattle.mrdt_sequence.proofs.edit.newer_in_front.Goals as goal

pub loop-node-preserved : goal.loop-node-preserved
loop-node-preserved c = settles-more c.args.time c.args.nodes.now c.loop-node.count c.loop-node.nodes c.loop-node.invariant c.in-Some.node.now c.next.new.self c.in-Some.ensures (sym c.is_before.ensures ∙ c.if-not-is_before.false)
