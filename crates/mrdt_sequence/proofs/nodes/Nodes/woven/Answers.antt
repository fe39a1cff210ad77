use Rattle.mrdt_sequence.proofs.Weaving.{woven_end}
use Rattle.mrdt_sequence.proofs.nodes.Nodes.woven.Goals as goal

pub returns : goal.returns
returns c =
    let now = c.loop-mine in
    woven_end c.args.left.now c.args.right.now now.made now.place now.mine now.others now.invariant (c.is_at_end.ensures.0 c.loop-mine-test.false)
