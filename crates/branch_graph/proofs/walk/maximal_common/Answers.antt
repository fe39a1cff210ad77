use Rattle.branch_graph.specs.Paints.{Takes}
use Rattle.branch_graph.proofs.Maximal.{at-start, at-turn, at-end}
use Rattle.branch_graph.proofs.walk.maximal_common.Goals as goal

pub loop-number-init : goal.loop-number-init
loop-number-init g c =
    rw (c.new-found.ensures.items, c.count-end.ensures.count)
    (at-start c.args.graph.now.commits c.count-end.ensures.ranked c.args.left.now c.args.right.now c.in_ok-waiting.waiting c.args.steps.now c.requires.left c.requires.right c.in_ok-waiting.ensures.painted c.in_ok-waiting.ensures.below)

pub loop-number-preserved : goal.loop-number-preserved
loop-number-preserved g c =
    let takes : Takes c.loop-number.waiting c.in-Some.number c.in-Some.paint c.take.new.self = c.in-Some.ensures.taken in
    rw (c.in-Some.ensures.step, c.in_ok-visit.ensures.found)
    (at-turn c.args.graph.now.commits c.count-end.ensures.ranked c.args.left.now c.args.right.now c.loop-number.waiting c.take.new.self c.visit.new.waiting c.loop-number.end c.in-Some.number c.in-Some.paint c.loop-number.found.items c.loop-number.steps c.args.steps.now c.loop-number.invariant takes
    c.in_ok-visit.ensures.painted c.in_ok-visit.ensures.below)

pub returns-clause-found : goal.returns-clause-found
returns-clause-found g c =
    at-end c.args.graph.now.commits c.count-end.ensures.ranked c.args.left.now c.args.right.now c.loop-number.waiting c.loop-number.end c.loop-number.found.items c.loop-number.steps c.args.steps.now c.loop-number.invariant c.in_default.ensures.none
