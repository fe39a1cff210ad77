use Rattle.std.proofs.Common.{refl, arith}
use Rattle.branch_graph.specs.Paints.{Takes}
use Rattle.branch_graph.proofs.Reaching.{at-start, at-turn}
use Rattle.branch_graph.proofs.walk.reaches.Goals as goal

pub loop-number-init : goal.loop-number-init
loop-number-init g c =
    let painted = rw (c.new-waiting.ensures, c.left.ensures) at c.in_ok-paint.ensures.painted in
    let low = rw c.new-waiting.ensures at c.in_ok-paint.ensures.below in
    rw c.count-end.ensures.count
    (at-start c.args.graph.now.commits c.count-end.ensures.ranked c.args.above c.args.below c.paint.new.self c.args.steps.now c.requires.above c.requires.ordered painted (λ end lt. low end lt (λ n le. refl)))

pub loop-number-preserved : goal.loop-number-preserved
loop-number-preserved g c =
    let takes : Takes c.loop-number.waiting c.in-Some.number c.in-Some.field-0-1 c.take.new.self = c.in-Some.ensures.taken in
    let painted = rw (c.left-in-Some.ensures, c.parents.ensures.parents) at c.in_ok-paint_from.ensures.painted in
    rw c.in-Some.ensures.step
    (at-turn c.args.graph.now.commits c.count-end.ensures.ranked c.args.above c.args.below c.loop-number.waiting c.take.new.self c.paint_from.new.self c.loop-number.end c.in-Some.number c.in-Some.field-0-1 c.loop-number.steps c.args.steps.now c.loop-number.invariant takes c.if-number-below.false painted
    (λ e le. c.in_ok-paint_from.ensures.below e (λ k d lt. let less = c.parents.ensures.smaller k d lt in omega (arith, less, le))))
