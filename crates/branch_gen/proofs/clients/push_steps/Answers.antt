use Rattle.std.proofs.Common.{◌++◌}
use Rattle.branch_gen.specs.Clients.{drawn_steps}
use Rattle.branch_gen.proofs.Counted.{step-more}
use Rattle.branch_gen.proofs.clients.push_steps.Goals as goal

pub loop-step-preserved : goal.loop-step-preserved
loop-step-preserved c =
    let out = c.loop-step.out.items in
    let before = c.args.out.now.items in
    let all = before ++ drawn_steps c.args.branch c.args.steps c.args.draws.now.state in
    rw (c.in_ok-push.ensures.items, c.in_ok-step.ensures.made, c.in_ok-step.ensures.state)
    (step-more c.args.branch out all c.args.steps c.loop-step._step c.loop-step.draws.state c.loop-step-test.true c.loop-step.invariant)
