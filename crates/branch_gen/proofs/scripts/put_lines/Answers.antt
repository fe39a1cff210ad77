use Rattle.std.proofs.Common.{◌++◌}
use Rattle.branch_gen.specs.Scripts.{lines}
use Rattle.branch_gen.proofs.Counted.{line-more}
use Rattle.branch_gen.proofs.scripts.put_lines.Goals as goal

pub loop-step-preserved : goal.loop-step-preserved
loop-step-preserved c =
    let out = c.loop-step.out.items in
    let before = c.args.out.now.items in
    let all = before ++ lines c.args.steps c.args.draws.now.state in
    rw (c.in_ok-put_line.ensures.text, c.in_ok-put_line.ensures.state)
    (line-more out all c.args.steps c.loop-step._step c.loop-step.draws.state c.loop-step-test.true c.loop-step.invariant)
