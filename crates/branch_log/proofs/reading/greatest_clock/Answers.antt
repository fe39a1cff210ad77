-- The next clock is the greatest so far, or does not count.
use Rattle.std.proofs.Common.{◌∙◌}
use Rattle.branch_log.proofs.Made.{greatest-step}
use Rattle.branch_log.proofs.reading.greatest_clock.Goals as goal

pub loop-number-preserved : goal.loop-number-preserved
loop-number-preserved c =
    let i = c.loop-number.number-index in
    greatest-step c.args.made.now c.args.numbers.now i c.loop-number.greatest c.max-greatest.result _ c.loop-number-test.true (c.requires i 0 c.loop-number-test.true) c.max-greatest.ensures
    ∙ c.loop-number.invariant
