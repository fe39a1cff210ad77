-- The marks began on the tip.
use Rattle.store_core.proofs.Bundled.{tip-marked}
use Rattle.store_core.proofs.bundling.mark_tip.Goals as goal

pub returns-clause-marks : goal.returns-clause-marks
returns-clause-marks c =
    tip-marked c.args.graph.now.commits c.args.tip c.in_ok-marks.marks.items c.mark.new.marks.items c.mark_reached.new.marks.items c.unmark_first.new.marks.items c.in_ok-marks.ensures.marks c.mark.ensures.marked c.mark_reached.ensures.below c.unmark_first.ensures.marked
