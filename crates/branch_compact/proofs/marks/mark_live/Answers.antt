-- The marks began on the heads.
use Rattle.branch_compact.proofs.Marked.{live-marked}
use Rattle.branch_compact.proofs.marks.mark_live.Goals as goal

pub returns-clause-live : goal.returns-clause-live
returns-clause-live c =
    live-marked c.args.graph.now.commits c.count-end.ensures.ranked c.args.branches.now c.in_ok-marks.marks.items c.mark_reached.new.marks.items c.in_ok-marks.ensures.marks c.mark_reached.ensures.below
