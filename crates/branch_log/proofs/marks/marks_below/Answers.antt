-- The marks began on one commit.
use Rattle.std.proofs.Common.{List, Bool, subst, arith}
use Rattle.branch_compact.specs.Marks.{AreMarkedBelow}
use Rattle.branch_log.proofs.Below.{marked-below}
use Rattle.branch_log.proofs.marks.marks_below.Goals as goal

pub returns-clause-marks : goal.returns-clause-marks
returns-clause-marks c n =
    let graph = c.args.graph.now.commits in
    let marks = c.mark_reached.new.marks.items in
    marked-below graph c.count-count.result c.args.at marks (omega arith)
    (subst (λ (old : List Bool). AreMarkedBelow graph old marks) c.in_ok-marks.ensures.marks c.mark_reached.ensures.below) n
