-- The next commit has marked its parents, if it is marked.
use Rattle.std.proofs.Common.{◌-◌, ◌∙◌, sym, arith}
use Rattle.branch_compact.proofs.Marked.{below-start, below-next, below-end}
use Rattle.branch_compact.proofs.marks.mark_below.Goals as goal

pub loop-number-init : goal.loop-number-init
loop-number-init c =
    let graph = c.args.graph.now.commits in
    (below-start graph c.count-number.ensures.ranked c.args.marks.now c.count-number.result (c.requires ∙ sym c.count-number.ensures.count), omega (arith, c.count-number.ensures.count))

pub loop-number-preserved : goal.loop-number-preserved
loop-number-preserved c =
    let graph = c.args.graph.now.commits in
    let from = c.loop-number.number in
    (below-next graph c.count-number.ensures.ranked c.args.marks.now c.loop-number.marks c.mark_parents.new.marks from (from - 1) (omega arith) c.loop-number.invariant.0 c.mark_parents.ensures.marked c.mark_parents.ensures.plain, omega arith)

pub returns : goal.returns
returns c = below-end c.args.graph.now.commits c.count-number.ensures.ranked c.args.marks.now c.loop-number.marks c.loop-number.number (omega arith) c.loop-number.invariant.0
