-- The next line is written, if it is marked.
use Rattle.std.proofs.Common.{◌-◌, ◌∙◌, ◌++◌, ap, sym, arith}
use Rattle.branch_log.specs.Told.{lines_told}
use Rattle.branch_log.proofs.Told.{written-more, written-all}
use Rattle.branch_log.proofs.log.put_lines.Goals as goal

pub loop-number-init : goal.loop-number-init
loop-number-init g c =
    let told = lines_told g.T.Tells.plain_op g.T.Forms.forms.reply c.args.moves.now c.args.commits.now.graph.commits c.args.commits.now.made.items c.args.marks.now in
    record {
      within = omega (arith, c.count-number.ensures.count, c.requires.marks);
      lines = ap (λ n. c.args.out.now.items ++ told c.args.count n) (c.count-number.ensures.count ∙ sym c.requires.marks);
    }

pub loop-number-preserved : goal.loop-number-preserved
loop-number-preserved g c = record {
  within = let was = c.loop-number.invariant.within in omega (arith, was);
  lines = written-more g.T.Tells.plain_op g.T.Forms.forms.reply c.args.moves.now c.args.commits.now.graph.commits c.args.commits.now.made.items c.args.marks.now
      c.loop-number.out.items c.put_marked.new.out.items _ c.loop-number.left _ c.loop-number.number (c.loop-number.number - 1) (omega arith) (omega arith) c.loop-number.invariant.lines c.in_ok-left.ensures.line c.in_ok-left.ensures.left;
}

pub returns-after-loop-number : goal.returns-after-loop-number
returns-after-loop-number g c =
    written-all g.T.Tells.plain_op g.T.Forms.forms.reply c.args.moves.now c.args.commits.now.graph.commits c.args.commits.now.made.items c.args.marks.now
    c.loop-number.out.items _ c.loop-number.left c.loop-number.number (λ more some. omega arith) c.loop-number.invariant.lines

pub returns-else-left-gt0 : goal.returns-else-left-gt0
returns-else-left-gt0 g c =
    written-all g.T.Tells.plain_op g.T.Forms.forms.reply c.args.moves.now c.args.commits.now.graph.commits c.args.commits.now.made.items c.args.marks.now
    c.loop-number.out.items _ c.loop-number.left c.loop-number.number (λ more some. omega arith) c.loop-number.invariant.lines
