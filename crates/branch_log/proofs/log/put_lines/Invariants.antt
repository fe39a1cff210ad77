-- What is written and the lines that are left are all lines.
use Rattle.std.proofs.Common.{◌≡◌, ◌≤◌, ◌++◌, length}
use Rattle.branch_log.specs.Told.{lines_told}
use Rattle.branch_log.proofs.log.put_lines.Given as goal

abbrev pub decreases-loop-number : goal.decreases-loop-number
decreases-loop-number g l = l.number

abbrev pub invariant-loop-number : goal.invariant-loop-number
invariant-loop-number g l = record {
  within : l.number ≤ length l.marks;
  lines : let told = lines_told g.T.Tells.plain_op g.T.Forms.forms.reply l.moves l.commits.graph.commits l.commits.made.items l.marks in
      l.out.items ++ told l.left l.number ≡ l.initial.out.items ++ told l.fn.count (length l.marks);
}
