use Rattle.std.proofs.Common.{◌≡◌, ◌≤◌, ◌++◌, List, ℕ, [], length, false}
use Rattle.std.specs.Prelude.{None}
use Rattle.branch_script.specs.Lines.{lines_of}
use Rattle.branch_print.specs.Summaries.{AreWithin, summary_of}
use Rattle.branch_shell.specs.Reading.{IsWholeLines}
use Rattle.branch_shell.specs.Telling.{TellsLines, CountsLines}
use Rattle.branch_shell.specs.Values.{value_type}
use Rattle.branch_shell.proofs.generate.count_lines.Given as goal

abbrev pub invariant-loop-line : goal.invariant-loop-line
invariant-loop-line g l = record {
  done : List ℕ;
  parts : l.text ≡ done ++ l.rest;
  ended : IsWholeLines done;
  rest_ended : IsWholeLines l.rest;
  told : TellsLines g.D.Disk.may_leave g.D.Disk.moment g.D.Disk.left_since (value_type g.T.Mrdt.meaning g.T.Forms.forms g.T.Kinded.KIND) g.A.Address.address (lines_of done) l.initial.engine l.engine None None;
  counted : CountsLines g.D.Disk.may_leave (value_type g.T.Mrdt.meaning g.T.Forms.forms g.T.Kinded.KIND) g.A.Address.address (lines_of done) l.initial.engine (summary_of []) l.summary;
  few : l.summary.lines ≤ length done;
  within : AreWithin l.summary;
  working : l.engine.core.failed ≡ false;
  disk_same : g.D.Disk.faults l.engine.core.disk ≡ g.D.Disk.faults l.initial.engine.core.disk;
}

abbrev pub decreases-loop-line : goal.decreases-loop-line
decreases-loop-line g l = length l.rest
