use Rattle.std.proofs.Common.{◌≡◌, ◌≤◌, ◌++◌, List, ℕ, length, take, false}
use Rattle.branch_script.specs.Lines.{lines_of}
use Rattle.branch_shell.specs.Reading.{IsWholeLines, AreShort, HasNoLineEnd}
use Rattle.branch_shell.specs.Telling.{TellsLines}
use Rattle.branch_shell.specs.Values.{value_type}
use Rattle.branch_shell.proofs.script.tell_whole_lines.Given as goal

abbrev pub invariant-loop-line : goal.invariant-loop-line
invariant-loop-line g l = record {
  done : List ℕ;
  parts : l.bytes ≡ done ++ l.rest;
  ended : IsWholeLines done;
  short : AreShort (lines_of done);
  within : l.scanned ≤ length l.rest;
  open_front : HasNoLineEnd (take l.scanned l.rest);
  told : TellsLines g.D.Disk.may_leave g.D.Disk.moment g.D.Disk.left_since (value_type g.T.Mrdt.meaning g.T.Forms.forms g.T.Kinded.KIND) g.A.Address.address (lines_of done) l.initial.engine l.engine (g.K.Sink.given l.initial.sink) (g.K.Sink.given l.sink);
  working : l.engine.core.failed ≡ false;
  sink_same : g.K.Sink.faults l.sink ≡ g.K.Sink.faults l.initial.sink;
  disk_same : g.D.Disk.faults l.engine.core.disk ≡ g.D.Disk.faults l.initial.engine.core.disk;
}

abbrev pub decreases-loop-line : goal.decreases-loop-line
decreases-loop-line g l = length l.rest
