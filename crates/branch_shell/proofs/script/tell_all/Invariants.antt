use Rattle.std.proofs.Common.{◌≡◌, ◌-◌, ◌^◌, ◌<◌, ◌≤◌, take, false}
use Rattle.branch_shell.specs.Telling.{IsReading}
use Rattle.branch_shell.specs.Values.{value_type}
use Rattle.branch_shell.proofs.script.tell_all.Given as goal

abbrev pub invariant-loop-read : goal.invariant-loop-read
invariant-loop-read g l = record {
  reading : IsReading g.D.Disk.may_leave g.D.Disk.moment g.D.Disk.left_since (value_type g.T.Mrdt.meaning g.T.Forms.forms g.T.Kinded.KIND) g.A.Address.address l.initial.engine l.engine (take l.waiting l.buffer) l.read (g.S.Source.left l.initial.source) (g.S.Source.left l.source) (g.K.Sink.given l.initial.sink) (g.K.Sink.given l.sink);
  fewer : l.waiting < 4096;
  most : l.read ≤ 2 ^ 32;
  working : l.engine.core.failed ≡ false;
  source_same : g.S.Source.faults l.source ≡ g.S.Source.faults l.initial.source;
  sink_same : g.K.Sink.faults l.sink ≡ g.K.Sink.faults l.initial.sink;
  disk_same : g.D.Disk.faults l.engine.core.disk ≡ g.D.Disk.faults l.initial.engine.core.disk;
}

abbrev pub decreases-loop-read : goal.decreases-loop-read
decreases-loop-read g l = 4294967296 - l.read
