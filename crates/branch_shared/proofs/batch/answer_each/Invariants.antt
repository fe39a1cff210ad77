-- The callers before this one have been told, and the answers behind bring the moves that the writer does not know yet.
use Rattle.std.proofs.Common.{◌≡◌, ◌+◌, ◌++◌, length, take, drop}
use Rattle.std.specs.Vec.Iter.{into_iter_items}
use mathlib.Core.List.{IsPrefix}
use Rattle.branch_front.specs.Views.{IsIdle}
use Rattle.branch_shared.specs.Entries.{AreNoted, moments_of, moves_of}
use Rattle.branch_shared.specs.Keeps.{faults_since}
use Rattle.branch_shared.specs.Batches.{answered_all, bring}
use Rattle.branch_shared.proofs.batch.answer_each.Given as goal

abbrev pub invariant-loop-taken : goal.invariant-loop-taken
invariant-loop-taken g l = record {
  table : l.writer.table ≡ g.N.Named.table;
  idle : IsIdle l.writer;
  noted : AreNoted (g.D.Disk.moment l.core.disk) l.fn.writer.moves l.writer.moves;
  begins : IsPrefix (g.N.Named.begun ++ moves_of l.writer.moves) l.core.history;
  more : length (g.N.Named.begun ++ moves_of l.writer.moves) + bring (into_iter_items l.answers) ≡ length l.core.history;
  each : length (drop l.taken-index l.all) ≡ length (into_iter_items l.answers);
  faults : l.writer.faults ≡ (faults_since g.D.Disk.faults l.core);
  told : take l.taken-index l.all ++ answered_all (faults_since g.D.Disk.faults l.core) l.core.history (g.D.Disk.moment l.core.disk) (moments_of l.writer.moves) (length (g.N.Named.begun ++ moves_of l.writer.moves)) (into_iter_items l.answers) (drop l.taken-index l.all)
      ≡ answered_all (faults_since g.D.Disk.faults l.core) l.core.history (g.D.Disk.moment l.core.disk) (moments_of l.fn.writer.moves) (length (g.N.Named.begun ++ moves_of l.fn.writer.moves)) l.fn.answers.items l.fn.all;
}
