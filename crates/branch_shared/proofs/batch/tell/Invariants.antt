use Rattle.std.proofs.Common.{length, take, drop, ◌++◌}
use Rattle.branch_shared.specs.Entries.{entries_at, moves_of}
use Rattle.branch_shared.specs.Keeps.{faults_since}
use Rattle.branch_shared.proofs.batch.tell.Given as goal

-- the move behind those that the writer knows, acknowledged at the moment of the core's disk
abbrev pub ghosts-tell_as : goal.ghosts-tell_as
ghosts-tell_as g a = record { entry = entries_at (g.D.Disk.moment a.core.now.disk) (take 1 (drop (length (g.N.Named.begun ++ moves_of a.writer.now.moves)) a.core.now.history)); faults = faults_since g.D.Disk.faults a.core.now }
