use Rattle.std.proofs.Common.{length, drop, ◌++◌}
use Rattle.branch_shared.specs.Entries.{entries_at, moves_of}
use Rattle.branch_shared.specs.Keeps.{faults_since}
use Rattle.branch_shared.proofs.kept.add.Given as goal

-- what the core's history has behind the writer's list, acknowledged at the moment of its disk
abbrev pub ghosts-add_as : goal.ghosts-add_as
ghosts-add_as g a = record { entry = entries_at (g.D.Disk.moment a.core.now.disk) (drop (length (g.N.Named.begun ++ moves_of a.writer.now.moves)) a.core.now.history); faults = faults_since g.D.Disk.faults a.core.now }
