use Rattle.std.proofs.Common.{[]}
use Rattle.branch_shared.specs.Keeps.{faults_since}
use Rattle.branch_shared.proofs.blank.note_faults.Given as goal

abbrev pub ghosts-note_faults_as : goal.ghosts-note_faults_as
ghosts-note_faults_as g a = record { entry = []; faults = faults_since g.D.Disk.faults a.core.now }
