use Rattle.std.proofs.Common.{[]}
use Rattle.branch_shared.specs.Keeps.{faults_since}
use Rattle.branch_shared.proofs.kept.see.Given as goal

abbrev pub ghosts-see_as : goal.ghosts-see_as
ghosts-see_as g a = record { entry = []; faults = faults_since g.D.Disk.faults a.core.now }
