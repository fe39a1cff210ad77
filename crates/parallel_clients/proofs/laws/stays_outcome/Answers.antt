-- An outcome stays one.
use Rattle.branch_machine.specs.Fixed.{fix}
use Rattle.parallel_clients.specs.Outcomes.{setting}
use Rattle.parallel_clients.proofs.Grown.{outcome-later}
use Rattle.parallel_clients.proofs.laws.stays_outcome.Goals as goal

pub returns : goal.returns
returns g c terms address opened = outcome-later (setting (fix g.T.Mrdt.meaning terms address) g.T.Forms.forms opened)
