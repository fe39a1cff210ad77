-- Move by move.
use Rattle.branch_machine.specs.Fixed.{fix}
use Rattle.recorded_history.proofs.Kept.{text-regions}
use Rattle.recorded_history.proofs.laws.appends_all_regions.Goals as goal

pub returns : goal.returns
returns g c = λ terms address history more. text-regions (fix g.T.Mrdt.meaning terms address) history more
