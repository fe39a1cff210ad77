-- Both texts are longer.
use Rattle.branch_machine.specs.Fixed.{fix}
use Rattle.store_core.proofs.Covers.{covers}
use Rattle.store_core.proofs.laws.covers_first_parts.Goals as goal

pub returns : goal.returns
returns g c = λ terms address first second old. covers (fix g.T.Mrdt.meaning terms address) first second old
