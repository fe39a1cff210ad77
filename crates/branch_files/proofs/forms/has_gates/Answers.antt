-- Each record has 64 bytes with its gate.
use Rattle.branch_machine.specs.Fixed.{fix_in}
use Rattle.branch_files.proofs.Gates.{gates}
use Rattle.branch_files.proofs.forms.has_gates.Goals as goal

pub returns : goal.returns
returns g c = λ form terms address size moves valid. gates (fix_in form g.T.Mrdt.meaning terms address) (g.met.T.Mrdt g.world.𝓛 g.world.𝓜 g.world.𝓡 ((λ s x. x), (λ x. x), (λ x. x), λ x. x)).laws size moves valid
