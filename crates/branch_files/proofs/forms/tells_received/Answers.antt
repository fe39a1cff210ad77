-- Equal objects of commits are of equal fields.
use Rattle.branch_machine.specs.Fixed.{fix_in}
use Rattle.branch_files.proofs.Shapes.{received-tells}
use Rattle.branch_files.proofs.forms.tells_received.Goals as goal

pub returns : goal.returns
returns g c = λ form terms address size files short moves parents origin clock act spans first d part commit is.
    received-tells (fix_in form g.T.Mrdt.meaning terms address) (g.met.T.Mrdt g.world.𝓛 g.world.𝓜 g.world.𝓡 ((λ s x. x), (λ x. x), (λ x. x), λ x. x)).laws size files short moves parents origin clock act spans first d part commit is
