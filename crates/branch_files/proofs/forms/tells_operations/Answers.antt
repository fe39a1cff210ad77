-- The bytes behind the history are the region of the move.
use Rattle.branch_machine.specs.Fixed.{fix_in}
use Rattle.branch_files.proofs.Shapes.{operation-tells}
use Rattle.branch_files.proofs.forms.tells_operations.Goals as goal

pub returns : goal.returns
returns g c = λ form terms address size files short moves r op reply spans first d.
    operation-tells (fix_in form g.T.Mrdt.meaning terms address) (g.met.T.Mrdt g.world.𝓛 g.world.𝓜 g.world.𝓡 ((λ s x. x), (λ x. x), (λ x. x), λ x. x)).laws size files short moves r op reply spans first d
