-- The record and the region are what the move appends to the two texts.
use Rattle.branch_machine.specs.Fixed.{fix_in}
use Rattle.branch_files.proofs.All.{grown, next-plain}
use Rattle.branch_files.proofs.forms.goes_on.Goals as goal

pub returns : goal.returns
returns g c = λ form terms address files moves r spans next.
    let fixed = fix_in form g.T.Mrdt.meaning terms address in
    let laws = (g.met.T.Mrdt g.world.𝓛 g.world.𝓜 g.world.𝓡 ((λ s x. x), (λ x. x), (λ x. x), λ x. x)).laws in
    ((λ made. grown fixed files moves spans r made.0 next made.1 made.2 made.3), next-plain fixed files moves spans laws r next)
