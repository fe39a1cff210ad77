-- Reading goes on where it does not end, and the heads are finite.
use Rattle.branch_files.proofs.All.{some-reading_in}
use Rattle.branch_files.proofs.forms.reads_all.Goals as goal

pub returns : goal.returns
returns g c = λ form address files none. some-reading_in form g.T.Mrdt.meaning (g.met.T.Mrdt g.world.𝓛 g.world.𝓜 g.world.𝓡 ((λ s x. x), (λ x. x), (λ x. x), λ x. x)).laws address files none
