-- Of two histories that the files have one begins the other, and behind one history reading ends in one way.
use Rattle.branch_files.proofs.OneWay.{one-reading_in}
use Rattle.branch_files.proofs.forms.reads_in_one_way.Goals as goal

pub returns : goal.returns
returns g c = λ form address size files short a b. one-reading_in g.T.Mrdt.meaning (g.met.T.Mrdt g.world.𝓛 g.world.𝓜 g.world.𝓡 ((λ s x. x), (λ x. x), (λ x. x), λ x. x)).laws address size files short form a b
