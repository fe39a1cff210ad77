-- A header tells its kind, and files read in one way.
use Rattle.branch_files.proofs.OfAKind.{one-reading_of}
use Rattle.branch_files.proofs.forms.reads_of_a_kind_in_one_way.Goals as goal

pub returns : goal.returns
returns g c = λ form kind address size files short a b. one-reading_of form kind g.T.Mrdt.meaning address files (g.met.T.Mrdt g.world.𝓛 g.world.𝓜 g.world.𝓡 ((λ s x. x), (λ x. x), (λ x. x), λ x. x)).laws size short a b
