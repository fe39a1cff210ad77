-- Files that have an answer have it for the kind of their header, and read as no store for others.
use Rattle.branch_files.proofs.OfAKind.{some-reading_of}
use Rattle.branch_files.proofs.forms.reads_all_of_a_kind.Goals as goal

pub returns : goal.returns
returns g c = λ form kind address files none. some-reading_of form kind g.T.Mrdt.meaning address files (g.met.T.Mrdt g.world.𝓛 g.world.𝓜 g.world.𝓡 ((λ s x. x), (λ x. x), (λ x. x), λ x. x)).laws none
