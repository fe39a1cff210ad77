-- The heads are those of the empty history, and the objects are it too or not.
use Rattle.commit_replay.proofs.Read.{begun, not_begun}
use Rattle.commit_replay.proofs.laws.reads_as_store.Goals as goal

pub returns : goal.returns
returns g c = λ form terms address files has. (begun form g.T.Mrdt.meaning address files terms has, not_begun form g.T.Mrdt.meaning address files terms has)
