-- The heads of a history have a header.
use Rattle.commit_replay.proofs.Read.{no_header}
use Rattle.commit_replay.proofs.laws.reads_as_no_store.Goals as goal

pub returns : goal.returns
returns g c = λ form address files none. no_header form g.T.Mrdt.meaning address files none
