-- The heads of a history have a header.
use Rattle.commit_replay.proofs.Read.{no_header_of}
use Rattle.commit_replay.proofs.laws.reads_as_none_of_kind.Goals as goal

pub returns : goal.returns
returns g c = λ form kind address files none. no_header_of form g.T.Mrdt.meaning address files kind none
