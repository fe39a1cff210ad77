-- The records hold up to the stop, and what stops replaying is what ends reading.
use Rattle.branch_files.specs.Records.{header_in}
use Rattle.commit_replay.proofs.Held.{holds-read}
use Rattle.commit_replay.proofs.Read.{stops-so, refuses-so}
use Rattle.commit_replay.proofs.laws.reads_as_replayed.Goals as goal

pub returns : goal.returns
returns g c = λ form terms address files records stop reads.
    let holds = holds-read (header_in form terms) records files.heads stop reads in (
      (λ moves follows all. stops-so form g.T.Mrdt.meaning terms address files records reads.header.fits holds moves follows all stop reads.ends),
      refuses-so form g.T.Mrdt.meaning terms address files records reads.header.fits holds,
    )
