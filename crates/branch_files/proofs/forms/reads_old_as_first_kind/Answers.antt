-- A header of version 1 has the kind 0.
use Rattle.branch_files.proofs.OfAKind.{old-of, of-old}
use Rattle.branch_files.proofs.forms.reads_old_as_first_kind.Goals as goal

pub returns : goal.returns
returns g c = λ form old address files a. (old-of form old g.T.Mrdt.meaning address files a, of-old form old g.T.Mrdt.meaning address files a)
