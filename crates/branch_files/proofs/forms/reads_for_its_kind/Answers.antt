-- A header tells its kind.
use Rattle.branch_files.proofs.OfAKind.{own-kind, is-own, all-own, other-kind, no-kind}
use Rattle.branch_files.proofs.forms.reads_for_its_kind.Goals as goal

pub returns-clause-own : goal.returns-clause-own
returns-clause-own g c = λ form kind address files terms moves.
    (is-own form kind g.T.Mrdt.meaning address files terms moves, λ both. own-kind form kind g.T.Mrdt.meaning address files terms moves both.0 both.1)

pub returns-clause-all : goal.returns-clause-all
returns-clause-all g c = λ form kind address files terms moves. all-own form kind g.T.Mrdt.meaning address files terms moves

pub returns-clause-others : goal.returns-clause-others
returns-clause-others g c = λ form kind address files terms moves. other-kind form kind g.T.Mrdt.meaning address files terms moves

pub returns-clause-none : goal.returns-clause-none
returns-clause-none g c = λ form kind address files. no-kind form kind g.T.Mrdt.meaning address files
