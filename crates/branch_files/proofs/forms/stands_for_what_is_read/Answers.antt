-- The files have the history, and the gate behind it is not open.
use Rattle.branch_files.proofs.Stands.{stands_in}
use Rattle.branch_files.proofs.forms.stands_for_what_is_read.Goals as goal

pub returns : goal.returns
returns g c = λ form terms address moves files. stands_in g.T.Mrdt.meaning address files terms moves form
