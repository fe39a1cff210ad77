-- Behind the history the gate is not open.
use Rattle.branch_files.proofs.Stands.{read_in}
use Rattle.branch_files.proofs.forms.reads_what_stands.Goals as goal

pub returns : goal.returns
returns g c = λ form terms address moves files. read_in g.T.Mrdt.meaning address files terms moves form
