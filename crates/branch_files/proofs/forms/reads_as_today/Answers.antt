-- Each header of the form that is written today is one.
use Rattle.branch_files.proofs.Today.{reads-today, today-reads}
use Rattle.branch_files.proofs.forms.reads_as_today.Goals as goal

pub returns : goal.returns
returns g c = λ address files a. (reads-today g.T.Mrdt.meaning address files a, today-reads g.T.Mrdt.meaning address files a)
