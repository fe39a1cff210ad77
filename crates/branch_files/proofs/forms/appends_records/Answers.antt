-- The records are collected move by move.
use Rattle.branch_machine.specs.Fixed.{fix_in}
use Rattle.branch_files.proofs.Longer.{records-more}
use Rattle.branch_files.proofs.forms.appends_records.Goals as goal

pub returns : goal.returns
returns g c = λ form terms address moves made. records-more (fix_in form g.T.Mrdt.meaning terms address) moves made
