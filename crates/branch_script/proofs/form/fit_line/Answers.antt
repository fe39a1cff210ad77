use Rattle.branch_script.proofs.Few.{too_few}
use Rattle.branch_script.proofs.form.fit_line.Goals as goal

pub returns-in_default-clause-err : goal.returns-in_default-clause-err
returns-in_default-clause-err c = too_few c.args.words.now c.in_default.len_below
