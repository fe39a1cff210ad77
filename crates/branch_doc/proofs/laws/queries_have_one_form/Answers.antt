use Rattle.branch_doc.proofs.ThereAndBack.{queries-named}
use Rattle.branch_doc.proofs.laws.queries_have_one_form.Goals as goal

pub returns : goal.returns
returns c = queries-named
