use Rattle.branch_doc.proofs.ThereAndBack.{ops-named}
use Rattle.branch_doc.proofs.laws.operations_have_one_form.Goals as goal

pub returns : goal.returns
returns c = ops-named
