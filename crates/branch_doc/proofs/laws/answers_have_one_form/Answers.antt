use Rattle.branch_doc.proofs.ThereAndBack.{answers-named}
use Rattle.branch_doc.proofs.laws.answers_have_one_form.Goals as goal

pub returns : goal.returns
returns c = answers-named
