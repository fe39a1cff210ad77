use Rattle.branch_doc.proofs.ThereAndBack.{replies-named}
use Rattle.branch_doc.proofs.laws.replies_have_one_form.Goals as goal

pub returns : goal.returns
returns c = replies-named
