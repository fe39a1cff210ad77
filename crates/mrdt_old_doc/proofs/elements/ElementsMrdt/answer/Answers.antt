use Rattle.std.proofs.Common.{subst}
use Rattle.std.proofs.lemmas.Result.{IfOk-weaker}
use Rattle.mrdt_model.specs.Laws.{Answers}
use Rattle.mrdt_renewal.specs.Laws.{through-answers}
use Rattle.mrdt_set.specs.Set.{set_meaning}
use Rattle.mrdt_old_doc.specs.Elements.{renewed_elements_op, IsOpSpelling}
use Rattle.mrdt_old_doc.proofs.elements.ElementsMrdt.answer.Goals as goal

pub returns : goal.returns
returns c =
    IfOk-weaker c.answer.result _ _
    (λ told answers. through-answers set_meaning renewed_elements_op IsOpSpelling c.args.self.now c.args.query.now told (subst (λ s. Answers set_meaning s c.args.query.now told) c.self.view_is answers)) c.answer.ensures
