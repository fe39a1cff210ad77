use Rattle.std.proofs.Common.{subst}
use Rattle.mrdt_model.specs.Laws.{Applies}
use Rattle.mrdt_renewal.specs.Laws.{through-applies}
use Rattle.mrdt_set.specs.Set.{set_meaning}
use Rattle.mrdt_old_doc.specs.Elements.{renewed_elements_op, IsOpSpelling}
use Rattle.mrdt_old_doc.proofs.elements.ElementsMrdt.apply.Goals as goal

pub returns-clause-applies : goal.returns-clause-applies
returns-clause-applies c =
    let set = c.in_ok-set.set in
    through-applies set_meaning renewed_elements_op IsOpSpelling c.args.self.now c.args.op.now c.args.time set tt
    (subst (λ o. Applies set_meaning c.args.self.now o c.args.time set tt) c.in_ok-renewed_copy.ensures
    (subst (λ s. Applies set_meaning s c.in_ok-renewed_copy.field-0 c.args.time set tt) c.self.view_is c.in_ok-set.ensures.applies))
