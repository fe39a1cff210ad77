use Rattle.std.proofs.Common.{subst}
use Rattle.mrdt_model.specs.Laws.{Merges}
use Rattle.mrdt_renewal.specs.Laws.{through-merges}
use Rattle.mrdt_set.specs.Set.{set_meaning}
use Rattle.mrdt_old_doc.specs.Elements.{renewed_elements_op, IsOpSpelling}
use Rattle.mrdt_old_doc.proofs.elements.ElementsMrdt.merge.Goals as goal

pub returns : goal.returns
returns c =
    let set = c.in_ok-merge.field-0 in
    through-merges set_meaning renewed_elements_op IsOpSpelling c.args.base.now c.args.left.now c.args.right.now set
    (subst (λ s. Merges set_meaning s c.args.left.now c.args.right.now set) c.base.view_is
    (subst (λ s. Merges set_meaning c.base.inside.set s c.args.right.now set) c.left.view_is
    (subst (λ s. Merges set_meaning c.base.inside.set c.left.inside.set s set) c.right.view_is c.in_ok-merge.ensures)))
