use Rattle.std.proofs.Common.{◌∙◌, ap, subst}
use Rattle.mrdt_model.specs.Laws.{StandsAsWell}
use Rattle.mrdt_renewal.specs.Laws.{through-stands}
use Rattle.mrdt_set.specs.Members.{set_spelling}
use Rattle.mrdt_set.specs.Set.{set_meaning}
use Rattle.mrdt_old_doc.specs.Elements.{renewed_elements_op, IsOpSpelling}
use Rattle.mrdt_old_doc.proofs.elements.ElementsMrdt.copy.Goals as goal

pub returns-clause-stands : goal.returns-clause-stands
returns-clause-stands c =
    let set = c.in_ok-copy.field-0 in
    through-stands set_meaning renewed_elements_op IsOpSpelling c.args.self.now set
    (subst (λ s. StandsAsWell set_meaning s set) c.self.view_is c.in_ok-copy.ensures.stands)

pub returns-clause-spelling : goal.returns-clause-spelling
returns-clause-spelling c = c.in_ok-copy.ensures.spelling ∙ ap set_spelling c.self.view_is
