use Rattle.mrdt_renewal.specs.Laws.{through-stands}
use Rattle.mrdt_set.specs.Set.{set_meaning}
use Rattle.mrdt_old_doc.specs.Elements.{renewed_elements_op, IsOpSpelling}
use Rattle.mrdt_old_doc.proofs.elements.ElementsMrdt.get.Goals as goal

pub returns-clause-stands : goal.returns-clause-stands
returns-clause-stands c other spelled =
    through-stands set_meaning renewed_elements_op IsOpSpelling other c.in_ok-get.field-0 (c.in_ok-get.ensures.stands other spelled)
