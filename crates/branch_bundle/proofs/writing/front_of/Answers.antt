use Rattle.std.proofs.Common.{◌∙◌, ap, sym}
use Rattle.branch_bundle.specs.Held.{front}
use Rattle.branch_bundle.proofs.Whole.{whole-front, changes-front}
use Rattle.branch_bundle.proofs.writing.front_of.Goals as goal

pub returns-in-Whole : goal.returns-in-Whole
returns-in-Whole c = whole-front ∙ ap front (sym c.in-Whole.is)

pub returns-in-Changes : goal.returns-in-Changes
returns-in-Changes c = changes-front ∙ ap front (sym c.in-Changes.is)
