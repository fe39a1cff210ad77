use Rattle.std.proofs.Common.{◌∙◌, ap, length}
use Rattle.mrdt_model.specs.Spelled.{capped}
use Rattle.mrdt_wide.specs.Wide.{wide_document}
use Rattle.mrdt_wide.proofs.wide.WideMrdt.spelled_length.Goals as goal

pub returns : goal.returns
returns c = c.spelled_length.ensures ∙ ap (λ s. capped (length (wide_document.state_spelling s))) c.self.view_is
