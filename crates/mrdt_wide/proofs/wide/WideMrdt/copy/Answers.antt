use Rattle.std.proofs.Common.{◌∙◌, ap}
use Rattle.mrdt_wide.specs.Wide.{wide_document}
use Rattle.mrdt_wide.proofs.wide.WideMrdt.copy.Goals as goal

pub returns-clause-spelling : goal.returns-clause-spelling
returns-clause-spelling c = c.in_ok-copy.ensures.spelling ∙ ap wide_document.state_spelling c.self.view_is
