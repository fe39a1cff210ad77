use Rattle.std.proofs.Common.{◌∙◌, ap}
use Rattle.branch_doc.specs.Document.{document}
use Rattle.mrdt_doc.proofs.doc.DocMrdt.copy.Goals as goal

pub returns-clause-spelling : goal.returns-clause-spelling
returns-clause-spelling c = c.in_ok-copy.ensures.spelling ∙ ap document.state_spelling c.self.view_is
