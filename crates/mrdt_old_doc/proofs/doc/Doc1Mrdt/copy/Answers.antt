use Rattle.std.proofs.Common.{◌∙◌, ap}
use Rattle.mrdt_old_doc.specs.OldDocument.{old_document}
use Rattle.mrdt_old_doc.proofs.doc.Doc1Mrdt.copy.Goals as goal

pub returns-clause-spelling : goal.returns-clause-spelling
returns-clause-spelling c = c.in_ok-copy.ensures.spelling ∙ ap old_document.state_spelling c.self.view_is
