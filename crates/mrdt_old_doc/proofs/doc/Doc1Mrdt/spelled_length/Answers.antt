use Rattle.std.proofs.Common.{◌∙◌, ap, length}
use Rattle.mrdt_model.specs.Spelled.{capped}
use Rattle.mrdt_old_doc.specs.OldDocument.{old_document}
use Rattle.mrdt_old_doc.proofs.doc.Doc1Mrdt.spelled_length.Goals as goal

pub returns : goal.returns
returns c = c.spelled_length.ensures ∙ ap (λ s. capped (length (old_document.state_spelling s))) c.self.view_is
