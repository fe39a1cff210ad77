use Rattle.std.proofs.Common.{◌∙◌, ap, length}
use Rattle.mrdt_model.specs.Spelled.{capped}
use Rattle.branch_doc.specs.Document.{document}
use Rattle.mrdt_doc.proofs.doc.DocMrdt.spelled_length.Goals as goal

pub returns : goal.returns
returns c = c.spelled_length.ensures ∙ ap (λ s. capped (length (document.state_spelling s))) c.self.view_is
