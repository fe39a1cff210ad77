-- The laws of the plain forms of a document.
use Rattle.branch_doc.specs.Types.{AreForms}
use Rattle.branch_doc.specs.Forms.{doc_forms}
use Rattle.branch_doc.proofs.ThereAndBack.{doc-forms}

pub document_forms : AreForms doc_forms
document_forms = doc-forms
