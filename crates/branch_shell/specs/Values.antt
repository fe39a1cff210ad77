-- The two types of values that stores have: documents, and documents with sequences.
use Rattle.std.specs.Prelude.{◌≡◌, ◌≢◌, ℕ, Some, slice_get}
use Rattle.mrdt_model.specs.Laws.{Meaning}
use Rattle.branch_disk.specs.Disk.{Files}
use Rattle.branch_doc.specs.Types.{PlainForms}
use Rattle.branch_doc.specs.Document.{DocState, document}
use Rattle.branch_doc.specs.Forms.{DocOp, DocReply, DocQuery, DocAnswer, doc_forms}
use Rattle.mrdt_wide.specs.Wide.{WideState, WideOp, WideReply, WideQuery, WideAnswer, wide_document}
use Rattle.mrdt_wide.specs.Forms.{wide_forms}
use Rattle.branch_shell.specs.declared.choose.Values.{Values}
use Rattle.branch_shell.specs.declared.choose.Values.TheVariants.{Documents, WithSequences}

-- a type of values: what they mean, what plain forms stand for, and the kind of the stores that have
-- them
pub record ValueType (S O R Q A : Type 0) : Type 1 where
  pub meaning : Meaning S O R Q A
  pub forms : PlainForms O Q R A
  pub kind : ℕ

abbrev pub value_type : {S O R Q A : Type 0} → Meaning S O R Q A → PlainForms O Q R A → ℕ
    → ValueType S O R Q A
value_type meaning forms kind = record { meaning = meaning; forms = forms; kind = kind }

abbrev pub documents : ValueType DocState DocOp DocReply DocQuery DocAnswer
documents = value_type document doc_forms 0

abbrev pub documents_with_sequences : ValueType WideState WideOp WideReply WideQuery WideAnswer
documents_with_sequences = value_type wide_document wide_forms 1

-- the heads say that a store has these values: those with sequences where the byte of the kind is 1,
-- and documents alone where it is another, or there is none
abbrev pub HaveValues : Values → Files → Type 0
HaveValues Documents files = slice_get files.heads 45 ≢ Some 1
HaveValues WithSequences files = slice_get files.heads 45 ≡ Some 1
