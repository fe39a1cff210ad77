-- Of a type with plain forms: a plain form that stands for nothing is of sequences.
use Rattle.std.proofs.Common.{◌≡◌, None}
use Rattle.branch_doc.specs.declared.plain.Kind.TheVariants as kind
use Rattle.branch_doc.specs.declared.plain.PlainOp.{PlainOp}
use Rattle.branch_doc.specs.declared.plain.PlainQuery.{PlainQuery}
use Rattle.branch_doc.specs.Kinds.{op_kind, query_kind}
use Rattle.branch_doc.specs.Types.{PlainForms, AreForms}

pub op-of_sequences : {O Q R A : Type 0} (forms : PlainForms O Q R A) → AreForms forms → (p : PlainOp) → forms.op p ≡ None → op_kind p ≡ kind.Sequence
op-of_sequences forms are p none = are.sequences (op_kind p) ((are.ops.lacks p).0 none)

pub query-of_sequences : {O Q R A : Type 0} (forms : PlainForms O Q R A) → AreForms forms → (p : PlainQuery) → forms.query p ≡ None → query_kind p ≡ kind.Sequence
query-of_sequences forms are p none = are.sequences (query_kind p) ((are.queries.lacks p).0 none)
