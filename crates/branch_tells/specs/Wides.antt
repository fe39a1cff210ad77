-- The plain forms of the operations of a document with sequences.
use Rattle.std.specs.Prelude.{ℕ, List}
use Rattle.mrdt_both.specs.declared.both.Side.TheVariants.{First, Second}
use Rattle.mrdt_sequence.specs.declared.op.SequenceOp.{SequenceOp}
use Rattle.mrdt_sequence.specs.declared.op.SequenceOp.TheVariants.{Insert, Delete}
use Rattle.branch_doc.specs.declared.plain.PlainOp.{PlainOp}
use Rattle.branch_doc.specs.declared.plain.PlainOp.TheVariants.{SequenceInsert, SequenceDelete}
use Rattle.mrdt_wide.specs.Wide.{WideOp}
use Rattle.branch_tells.specs.Docs.{doc_plain_op}

-- the plain form of an operation on the sequence at a key
abbrev pub sequence_plain : List ℕ → SequenceOp → PlainOp
sequence_plain key (Insert place payload) = SequenceInsert key place payload
sequence_plain key (Delete place) = SequenceDelete key place

-- the plain form of an operation of a document with sequences
abbrev pub wide_plain_op : WideOp → PlainOp
wide_plain_op (First d) = doc_plain_op d
wide_plain_op (Second o) = sequence_plain o.key o.operation
