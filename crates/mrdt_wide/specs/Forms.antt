-- The plain forms of a document with sequences: those of a document, and those of sequences.
use Rattle.std.specs.Prelude.{Bool, true, Option, None, Some}
use Rattle.std.specs.Option.{option_map}
use Rattle.mrdt_both.specs.declared.both.Side.TheVariants.{First, Second}
use Rattle.mrdt_map.specs.declared.map.MapQuery.TheVariants as map_query
use Rattle.mrdt_sequence.specs.declared.op.SequenceOp.TheVariants.{Insert, Delete}
use Rattle.mrdt_sequence.specs.declared.op.SequenceQuery.TheVariants.{Read, Length}
use Rattle.mrdt_sequence.specs.declared.op.SequenceAnswer.{SequenceAnswer}
use Rattle.mrdt_sequence.specs.declared.op.SequenceAnswer.TheVariants.{OnItems, OnLength}
use Rattle.branch_doc.specs.declared.plain.Kind.{Kind}
use Rattle.branch_doc.specs.declared.plain.Kind.TheVariants as kind
use Rattle.branch_doc.specs.declared.plain.PlainOp.{PlainOp}
use Rattle.branch_doc.specs.declared.plain.PlainOp.TheVariants.{SequenceInsert, SequenceDelete}
use Rattle.branch_doc.specs.declared.plain.PlainQuery.{PlainQuery}
use Rattle.branch_doc.specs.declared.plain.PlainQuery.TheVariants.{SequenceRead, SequenceLength, Keys}
use Rattle.branch_doc.specs.declared.plain.PlainReply.{PlainReply}
use Rattle.branch_doc.specs.declared.plain.PlainReply.TheVariants as reply
use Rattle.branch_doc.specs.declared.plain.PlainAnswer.{PlainAnswer}
use Rattle.branch_doc.specs.declared.plain.PlainAnswer.TheVariants as answer
use Rattle.branch_doc.specs.Types.{PlainForms}
use Rattle.branch_doc.specs.Forms.{on, doc_op, doc_query, plain_reply, plain_answer, map_answer_form}
use Rattle.mrdt_wide.specs.Wide.{WideOp, WideQuery, WideReply, WideAnswer}

-- it has values of each kind
abbrev pub wide_has : Kind → Bool
wide_has k = true

-- the operation that a plain form stands for
abbrev pub wide_op : PlainOp → Option WideOp
wide_op (SequenceInsert key place payload) = Some (Second (on key (Insert place payload)))
wide_op (SequenceDelete key place) = Some (Second (on key (Delete place)))
wide_op other = option_map First (doc_op other)

-- the query that a plain form stands for
abbrev pub wide_query : PlainQuery → Option WideQuery
wide_query (SequenceRead key) = Some (Second (map_query.AtKey key Read))
wide_query (SequenceLength key) = Some (Second (map_query.AtKey key Length))
wide_query (Keys kind.Sequence) = Some (Second map_query.Keys)
wide_query other = option_map First (doc_query other)

-- the plain form of a reply
abbrev pub wide_reply : WideReply → PlainReply
wide_reply (First r) = plain_reply r
wide_reply (Second named) = reply.Sequence named

abbrev pub sequence_answer_form : SequenceAnswer → PlainAnswer
sequence_answer_form (OnItems items) = answer.SequenceRead items
sequence_answer_form (OnLength n) = answer.SequenceLength n

-- the plain form of an answer
abbrev pub wide_answer : WideAnswer → PlainAnswer
wide_answer (First a) = plain_answer a
wide_answer (Second a) = map_answer_form kind.Sequence sequence_answer_form a

-- the plain forms of a document with sequences
abbrev pub wide_forms : PlainForms WideOp WideQuery WideReply WideAnswer
wide_forms = record { op = wide_op; query = wide_query; reply = wide_reply; answer = wide_answer; has = wide_has }
