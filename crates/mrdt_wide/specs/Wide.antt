-- What a document with sequences means: a document over the events of its kinds, and a map of
-- sequences over all others.
use Rattle.std.specs.Prelude.{ℕ, Option, List}
use Rattle.mrdt_model.specs.declared.time.Time.{Time}
use Rattle.mrdt_model.specs.Laws.{Meaning}
use Rattle.mrdt_both.specs.declared.both.Side.{Side}
use Rattle.mrdt_both.specs.Sides.{both_meaning}
use Rattle.mrdt_map.specs.declared.map.OnKey.{OnKey}
use Rattle.mrdt_map.specs.declared.map.MapQuery.{MapQuery}
use Rattle.mrdt_map.specs.declared.map.MapAnswer.{MapAnswer}
use Rattle.mrdt_map.specs.Keyed.{map_meaning}
use Rattle.mrdt_sequence.specs.declared.node.Node.{Node}
use Rattle.mrdt_sequence.specs.declared.op.SequenceOp.{SequenceOp}
use Rattle.mrdt_sequence.specs.declared.op.SequenceQuery.{SequenceQuery}
use Rattle.mrdt_sequence.specs.declared.op.SequenceAnswer.{SequenceAnswer}
use Rattle.mrdt_sequence.specs.Sequence.{sequence_meaning}
use Rattle.branch_doc.specs.Forms.{DocOp, DocReply, DocQuery, DocAnswer}
use Rattle.branch_doc.specs.Document.{DocState, Keyed, document}

abbrev pub WideState : Type 0
WideState = DocState × Keyed (List Node)

abbrev pub WideOp : Type 0
WideOp = Side DocOp (OnKey SequenceOp)

abbrev pub WideQuery : Type 0
WideQuery = Side DocQuery (MapQuery SequenceQuery)

abbrev pub WideAnswer : Type 0
WideAnswer = Side DocAnswer (MapAnswer SequenceAnswer)

abbrev pub WideReply : Type 0
WideReply = Side DocReply (Option Time)

abbrev pub wide_document : Meaning WideState WideOp WideReply WideQuery WideAnswer
wide_document = both_meaning document (map_meaning sequence_meaning)
