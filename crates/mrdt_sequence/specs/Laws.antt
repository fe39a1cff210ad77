-- Laws that the contracts of this crate state.
use Rattle.std.specs.Prelude.{◌+◌, Option, None, List, length}
use Rattle.mrdt_model.specs.declared.time.Time.{Time}
use Rattle.mrdt_model.specs.Executions.{Event}
use Rattle.mrdt_model.specs.Laws.{Lawful}
use Rattle.mrdt_sequence.specs.declared.op.SequenceOp.{SequenceOp}
use Rattle.mrdt_sequence.specs.Order.{IsOrdered}
use Rattle.mrdt_sequence.specs.Forest.{IsForest}
use Rattle.mrdt_sequence.specs.Sequence.{order, sequence_meaning}

-- each node's parent is the nearest earlier one before it
abbrev pub InOrder : Type 0
InOrder = (x : List (Event SequenceOp (Option Time))) → Lawful sequence_meaning x → IsOrdered (order x)

-- the nodes are a forest in preorder, siblings newest first
abbrev pub InPreorder : Type 0
InPreorder = (x : List (Event SequenceOp (Option Time))) → Lawful sequence_meaning x → IsForest (length (order x) + 1) None (order x)
