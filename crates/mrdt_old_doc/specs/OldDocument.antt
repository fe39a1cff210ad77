-- What a document of version 1 means, and what its operations are renewed to. Its counters are sums, and its sets
-- have no Clear.
use Rattle.std.specs.Prelude.{ℕ, ℤ, Option, List}
use Rattle.mrdt_model.specs.Laws.{Meaning}
use Rattle.live_set.specs.declared.kept.Kept.{Kept}
use Rattle.mrdt_both.specs.declared.both.Side.{Side}
use Rattle.mrdt_both.specs.declared.both.Side.TheVariants.{First, Second}
use Rattle.mrdt_both.specs.Sides.{both_meaning}
use Rattle.mrdt_counter.specs.declared.counter.CounterOp.{CounterOp}
use Rattle.mrdt_counter.specs.declared.counter.CounterOp.TheVariants as counter_op
use Rattle.mrdt_counter.specs.declared.sum.SumOp.{SumOp}
use Rattle.mrdt_counter.specs.declared.sum.SumOp.TheVariants as sum_op
use Rattle.mrdt_counter.specs.Sum.{sum_meaning}
use Rattle.mrdt_flag.specs.declared.flag.FlagOp.{FlagOp}
use Rattle.mrdt_flag.specs.Flag.{flag_meaning}
use Rattle.mrdt_log.specs.declared.log.LogOp.{LogOp}
use Rattle.mrdt_log.specs.Log.{log_meaning}
use Rattle.mrdt_map.specs.declared.map.OnKey.{OnKey}
use Rattle.mrdt_map.specs.Keyed.{map_meaning}
use Rattle.mrdt_queue.specs.declared.op.QueueOp.{QueueOp}
use Rattle.mrdt_queue.specs.Queue.{queue_meaning}
use Rattle.mrdt_register.specs.declared.op.RegisterOp.{RegisterOp}
use Rattle.mrdt_register.specs.Lww.{lww_meaning}
use Rattle.mrdt_register.specs.Multi.{multi_meaning}
use Rattle.branch_doc.specs.Sides.{OfKinds}
use Rattle.branch_doc.specs.Forms.{DocOp, DocReply, DocQuery, DocAnswer, on}
use Rattle.branch_doc.specs.Document.{Keyed}
use Rattle.mrdt_old_doc.specs.declared.elements.ElementsOp.{ElementsOp}
use Rattle.mrdt_old_doc.specs.Elements.{renewed_elements_op, elements_meaning}

-- an operation of a document of version 1; its queries, replies and answers are those of a document
abbrev pub OldDocOp : Type 0
OldDocOp = OfKinds (OnKey SumOp) (OnKey FlagOp) (OnKey RegisterOp) (OnKey RegisterOp) (OnKey ElementsOp) (OnKey LogOp) (OnKey QueueOp)

-- the state of each kind's map
abbrev pub OldDocState : Type 0
OldDocState =
    Keyed ℤ × (Keyed (List (Kept (Unit {0}))) × (Keyed (Option (Kept (List ℕ))) × (Keyed (List (Kept (List ℕ)))
    × (Keyed (Keyed (List (Kept (Unit {0})))) × (Keyed (List (Kept (List ℕ))) × Keyed (List (Kept (List ℕ))))))))

abbrev pub old_document : Meaning OldDocState OldDocOp DocReply DocQuery DocAnswer
old_document =
    both_meaning (map_meaning sum_meaning) (both_meaning (map_meaning flag_meaning) (both_meaning (map_meaning lww_meaning)
    (both_meaning (map_meaning multi_meaning) (both_meaning (map_meaning elements_meaning) (both_meaning (map_meaning log_meaning) (map_meaning queue_meaning))))))

-- an Add of a sum is renewed to the Add of a counter
abbrev pub renewed_sum_op : SumOp → CounterOp
renewed_sum_op (sum_op.Add n) = counter_op.Add n

-- an operation on a key is renewed at that key
abbrev pub renewed_on_key : {O1 O2 : Type 0} → (O1 → O2) → OnKey O1 → OnKey O2
renewed_on_key f o = on o.key (f o.operation)

-- one of each side is renewed on that side
abbrev pub renewed_side : {X1 Y1 X2 Y2 : Type 0} → (X1 → X2) → (Y1 → Y2) → Side X1 Y1 → Side X2 Y2
renewed_side f g (First x) = First (f x)
renewed_side f g (Second y) = Second (g y)

-- what is renewed to itself
abbrev pub unchanged : {X : Type 0} → X → X
unchanged x = x

-- The operations of sums and of sets without Clear are renewed to the same of counters and of sets, and all others
-- are kept.
abbrev pub renewed_op : OldDocOp → DocOp
renewed_op =
    renewed_side (renewed_on_key renewed_sum_op) (renewed_side unchanged (renewed_side unchanged (renewed_side unchanged
    (renewed_side (renewed_on_key renewed_elements_op) unchanged))))
