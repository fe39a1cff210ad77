-- The plain form of each operation stands for it.
use Rattle.std.proofs.Common.{◌≡◌, ℕ, List, Some, refl}
use Rattle.mrdt_both.specs.declared.both.Side.TheVariants.{First, Second}
use Rattle.mrdt_counter.specs.declared.counter.CounterOp.{CounterOp}
use Rattle.mrdt_counter.specs.declared.counter.CounterOp.TheVariants as counter_op
use Rattle.mrdt_flag.specs.declared.flag.FlagOp.{FlagOp}
use Rattle.mrdt_flag.specs.declared.flag.FlagOp.TheVariants as flag_op
use Rattle.mrdt_register.specs.declared.op.RegisterOp.{RegisterOp}
use Rattle.mrdt_register.specs.declared.op.RegisterOp.TheVariants as register_op
use Rattle.mrdt_set.specs.declared.set.SetOp.{SetOp}
use Rattle.mrdt_set.specs.declared.set.SetOp.TheVariants as set_op
use Rattle.mrdt_log.specs.declared.log.LogOp.{LogOp}
use Rattle.mrdt_log.specs.declared.log.LogOp.TheVariants as log_op
use Rattle.mrdt_queue.specs.declared.op.QueueOp.{QueueOp}
use Rattle.mrdt_queue.specs.declared.op.QueueOp.TheVariants as queue_op
use Rattle.mrdt_sequence.specs.declared.op.SequenceOp.{SequenceOp}
use Rattle.mrdt_sequence.specs.declared.op.SequenceOp.TheVariants.{Insert, Delete}
use Rattle.branch_doc.specs.declared.plain.PlainOp.{PlainOp}
use Rattle.branch_doc.specs.Sides.{at_counters, at_flags, at_last_writes, at_multis, at_sets, at_logs, at_queues}
use Rattle.branch_doc.specs.Forms.{DocOp, on, doc_op, doc_forms}
use Rattle.mrdt_wide.specs.Wide.{WideOp}
use Rattle.mrdt_wide.specs.Forms.{wide_op, wide_forms}
use Rattle.branch_tells.specs.Acts.{ArePlainOps}
use Rattle.branch_tells.specs.Docs.{counter_plain, flag_plain, last_write_plain, multi_plain, set_plain, log_plain, queue_plain, doc_plain_op}
use Rattle.branch_tells.specs.Wides.{sequence_plain, wide_plain_op}

-- a plain form stands for an operation of a document, and for the same one of a document with sequences
abbrev StandsFor : PlainOp → DocOp → Type 0
StandsFor p d = (doc_op p ≡ Some d) × (wide_op p ≡ Some (First d))

of-counter : (key : List ℕ) (o : CounterOp) → StandsFor (counter_plain key o) (at_counters (on key o))
of-counter key (counter_op.Add amount) = (refl, refl)
of-counter key counter_op.Reset = (refl, refl)

of-flag : (key : List ℕ) (o : FlagOp) → StandsFor (flag_plain key o) (at_flags (on key o))
of-flag key flag_op.Enable = (refl, refl)
of-flag key flag_op.Disable = (refl, refl)

of-last_write : (key : List ℕ) (o : RegisterOp) → StandsFor (last_write_plain key o) (at_last_writes (on key o))
of-last_write key (register_op.Set payload) = (refl, refl)

of-multi : (key : List ℕ) (o : RegisterOp) → StandsFor (multi_plain key o) (at_multis (on key o))
of-multi key (register_op.Set payload) = (refl, refl)

of-set : (key : List ℕ) (o : SetOp) → StandsFor (set_plain key o) (at_sets (on key o))
of-set key (set_op.Add element) = (refl, refl)
of-set key (set_op.Remove element) = (refl, refl)
of-set key set_op.Clear = (refl, refl)

of-log : (key : List ℕ) (o : LogOp) → StandsFor (log_plain key o) (at_logs (on key o))
of-log key (log_op.Append payload) = (refl, refl)

of-queue : (key : List ℕ) (o : QueueOp) → StandsFor (queue_plain key o) (at_queues (on key o))
of-queue key (queue_op.Enqueue payload) = (refl, refl)
of-queue key queue_op.Dequeue = (refl, refl)

of-document : (d : DocOp) → StandsFor (doc_plain_op d) d
of-document (First o) = of-counter o.key o.operation
of-document (Second (First o)) = of-flag o.key o.operation
of-document (Second (Second (First o))) = of-last_write o.key o.operation
of-document (Second (Second (Second (First o)))) = of-multi o.key o.operation
of-document (Second (Second (Second (Second (First o))))) = of-set o.key o.operation
of-document (Second (Second (Second (Second (Second (First o)))))) = of-log o.key o.operation
of-document (Second (Second (Second (Second (Second (Second o)))))) = of-queue o.key o.operation

of-sequence : (key : List ℕ) (o : SequenceOp) → wide_op (sequence_plain key o) ≡ Some (Second (on key o))
of-sequence key (Insert place payload) = refl
of-sequence key (Delete place) = refl

pub doc_plain_ops : ArePlainOps doc_forms doc_plain_op
doc_plain_ops d = (of-document d).0

pub wide_plain_ops : ArePlainOps wide_forms wide_plain_op
wide_plain_ops (First d) = (of-document d).1
wide_plain_ops (Second o) = of-sequence o.key o.operation
