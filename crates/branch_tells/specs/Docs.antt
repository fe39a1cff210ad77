-- The plain forms of a document's operations.
use Rattle.std.specs.Prelude.{ℕ, List}
use Rattle.mrdt_both.specs.declared.both.Side.TheVariants.{First, Second}
use Rattle.mrdt_counter.specs.declared.counter.CounterOp.{CounterOp}
use Rattle.mrdt_counter.specs.declared.counter.CounterOp.TheVariants as counter_op
use Rattle.mrdt_flag.specs.declared.flag.FlagOp.{FlagOp}
use Rattle.mrdt_flag.specs.declared.flag.FlagOp.TheVariants as flag_op
use Rattle.mrdt_register.specs.declared.op.RegisterOp.{RegisterOp}
use Rattle.mrdt_register.specs.declared.op.RegisterOp.TheVariants as register_op
use Rattle.mrdt_set.specs.declared.set.SetOp.{SetOp}
use Rattle.mrdt_set.specs.declared.set.SetOp.TheVariants as set_op
use Rattle.mrdt_log.specs.declared.log.LogOp.{LogOp}
use Rattle.mrdt_log.specs.declared.log.LogOp.TheVariants as log_op
use Rattle.mrdt_queue.specs.declared.op.QueueOp.{QueueOp}
use Rattle.mrdt_queue.specs.declared.op.QueueOp.TheVariants as queue_op
use Rattle.branch_doc.specs.declared.plain.PlainOp.{PlainOp}
use Rattle.branch_doc.specs.declared.plain.PlainOp.TheVariants.{CounterAdd, CounterReset, FlagEnable, FlagDisable, LwwSet, MultiSet, SetAdd, SetRemove, SetClear, LogAppend, QueueEnqueue, QueueDequeue}
use Rattle.branch_doc.specs.Forms.{DocOp}

-- the plain form of an operation of each kind on the value at a key
abbrev pub counter_plain : List ℕ → CounterOp → PlainOp
counter_plain key (counter_op.Add amount) = CounterAdd key amount
counter_plain key counter_op.Reset = CounterReset key

abbrev pub flag_plain : List ℕ → FlagOp → PlainOp
flag_plain key flag_op.Enable = FlagEnable key
flag_plain key flag_op.Disable = FlagDisable key

abbrev pub last_write_plain : List ℕ → RegisterOp → PlainOp
last_write_plain key (register_op.Set payload) = LwwSet key payload

abbrev pub multi_plain : List ℕ → RegisterOp → PlainOp
multi_plain key (register_op.Set payload) = MultiSet key payload

abbrev pub set_plain : List ℕ → SetOp → PlainOp
set_plain key (set_op.Add element) = SetAdd key element
set_plain key (set_op.Remove element) = SetRemove key element
set_plain key set_op.Clear = SetClear key

abbrev pub log_plain : List ℕ → LogOp → PlainOp
log_plain key (log_op.Append payload) = LogAppend key payload

abbrev pub queue_plain : List ℕ → QueueOp → PlainOp
queue_plain key (queue_op.Enqueue payload) = QueueEnqueue key payload
queue_plain key queue_op.Dequeue = QueueDequeue key

-- the plain form of a document's operation
abbrev pub doc_plain_op : DocOp → PlainOp
doc_plain_op (First o) = counter_plain o.key o.operation
doc_plain_op (Second (First o)) = flag_plain o.key o.operation
doc_plain_op (Second (Second (First o))) = last_write_plain o.key o.operation
doc_plain_op (Second (Second (Second (First o)))) = multi_plain o.key o.operation
doc_plain_op (Second (Second (Second (Second (First o))))) = set_plain o.key o.operation
doc_plain_op (Second (Second (Second (Second (Second (First o)))))) = log_plain o.key o.operation
doc_plain_op (Second (Second (Second (Second (Second (Second o)))))) = queue_plain o.key o.operation
