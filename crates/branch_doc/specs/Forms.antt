-- The plain forms of a document's operations, queries, replies and answers.
use Rattle.std.specs.Prelude.{ℕ, ℤ, Bool, true, false, Option, None, Some, List}
use Rattle.mrdt_both.specs.declared.both.Side.TheVariants.{First, Second}
use Rattle.mrdt_counter.specs.declared.counter.CounterOp.{CounterOp}
use Rattle.mrdt_counter.specs.declared.counter.CounterOp.TheVariants as counter_op
use Rattle.mrdt_counter.specs.declared.counter.CounterQuery.{CounterQuery}
use Rattle.mrdt_counter.specs.declared.counter.CounterQuery.TheVariants as counter_query
use Rattle.mrdt_flag.specs.declared.flag.FlagOp.{FlagOp}
use Rattle.mrdt_flag.specs.declared.flag.FlagOp.TheVariants as flag_op
use Rattle.mrdt_flag.specs.declared.flag.FlagQuery.{FlagQuery}
use Rattle.mrdt_flag.specs.declared.flag.FlagQuery.TheVariants as flag_query
use Rattle.mrdt_register.specs.declared.op.RegisterOp.{RegisterOp}
use Rattle.mrdt_register.specs.declared.op.RegisterOp.TheVariants as register_op
use Rattle.mrdt_register.specs.declared.lww.LwwQuery.{LwwQuery}
use Rattle.mrdt_register.specs.declared.lww.LwwQuery.TheVariants as lww_query
use Rattle.mrdt_register.specs.declared.multi.MultiQuery.{MultiQuery}
use Rattle.mrdt_register.specs.declared.multi.MultiQuery.TheVariants as multi_query
use Rattle.mrdt_set.specs.declared.set.SetOp.{SetOp}
use Rattle.mrdt_set.specs.declared.set.SetOp.TheVariants as set_op
use Rattle.mrdt_set.specs.declared.set.SetQuery.{SetQuery}
use Rattle.mrdt_set.specs.declared.set.SetQuery.TheVariants as set_query
use Rattle.mrdt_set.specs.declared.set.SetAnswer.{SetAnswer}
use Rattle.mrdt_set.specs.declared.set.SetAnswer.TheVariants.{IsIn, All, Count}
use Rattle.mrdt_log.specs.declared.log.LogOp.{LogOp}
use Rattle.mrdt_log.specs.declared.log.LogOp.TheVariants as log_op
use Rattle.mrdt_log.specs.declared.log.LogQuery.{LogQuery}
use Rattle.mrdt_log.specs.declared.log.LogQuery.TheVariants as log_query
use Rattle.mrdt_log.specs.declared.log.LogAnswer.{LogAnswer}
use Rattle.mrdt_log.specs.declared.log.LogAnswer.TheVariants as log_answer
use Rattle.mrdt_queue.specs.declared.op.QueueOp.{QueueOp}
use Rattle.mrdt_queue.specs.declared.op.QueueOp.TheVariants as queue_op
use Rattle.mrdt_queue.specs.declared.op.QueueQuery.{QueueQuery}
use Rattle.mrdt_queue.specs.declared.op.QueueQuery.TheVariants as queue_query
use Rattle.mrdt_queue.specs.declared.op.QueueReply.{QueueReply}
use Rattle.mrdt_queue.specs.declared.op.QueueReply.TheVariants.{Enqueued, Nothing, Took}
use Rattle.mrdt_queue.specs.declared.op.QueueAnswer.{QueueAnswer}
use Rattle.mrdt_queue.specs.declared.op.QueueAnswer.TheVariants as queue_answer
use Rattle.mrdt_map.specs.declared.map.OnKey.{OnKey}
use Rattle.mrdt_map.specs.declared.map.MapQuery.{MapQuery}
use Rattle.mrdt_map.specs.declared.map.MapQuery.TheVariants as map_query
use Rattle.mrdt_map.specs.declared.map.MapAnswer.{MapAnswer}
use Rattle.mrdt_map.specs.declared.map.MapAnswer.TheVariants.{OnValue, OnKeys}
use Rattle.branch_doc.specs.declared.plain.Kind.{Kind}
use Rattle.branch_doc.specs.declared.plain.Kind.TheVariants as kind
use Rattle.branch_doc.specs.declared.plain.PlainOp.{PlainOp}
use Rattle.branch_doc.specs.declared.plain.PlainOp.TheVariants.{CounterAdd, CounterReset, FlagEnable, FlagDisable, LwwSet, MultiSet, SetAdd, SetRemove, SetClear, LogAppend, QueueEnqueue, QueueDequeue, SequenceInsert, SequenceDelete}
use Rattle.branch_doc.specs.declared.plain.PlainQuery.{PlainQuery}
use Rattle.branch_doc.specs.declared.plain.PlainQuery.TheVariants.{CounterValue, FlagIsOn, LwwGet, MultiValues, SetContains, SetMembers, SetSize, LogRead, LogLength, QueuePeek, QueueItems, QueueLength, SequenceRead, SequenceLength, Keys}
use Rattle.branch_doc.specs.declared.plain.PlainReply.{PlainReply}
use Rattle.branch_doc.specs.declared.plain.PlainReply.TheVariants as reply
use Rattle.branch_doc.specs.declared.plain.PlainAnswer.{PlainAnswer}
use Rattle.branch_doc.specs.declared.plain.PlainAnswer.TheVariants as answer
use Rattle.branch_doc.specs.Types.{PlainForms}
use Rattle.branch_doc.specs.Sides.{OfKinds, at_counters, at_flags, at_last_writes, at_multis, at_sets, at_logs, at_queues}

-- a document's own operations, queries, replies and answers
abbrev pub DocOp : Type 0
DocOp = OfKinds (OnKey CounterOp) (OnKey FlagOp) (OnKey RegisterOp) (OnKey RegisterOp) (OnKey SetOp) (OnKey LogOp) (OnKey QueueOp)

abbrev pub DocQuery : Type 0
DocQuery = OfKinds (MapQuery CounterQuery) (MapQuery FlagQuery) (MapQuery LwwQuery) (MapQuery MultiQuery) (MapQuery SetQuery) (MapQuery LogQuery) (MapQuery QueueQuery)

abbrev pub DocReply : Type 0
DocReply = OfKinds (Unit {0}) (Unit {0}) (Unit {0}) (Unit {0}) (Unit {0}) (Unit {0}) QueueReply

abbrev pub DocAnswer : Type 0
DocAnswer = OfKinds (MapAnswer ℤ) (MapAnswer Bool) (MapAnswer (Option (List ℕ))) (MapAnswer (List (List ℕ))) (MapAnswer SetAnswer) (MapAnswer LogAnswer) (MapAnswer QueueAnswer)

abbrev pub on : {O : Type 0} → List ℕ → O → OnKey O
on key operation = record { key = key; operation = operation }

-- whether a document has values of a kind: of each but sequences
abbrev pub doc_has : Kind → Bool
doc_has kind.Sequence = false
doc_has other = true

-- the operation that a plain form stands for; a document has none on sequences
abbrev pub doc_op : PlainOp → Option DocOp
doc_op (CounterAdd key amount) = Some (at_counters (on key (counter_op.Add amount)))
doc_op (CounterReset key) = Some (at_counters (on key counter_op.Reset))
doc_op (FlagEnable key) = Some (at_flags (on key flag_op.Enable))
doc_op (FlagDisable key) = Some (at_flags (on key flag_op.Disable))
doc_op (LwwSet key payload) = Some (at_last_writes (on key (register_op.Set payload)))
doc_op (MultiSet key payload) = Some (at_multis (on key (register_op.Set payload)))
doc_op (SetAdd key element) = Some (at_sets (on key (set_op.Add element)))
doc_op (SetRemove key element) = Some (at_sets (on key (set_op.Remove element)))
doc_op (SetClear key) = Some (at_sets (on key set_op.Clear))
doc_op (LogAppend key payload) = Some (at_logs (on key (log_op.Append payload)))
doc_op (QueueEnqueue key payload) = Some (at_queues (on key (queue_op.Enqueue payload)))
doc_op (QueueDequeue key) = Some (at_queues (on key queue_op.Dequeue))
doc_op (SequenceInsert key place payload) = None
doc_op (SequenceDelete key place) = None

-- the query for the keys of a kind; a document has none for those of sequences
abbrev pub keys_query : Kind → Option DocQuery
keys_query kind.Counter = Some (at_counters map_query.Keys)
keys_query kind.Flag = Some (at_flags map_query.Keys)
keys_query kind.Lww = Some (at_last_writes map_query.Keys)
keys_query kind.Multi = Some (at_multis map_query.Keys)
keys_query kind.Set = Some (at_sets map_query.Keys)
keys_query kind.Log = Some (at_logs map_query.Keys)
keys_query kind.Queue = Some (at_queues map_query.Keys)
keys_query kind.Sequence = None

-- the query that a plain form stands for; a document has none of sequences
abbrev pub doc_query : PlainQuery → Option DocQuery
doc_query (CounterValue key) = Some (at_counters (map_query.AtKey key counter_query.Value))
doc_query (FlagIsOn key) = Some (at_flags (map_query.AtKey key flag_query.IsOn))
doc_query (LwwGet key) = Some (at_last_writes (map_query.AtKey key lww_query.Get))
doc_query (MultiValues key) = Some (at_multis (map_query.AtKey key multi_query.Values))
doc_query (SetContains key element) = Some (at_sets (map_query.AtKey key (set_query.Contains element)))
doc_query (SetMembers key) = Some (at_sets (map_query.AtKey key set_query.Members))
doc_query (SetSize key) = Some (at_sets (map_query.AtKey key set_query.Size))
doc_query (LogRead key) = Some (at_logs (map_query.AtKey key log_query.Read))
doc_query (LogLength key) = Some (at_logs (map_query.AtKey key log_query.Length))
doc_query (QueuePeek key) = Some (at_queues (map_query.AtKey key queue_query.Peek))
doc_query (QueueItems key) = Some (at_queues (map_query.AtKey key queue_query.Items))
doc_query (QueueLength key) = Some (at_queues (map_query.AtKey key queue_query.Length))
doc_query (SequenceRead key) = None
doc_query (SequenceLength key) = None
doc_query (Keys k) = keys_query k

-- the plain form of a queue's reply
abbrev pub queue_reply_form : QueueReply → PlainReply
queue_reply_form Enqueued = reply.QueueEnqueued
queue_reply_form Nothing = reply.QueueTook None
queue_reply_form (Took kept) = reply.QueueTook (Some kept)

-- the plain form of a reply
abbrev pub plain_reply : DocReply → PlainReply
plain_reply (First r) = reply.Counter
plain_reply (Second (First r)) = reply.Flag
plain_reply (Second (Second (First r))) = reply.Lww
plain_reply (Second (Second (Second (First r)))) = reply.Multi
plain_reply (Second (Second (Second (Second (First r))))) = reply.Set
plain_reply (Second (Second (Second (Second (Second (First r)))))) = reply.Log
plain_reply (Second (Second (Second (Second (Second (Second r)))))) = queue_reply_form r

-- the plain form of an answer of a map: that of its values' answer, or the keys of its kind
abbrev pub map_answer_form : {A : Type 0} → Kind → (A → PlainAnswer) → MapAnswer A → PlainAnswer
map_answer_form k on_value (OnValue a) = on_value a
map_answer_form k on_value (OnKeys keys) = answer.Keys k keys

abbrev pub set_answer_form : SetAnswer → PlainAnswer
set_answer_form (IsIn b) = answer.SetContains b
set_answer_form (All members) = answer.SetMembers members
set_answer_form (Count n) = answer.SetSize n

abbrev pub log_answer_form : LogAnswer → PlainAnswer
log_answer_form (log_answer.OnEntries entries) = answer.LogRead entries
log_answer_form (log_answer.OnLength n) = answer.LogLength n

abbrev pub queue_answer_form : QueueAnswer → PlainAnswer
queue_answer_form (queue_answer.OnFirst first) = answer.QueuePeek first
queue_answer_form (queue_answer.OnItems items) = answer.QueueItems items
queue_answer_form (queue_answer.OnLength n) = answer.QueueLength n

-- the plain form of an answer
abbrev pub plain_answer : DocAnswer → PlainAnswer
plain_answer (First a) = map_answer_form kind.Counter answer.CounterValue a
plain_answer (Second (First a)) = map_answer_form kind.Flag answer.FlagIsOn a
plain_answer (Second (Second (First a))) = map_answer_form kind.Lww answer.LwwGet a
plain_answer (Second (Second (Second (First a)))) = map_answer_form kind.Multi answer.MultiValues a
plain_answer (Second (Second (Second (Second (First a))))) = map_answer_form kind.Set set_answer_form a
plain_answer (Second (Second (Second (Second (Second (First a)))))) = map_answer_form kind.Log log_answer_form a
plain_answer (Second (Second (Second (Second (Second (Second a)))))) = map_answer_form kind.Queue queue_answer_form a

-- the plain forms of a document
abbrev pub doc_forms : PlainForms DocOp DocQuery DocReply DocAnswer
doc_forms = record { op = doc_op; query = doc_query; reply = plain_reply; answer = plain_answer; has = doc_has }
