-- Plain forms and a document's own, there and back.
use Rattle.std.proofs.Common.{◌≡◌, ◌∙◌, ◌↔◌, ℕ, Bool, true, false, Option, None, Some, List, refl, sym, ap}
use Rattle.live_set.specs.declared.kept.Kept.{Kept}
use Rattle.mrdt_both.specs.declared.both.Side.TheVariants.{First, Second}
use Rattle.mrdt_counter.specs.declared.counter.CounterOp.{CounterOp}
use Rattle.mrdt_counter.specs.declared.counter.CounterOp.TheVariants as counter_op
use Rattle.mrdt_counter.specs.declared.counter.CounterQuery.{CounterQuery}
use Rattle.mrdt_counter.specs.declared.counter.CounterQuery.TheVariants as counter_query
use Rattle.mrdt_flag.specs.declared.flag.FlagOp.{FlagOp}
use Rattle.mrdt_flag.specs.declared.flag.FlagOp.TheVariants as flag_op
use Rattle.mrdt_flag.specs.declared.flag.FlagQuery.{FlagQuery}
use Rattle.mrdt_flag.specs.declared.flag.FlagQuery.TheVariants as flag_query
use Rattle.mrdt_register.specs.declared.op.RegisterOp.{RegisterOp}
use Rattle.mrdt_register.specs.declared.op.RegisterOp.TheVariants as register_op
use Rattle.mrdt_register.specs.declared.lww.LwwQuery.{LwwQuery}
use Rattle.mrdt_register.specs.declared.lww.LwwQuery.TheVariants as lww_query
use Rattle.mrdt_register.specs.declared.multi.MultiQuery.{MultiQuery}
use Rattle.mrdt_register.specs.declared.multi.MultiQuery.TheVariants as multi_query
use Rattle.mrdt_set.specs.declared.set.SetOp.{SetOp}
use Rattle.mrdt_set.specs.declared.set.SetOp.TheVariants as set_op
use Rattle.mrdt_set.specs.declared.set.SetQuery.{SetQuery}
use Rattle.mrdt_set.specs.declared.set.SetQuery.TheVariants as set_query
use Rattle.mrdt_set.specs.declared.set.SetAnswer.TheVariants.{IsIn, All, Count}
use Rattle.mrdt_log.specs.declared.log.LogOp.{LogOp}
use Rattle.mrdt_log.specs.declared.log.LogOp.TheVariants as log_op
use Rattle.mrdt_log.specs.declared.log.LogQuery.{LogQuery}
use Rattle.mrdt_log.specs.declared.log.LogQuery.TheVariants as log_query
use Rattle.mrdt_log.specs.declared.log.LogAnswer.TheVariants as log_answer
use Rattle.mrdt_queue.specs.declared.op.QueueOp.{QueueOp}
use Rattle.mrdt_queue.specs.declared.op.QueueOp.TheVariants as queue_op
use Rattle.mrdt_queue.specs.declared.op.QueueQuery.{QueueQuery}
use Rattle.mrdt_queue.specs.declared.op.QueueQuery.TheVariants as queue_query
use Rattle.mrdt_queue.specs.declared.op.QueueReply.{QueueReply}
use Rattle.mrdt_queue.specs.declared.op.QueueReply.TheVariants.{Enqueued, Nothing, Took}
use Rattle.mrdt_queue.specs.declared.op.QueueAnswer.TheVariants as queue_answer
use Rattle.mrdt_map.specs.declared.map.MapQuery.{MapQuery}
use Rattle.mrdt_map.specs.declared.map.MapQuery.TheVariants as map_query
use Rattle.mrdt_map.specs.declared.map.MapAnswer.TheVariants.{OnValue, OnKeys}
use Rattle.branch_doc.specs.declared.plain.Kind.{Kind}
use Rattle.branch_doc.specs.declared.plain.Kind.TheVariants as kind
use Rattle.branch_doc.specs.declared.plain.PlainOp.{PlainOp}
use Rattle.branch_doc.specs.declared.plain.PlainOp.TheVariants.{CounterAdd, CounterReset, FlagEnable, FlagDisable, LwwSet, MultiSet, SetAdd, SetRemove, SetClear, LogAppend, QueueEnqueue, QueueDequeue, SequenceInsert, SequenceDelete}
use Rattle.branch_doc.specs.declared.plain.PlainQuery.{PlainQuery}
use Rattle.branch_doc.specs.declared.plain.PlainQuery.TheVariants.{CounterValue, FlagIsOn, LwwGet, MultiValues, SetContains, SetMembers, SetSize, LogRead, LogLength, QueuePeek, QueueItems, QueueLength, SequenceRead, SequenceLength, Keys}
use Rattle.branch_doc.specs.declared.plain.PlainReply.{PlainReply}
use Rattle.branch_doc.specs.declared.plain.PlainReply.TheVariants as reply
use Rattle.branch_doc.specs.declared.plain.PlainAnswer.{PlainAnswer}
use Rattle.branch_doc.specs.declared.plain.PlainAnswer.TheVariants as answer
use Rattle.branch_doc.specs.Sides.{at_counters, at_flags, at_last_writes, at_multis, at_sets, at_logs, at_queues}
use Rattle.branch_doc.specs.Kinds.{op_kind, query_kind, reply_kind, answer_kind}
use Rattle.branch_doc.specs.Types.{AreNames, AreNamed, AreForms}
use Rattle.branch_doc.specs.Forms.{DocOp, DocQuery, DocReply, DocAnswer, on, doc_has, doc_op, doc_query, plain_reply, plain_answer, doc_forms}

-- the plain form of an operation
abbrev counter_form : List ℕ → CounterOp → PlainOp
counter_form key (counter_op.Add amount) = CounterAdd key amount
counter_form key counter_op.Reset = CounterReset key

abbrev flag_form : List ℕ → FlagOp → PlainOp
flag_form key flag_op.Enable = FlagEnable key
flag_form key flag_op.Disable = FlagDisable key

abbrev lww_form : List ℕ → RegisterOp → PlainOp
lww_form key (register_op.Set payload) = LwwSet key payload

abbrev multi_form : List ℕ → RegisterOp → PlainOp
multi_form key (register_op.Set payload) = MultiSet key payload

abbrev set_form : List ℕ → SetOp → PlainOp
set_form key (set_op.Add element) = SetAdd key element
set_form key (set_op.Remove element) = SetRemove key element
set_form key set_op.Clear = SetClear key

abbrev log_form : List ℕ → LogOp → PlainOp
log_form key (log_op.Append payload) = LogAppend key payload

abbrev queue_form : List ℕ → QueueOp → PlainOp
queue_form key (queue_op.Enqueue payload) = QueueEnqueue key payload
queue_form key queue_op.Dequeue = QueueDequeue key

abbrev pub op_form : DocOp → PlainOp
op_form (First o) = counter_form o.key o.operation
op_form (Second (First o)) = flag_form o.key o.operation
op_form (Second (Second (First o))) = lww_form o.key o.operation
op_form (Second (Second (Second (First o)))) = multi_form o.key o.operation
op_form (Second (Second (Second (Second (First o))))) = set_form o.key o.operation
op_form (Second (Second (Second (Second (Second (First o)))))) = log_form o.key o.operation
op_form (Second (Second (Second (Second (Second (Second o)))))) = queue_form o.key o.operation

-- that of the operation of a plain form, or this one where there is none
abbrev op_form_or : PlainOp → Option DocOp → PlainOp
op_form_or p None = p
op_form_or p (Some d) = op_form d

op-there : (p : PlainOp) → op_form_or p (doc_op p) ≡ p
op-there (CounterAdd key amount) = refl
op-there (CounterReset key) = refl
op-there (FlagEnable key) = refl
op-there (FlagDisable key) = refl
op-there (LwwSet key payload) = refl
op-there (MultiSet key payload) = refl
op-there (SetAdd key element) = refl
op-there (SetRemove key element) = refl
op-there (SetClear key) = refl
op-there (LogAppend key payload) = refl
op-there (QueueEnqueue key payload) = refl
op-there (QueueDequeue key) = refl
op-there (SequenceInsert key place payload) = refl
op-there (SequenceDelete key place) = refl

pub op-named : (p : PlainOp) (d : DocOp) → doc_op p ≡ Some d → op_form d ≡ p
op-named p d is = sym (ap (op_form_or p) is) ∙ op-there p

counter-back : (key : List ℕ) (o : CounterOp) → doc_op (counter_form key o) ≡ Some (at_counters (on key o))
counter-back key (counter_op.Add amount) = refl
counter-back key counter_op.Reset = refl

flag-back : (key : List ℕ) (o : FlagOp) → doc_op (flag_form key o) ≡ Some (at_flags (on key o))
flag-back key flag_op.Enable = refl
flag-back key flag_op.Disable = refl

lww-back : (key : List ℕ) (o : RegisterOp) → doc_op (lww_form key o) ≡ Some (at_last_writes (on key o))
lww-back key (register_op.Set payload) = refl

multi-back : (key : List ℕ) (o : RegisterOp) → doc_op (multi_form key o) ≡ Some (at_multis (on key o))
multi-back key (register_op.Set payload) = refl

set-back : (key : List ℕ) (o : SetOp) → doc_op (set_form key o) ≡ Some (at_sets (on key o))
set-back key (set_op.Add element) = refl
set-back key (set_op.Remove element) = refl
set-back key set_op.Clear = refl

log-back : (key : List ℕ) (o : LogOp) → doc_op (log_form key o) ≡ Some (at_logs (on key o))
log-back key (log_op.Append payload) = refl

queue-back : (key : List ℕ) (o : QueueOp) → doc_op (queue_form key o) ≡ Some (at_queues (on key o))
queue-back key (queue_op.Enqueue payload) = refl
queue-back key queue_op.Dequeue = refl

pub op-back : (d : DocOp) → doc_op (op_form d) ≡ Some d
op-back (First o) = counter-back o.key o.operation
op-back (Second (First o)) = flag-back o.key o.operation
op-back (Second (Second (First o))) = lww-back o.key o.operation
op-back (Second (Second (Second (First o)))) = multi-back o.key o.operation
op-back (Second (Second (Second (Second (First o))))) = set-back o.key o.operation
op-back (Second (Second (Second (Second (Second (First o)))))) = log-back o.key o.operation
op-back (Second (Second (Second (Second (Second (Second o)))))) = queue-back o.key o.operation

-- the plain form of a query of a map
abbrev map_form : {Q : Type 0} → Kind → (List ℕ → Q → PlainQuery) → MapQuery Q → PlainQuery
map_form k at_key (map_query.AtKey key q) = at_key key q
map_form k at_key map_query.Keys = Keys k

abbrev counter_query_form : List ℕ → CounterQuery → PlainQuery
counter_query_form key counter_query.Value = CounterValue key

abbrev flag_query_form : List ℕ → FlagQuery → PlainQuery
flag_query_form key flag_query.IsOn = FlagIsOn key

abbrev lww_query_form : List ℕ → LwwQuery → PlainQuery
lww_query_form key lww_query.Get = LwwGet key

abbrev multi_query_form : List ℕ → MultiQuery → PlainQuery
multi_query_form key multi_query.Values = MultiValues key

abbrev set_query_form : List ℕ → SetQuery → PlainQuery
set_query_form key (set_query.Contains element) = SetContains key element
set_query_form key set_query.Members = SetMembers key
set_query_form key set_query.Size = SetSize key

abbrev log_query_form : List ℕ → LogQuery → PlainQuery
log_query_form key log_query.Read = LogRead key
log_query_form key log_query.Length = LogLength key

abbrev queue_query_form : List ℕ → QueueQuery → PlainQuery
queue_query_form key queue_query.Peek = QueuePeek key
queue_query_form key queue_query.Items = QueueItems key
queue_query_form key queue_query.Length = QueueLength key

abbrev pub query_form : DocQuery → PlainQuery
query_form (First q) = map_form kind.Counter counter_query_form q
query_form (Second (First q)) = map_form kind.Flag flag_query_form q
query_form (Second (Second (First q))) = map_form kind.Lww lww_query_form q
query_form (Second (Second (Second (First q)))) = map_form kind.Multi multi_query_form q
query_form (Second (Second (Second (Second (First q))))) = map_form kind.Set set_query_form q
query_form (Second (Second (Second (Second (Second (First q)))))) = map_form kind.Log log_query_form q
query_form (Second (Second (Second (Second (Second (Second q)))))) = map_form kind.Queue queue_query_form q

-- that of the query of a plain form, or this one where there is none
abbrev query_form_or : PlainQuery → Option DocQuery → PlainQuery
query_form_or p None = p
query_form_or p (Some d) = query_form d

keys-there : (k : Kind) → query_form_or (Keys k) (doc_query (Keys k)) ≡ Keys k
keys-there kind.Counter = refl
keys-there kind.Flag = refl
keys-there kind.Lww = refl
keys-there kind.Multi = refl
keys-there kind.Set = refl
keys-there kind.Log = refl
keys-there kind.Queue = refl
keys-there kind.Sequence = refl

query-there : (p : PlainQuery) → query_form_or p (doc_query p) ≡ p
query-there (CounterValue key) = refl
query-there (FlagIsOn key) = refl
query-there (LwwGet key) = refl
query-there (MultiValues key) = refl
query-there (SetContains key element) = refl
query-there (SetMembers key) = refl
query-there (SetSize key) = refl
query-there (LogRead key) = refl
query-there (LogLength key) = refl
query-there (QueuePeek key) = refl
query-there (QueueItems key) = refl
query-there (QueueLength key) = refl
query-there (SequenceRead key) = refl
query-there (SequenceLength key) = refl
query-there (Keys k) = keys-there k

pub query-named : (p : PlainQuery) (d : DocQuery) → doc_query p ≡ Some d → query_form d ≡ p
query-named p d is = sym (ap (query_form_or p) is) ∙ query-there p

pub query-back : (d : DocQuery) → doc_query (query_form d) ≡ Some d
query-back (First (map_query.AtKey key counter_query.Value)) = refl
query-back (First map_query.Keys) = refl
query-back (Second (First (map_query.AtKey key flag_query.IsOn))) = refl
query-back (Second (First map_query.Keys)) = refl
query-back (Second (Second (First (map_query.AtKey key lww_query.Get)))) = refl
query-back (Second (Second (First map_query.Keys))) = refl
query-back (Second (Second (Second (First (map_query.AtKey key multi_query.Values))))) = refl
query-back (Second (Second (Second (First map_query.Keys)))) = refl
query-back (Second (Second (Second (Second (First (map_query.AtKey key (set_query.Contains element))))))) = refl
query-back (Second (Second (Second (Second (First (map_query.AtKey key set_query.Members)))))) = refl
query-back (Second (Second (Second (Second (First (map_query.AtKey key set_query.Size)))))) = refl
query-back (Second (Second (Second (Second (First map_query.Keys))))) = refl
query-back (Second (Second (Second (Second (Second (First (map_query.AtKey key log_query.Read))))))) = refl
query-back (Second (Second (Second (Second (Second (First (map_query.AtKey key log_query.Length))))))) = refl
query-back (Second (Second (Second (Second (Second (First map_query.Keys)))))) = refl
query-back (Second (Second (Second (Second (Second (Second (map_query.AtKey key queue_query.Peek))))))) = refl
query-back (Second (Second (Second (Second (Second (Second (map_query.AtKey key queue_query.Items))))))) = refl
query-back (Second (Second (Second (Second (Second (Second (map_query.AtKey key queue_query.Length))))))) = refl
query-back (Second (Second (Second (Second (Second (Second map_query.Keys)))))) = refl

-- whether there is one
abbrev pub there_is : {X : Type 0} → Option X → Bool
there_is None = false
there_is (Some x) = true

-- there is none exactly where a test fails that says whether there is one
pub none-exactly : {X : Type 0} (o : Option X) (test : Bool) → there_is o ≡ test → (o ≡ None) ↔ (test ≡ false)
none-exactly None test is = (λ none. sym is, λ fails. refl)
none-exactly (Some x) test is = (λ none. absurd (cc none), λ fails. absurd (cc (is ∙ fails)))

op-there_is : (p : PlainOp) → there_is (doc_op p) ≡ doc_has (op_kind p)
op-there_is (CounterAdd key amount) = refl
op-there_is (CounterReset key) = refl
op-there_is (FlagEnable key) = refl
op-there_is (FlagDisable key) = refl
op-there_is (LwwSet key payload) = refl
op-there_is (MultiSet key payload) = refl
op-there_is (SetAdd key element) = refl
op-there_is (SetRemove key element) = refl
op-there_is (SetClear key) = refl
op-there_is (LogAppend key payload) = refl
op-there_is (QueueEnqueue key payload) = refl
op-there_is (QueueDequeue key) = refl
op-there_is (SequenceInsert key place payload) = refl
op-there_is (SequenceDelete key place) = refl

pub op-lacks : (p : PlainOp) → (doc_op p ≡ None) ↔ (doc_has (op_kind p) ≡ false)
op-lacks p = none-exactly (doc_op p) (doc_has (op_kind p)) (op-there_is p)

keys-there_is : (k : Kind) → there_is (doc_query (Keys k)) ≡ doc_has (query_kind (Keys k))
keys-there_is kind.Counter = refl
keys-there_is kind.Flag = refl
keys-there_is kind.Lww = refl
keys-there_is kind.Multi = refl
keys-there_is kind.Set = refl
keys-there_is kind.Log = refl
keys-there_is kind.Queue = refl
keys-there_is kind.Sequence = refl

query-there_is : (p : PlainQuery) → there_is (doc_query p) ≡ doc_has (query_kind p)
query-there_is (CounterValue key) = refl
query-there_is (FlagIsOn key) = refl
query-there_is (LwwGet key) = refl
query-there_is (MultiValues key) = refl
query-there_is (SetContains key element) = refl
query-there_is (SetMembers key) = refl
query-there_is (SetSize key) = refl
query-there_is (LogRead key) = refl
query-there_is (LogLength key) = refl
query-there_is (QueuePeek key) = refl
query-there_is (QueueItems key) = refl
query-there_is (QueueLength key) = refl
query-there_is (SequenceRead key) = refl
query-there_is (SequenceLength key) = refl
query-there_is (Keys k) = keys-there_is k

pub query-lacks : (p : PlainQuery) → (doc_query p ≡ None) ↔ (doc_has (query_kind p) ≡ false)
query-lacks p = none-exactly (doc_query p) (doc_has (query_kind p)) (query-there_is p)

pub ops-named : AreNames doc_op doc_has op_kind
ops-named = record {
  one = λ p q d left right. sym (op-named p d left) ∙ op-named q d right;
  each = λ d. (op_form d, op-back d);
  lacks = op-lacks;
}

pub queries-named : AreNames doc_query doc_has query_kind
queries-named = record {
  one = λ p q d left right. sym (query-named p d left) ∙ query-named q d right;
  each = λ d. (query_form d, query-back d);
  lacks = query-lacks;
}

-- the reply of a plain form, if there is one
abbrev took_reply : Option (Kept (List ℕ)) → QueueReply
took_reply None = Nothing
took_reply (Some kept) = Took kept

abbrev doc_reply : PlainReply → Option DocReply
doc_reply reply.Counter = Some (at_counters tt)
doc_reply reply.Flag = Some (at_flags tt)
doc_reply reply.Lww = Some (at_last_writes tt)
doc_reply reply.Multi = Some (at_multis tt)
doc_reply reply.Set = Some (at_sets tt)
doc_reply reply.Log = Some (at_logs tt)
doc_reply reply.QueueEnqueued = Some (at_queues Enqueued)
doc_reply (reply.QueueTook first) = Some (at_queues (took_reply first))
doc_reply (reply.Sequence named) = None

reply-there : (d : DocReply) → doc_reply (plain_reply d) ≡ Some d
reply-there (First r) = refl
reply-there (Second (First r)) = refl
reply-there (Second (Second (First r))) = refl
reply-there (Second (Second (Second (First r)))) = refl
reply-there (Second (Second (Second (Second (First r))))) = refl
reply-there (Second (Second (Second (Second (Second (First r)))))) = refl
reply-there (Second (Second (Second (Second (Second (Second Enqueued)))))) = refl
reply-there (Second (Second (Second (Second (Second (Second Nothing)))))) = refl
reply-there (Second (Second (Second (Second (Second (Second (Took kept))))))) = refl

took-back : (first : Option (Kept (List ℕ))) → plain_reply (at_queues (took_reply first)) ≡ reply.QueueTook first
took-back None = refl
took-back (Some kept) = refl

reply-back : (p : PlainReply) → doc_has (reply_kind p) ≡ true → (d : DocReply) × (plain_reply d ≡ p)
reply-back reply.Counter has = (at_counters tt, refl)
reply-back reply.Flag has = (at_flags tt, refl)
reply-back reply.Lww has = (at_last_writes tt, refl)
reply-back reply.Multi has = (at_multis tt, refl)
reply-back reply.Set has = (at_sets tt, refl)
reply-back reply.Log has = (at_logs tt, refl)
reply-back reply.QueueEnqueued has = (at_queues Enqueued, refl)
reply-back (reply.QueueTook first) has = (at_queues (took_reply first), took-back first)
reply-back (reply.Sequence named) has = absurd (cc has)

reply-has : (d : DocReply) → doc_has (reply_kind (plain_reply d)) ≡ true
reply-has (First r) = refl
reply-has (Second (First r)) = refl
reply-has (Second (Second (First r))) = refl
reply-has (Second (Second (Second (First r)))) = refl
reply-has (Second (Second (Second (Second (First r))))) = refl
reply-has (Second (Second (Second (Second (Second (First r)))))) = refl
reply-has (Second (Second (Second (Second (Second (Second Enqueued)))))) = refl
reply-has (Second (Second (Second (Second (Second (Second Nothing)))))) = refl
reply-has (Second (Second (Second (Second (Second (Second (Took kept))))))) = refl

pub replies-named : AreNamed plain_reply doc_has reply_kind
replies-named = record {
  one = λ d e same. cc (sym (reply-there d) ∙ ap doc_reply same ∙ reply-there e);
  each = reply-back;
  only = reply-has;
}

-- the answer of a plain form, if there is one
abbrev keys_answer : Kind → List (List ℕ) → Option DocAnswer
keys_answer kind.Counter keys = Some (at_counters (OnKeys keys))
keys_answer kind.Flag keys = Some (at_flags (OnKeys keys))
keys_answer kind.Lww keys = Some (at_last_writes (OnKeys keys))
keys_answer kind.Multi keys = Some (at_multis (OnKeys keys))
keys_answer kind.Set keys = Some (at_sets (OnKeys keys))
keys_answer kind.Log keys = Some (at_logs (OnKeys keys))
keys_answer kind.Queue keys = Some (at_queues (OnKeys keys))
keys_answer kind.Sequence keys = None

abbrev doc_answer : PlainAnswer → Option DocAnswer
doc_answer (answer.CounterValue n) = Some (at_counters (OnValue n))
doc_answer (answer.FlagIsOn b) = Some (at_flags (OnValue b))
doc_answer (answer.LwwGet payload) = Some (at_last_writes (OnValue payload))
doc_answer (answer.MultiValues payloads) = Some (at_multis (OnValue payloads))
doc_answer (answer.SetContains b) = Some (at_sets (OnValue (IsIn b)))
doc_answer (answer.SetMembers members) = Some (at_sets (OnValue (All members)))
doc_answer (answer.SetSize n) = Some (at_sets (OnValue (Count n)))
doc_answer (answer.LogRead entries) = Some (at_logs (OnValue (log_answer.OnEntries entries)))
doc_answer (answer.LogLength n) = Some (at_logs (OnValue (log_answer.OnLength n)))
doc_answer (answer.QueuePeek first) = Some (at_queues (OnValue (queue_answer.OnFirst first)))
doc_answer (answer.QueueItems items) = Some (at_queues (OnValue (queue_answer.OnItems items)))
doc_answer (answer.QueueLength n) = Some (at_queues (OnValue (queue_answer.OnLength n)))
doc_answer (answer.SequenceRead items) = None
doc_answer (answer.SequenceLength n) = None
doc_answer (answer.Keys k keys) = keys_answer k keys

answer-there : (d : DocAnswer) → doc_answer (plain_answer d) ≡ Some d
answer-there (First (OnValue n)) = refl
answer-there (First (OnKeys keys)) = refl
answer-there (Second (First (OnValue b))) = refl
answer-there (Second (First (OnKeys keys))) = refl
answer-there (Second (Second (First (OnValue payload)))) = refl
answer-there (Second (Second (First (OnKeys keys)))) = refl
answer-there (Second (Second (Second (First (OnValue payloads))))) = refl
answer-there (Second (Second (Second (First (OnKeys keys))))) = refl
answer-there (Second (Second (Second (Second (First (OnValue (IsIn b))))))) = refl
answer-there (Second (Second (Second (Second (First (OnValue (All members))))))) = refl
answer-there (Second (Second (Second (Second (First (OnValue (Count n))))))) = refl
answer-there (Second (Second (Second (Second (First (OnKeys keys)))))) = refl
answer-there (Second (Second (Second (Second (Second (First (OnValue (log_answer.OnEntries entries)))))))) = refl
answer-there (Second (Second (Second (Second (Second (First (OnValue (log_answer.OnLength n)))))))) = refl
answer-there (Second (Second (Second (Second (Second (First (OnKeys keys))))))) = refl
answer-there (Second (Second (Second (Second (Second (Second (OnValue (queue_answer.OnFirst first)))))))) = refl
answer-there (Second (Second (Second (Second (Second (Second (OnValue (queue_answer.OnItems items)))))))) = refl
answer-there (Second (Second (Second (Second (Second (Second (OnValue (queue_answer.OnLength n)))))))) = refl
answer-there (Second (Second (Second (Second (Second (Second (OnKeys keys))))))) = refl

keys-back : (k : Kind) (keys : List (List ℕ)) → doc_has k ≡ true → (d : DocAnswer) × (plain_answer d ≡ answer.Keys k keys)
keys-back kind.Counter keys has = (at_counters (OnKeys keys), refl)
keys-back kind.Flag keys has = (at_flags (OnKeys keys), refl)
keys-back kind.Lww keys has = (at_last_writes (OnKeys keys), refl)
keys-back kind.Multi keys has = (at_multis (OnKeys keys), refl)
keys-back kind.Set keys has = (at_sets (OnKeys keys), refl)
keys-back kind.Log keys has = (at_logs (OnKeys keys), refl)
keys-back kind.Queue keys has = (at_queues (OnKeys keys), refl)
keys-back kind.Sequence keys has = absurd (cc has)

answer-back : (p : PlainAnswer) → doc_has (answer_kind p) ≡ true → (d : DocAnswer) × (plain_answer d ≡ p)
answer-back (answer.CounterValue n) has = (at_counters (OnValue n), refl)
answer-back (answer.FlagIsOn b) has = (at_flags (OnValue b), refl)
answer-back (answer.LwwGet payload) has = (at_last_writes (OnValue payload), refl)
answer-back (answer.MultiValues payloads) has = (at_multis (OnValue payloads), refl)
answer-back (answer.SetContains b) has = (at_sets (OnValue (IsIn b)), refl)
answer-back (answer.SetMembers members) has = (at_sets (OnValue (All members)), refl)
answer-back (answer.SetSize n) has = (at_sets (OnValue (Count n)), refl)
answer-back (answer.LogRead entries) has = (at_logs (OnValue (log_answer.OnEntries entries)), refl)
answer-back (answer.LogLength n) has = (at_logs (OnValue (log_answer.OnLength n)), refl)
answer-back (answer.QueuePeek first) has = (at_queues (OnValue (queue_answer.OnFirst first)), refl)
answer-back (answer.QueueItems items) has = (at_queues (OnValue (queue_answer.OnItems items)), refl)
answer-back (answer.QueueLength n) has = (at_queues (OnValue (queue_answer.OnLength n)), refl)
answer-back (answer.SequenceRead items) has = absurd (cc has)
answer-back (answer.SequenceLength n) has = absurd (cc has)
answer-back (answer.Keys k keys) has = keys-back k keys has

answer-has : (d : DocAnswer) → doc_has (answer_kind (plain_answer d)) ≡ true
answer-has (First (OnValue n)) = refl
answer-has (First (OnKeys keys)) = refl
answer-has (Second (First (OnValue b))) = refl
answer-has (Second (First (OnKeys keys))) = refl
answer-has (Second (Second (First (OnValue payload)))) = refl
answer-has (Second (Second (First (OnKeys keys)))) = refl
answer-has (Second (Second (Second (First (OnValue payloads))))) = refl
answer-has (Second (Second (Second (First (OnKeys keys))))) = refl
answer-has (Second (Second (Second (Second (First (OnValue (IsIn b))))))) = refl
answer-has (Second (Second (Second (Second (First (OnValue (All members))))))) = refl
answer-has (Second (Second (Second (Second (First (OnValue (Count n))))))) = refl
answer-has (Second (Second (Second (Second (First (OnKeys keys)))))) = refl
answer-has (Second (Second (Second (Second (Second (First (OnValue (log_answer.OnEntries entries)))))))) = refl
answer-has (Second (Second (Second (Second (Second (First (OnValue (log_answer.OnLength n)))))))) = refl
answer-has (Second (Second (Second (Second (Second (First (OnKeys keys))))))) = refl
answer-has (Second (Second (Second (Second (Second (Second (OnValue (queue_answer.OnFirst first)))))))) = refl
answer-has (Second (Second (Second (Second (Second (Second (OnValue (queue_answer.OnItems items)))))))) = refl
answer-has (Second (Second (Second (Second (Second (Second (OnValue (queue_answer.OnLength n)))))))) = refl
answer-has (Second (Second (Second (Second (Second (Second (OnKeys keys))))))) = refl

pub answers-named : AreNamed plain_answer doc_has answer_kind
answers-named = record {
  one = λ d e same. cc (sym (answer-there d) ∙ ap doc_answer same ∙ answer-there e);
  each = answer-back;
  only = answer-has;
}

lacks-sequences : (k : Kind) → doc_has k ≡ false → k ≡ kind.Sequence
lacks-sequences kind.Counter lacks = absurd (cc lacks)
lacks-sequences kind.Flag lacks = absurd (cc lacks)
lacks-sequences kind.Lww lacks = absurd (cc lacks)
lacks-sequences kind.Multi lacks = absurd (cc lacks)
lacks-sequences kind.Set lacks = absurd (cc lacks)
lacks-sequences kind.Log lacks = absurd (cc lacks)
lacks-sequences kind.Queue lacks = absurd (cc lacks)
lacks-sequences kind.Sequence lacks = refl

pub doc-forms : AreForms doc_forms
doc-forms = record {
  ops = ops-named;
  queries = queries-named;
  replies = replies-named;
  answers = answers-named;
  sequences = lacks-sequences;
}
