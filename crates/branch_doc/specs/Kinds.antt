-- The kind of value that each plain form is of.
use Rattle.branch_doc.specs.declared.plain.Kind.{Kind}
use Rattle.branch_doc.specs.declared.plain.Kind.TheVariants as kind
use Rattle.branch_doc.specs.declared.plain.PlainOp.{PlainOp}
use Rattle.branch_doc.specs.declared.plain.PlainOp.TheVariants.{CounterAdd, CounterReset, FlagEnable, FlagDisable, LwwSet, MultiSet, SetAdd, SetRemove, SetClear, LogAppend, QueueEnqueue, QueueDequeue, SequenceInsert, SequenceDelete}
use Rattle.branch_doc.specs.declared.plain.PlainQuery.{PlainQuery}
use Rattle.branch_doc.specs.declared.plain.PlainQuery.TheVariants.{CounterValue, FlagIsOn, LwwGet, MultiValues, SetContains, SetMembers, SetSize, LogRead, LogLength, QueuePeek, QueueItems, QueueLength, SequenceRead, SequenceLength, Keys}
use Rattle.branch_doc.specs.declared.plain.PlainReply.{PlainReply}
use Rattle.branch_doc.specs.declared.plain.PlainReply.TheVariants as reply
use Rattle.branch_doc.specs.declared.plain.PlainAnswer.{PlainAnswer}
use Rattle.branch_doc.specs.declared.plain.PlainAnswer.TheVariants as answer

-- the kind of the value that an operation is on
abbrev pub op_kind : PlainOp → Kind
op_kind (CounterAdd key amount) = kind.Counter
op_kind (CounterReset key) = kind.Counter
op_kind (FlagEnable key) = kind.Flag
op_kind (FlagDisable key) = kind.Flag
op_kind (LwwSet key payload) = kind.Lww
op_kind (MultiSet key payload) = kind.Multi
op_kind (SetAdd key element) = kind.Set
op_kind (SetRemove key element) = kind.Set
op_kind (SetClear key) = kind.Set
op_kind (LogAppend key payload) = kind.Log
op_kind (QueueEnqueue key payload) = kind.Queue
op_kind (QueueDequeue key) = kind.Queue
op_kind (SequenceInsert key place payload) = kind.Sequence
op_kind (SequenceDelete key place) = kind.Sequence

-- the kind of the value, or of the keys, that a query asks for
abbrev pub query_kind : PlainQuery → Kind
query_kind (CounterValue key) = kind.Counter
query_kind (FlagIsOn key) = kind.Flag
query_kind (LwwGet key) = kind.Lww
query_kind (MultiValues key) = kind.Multi
query_kind (SetContains key element) = kind.Set
query_kind (SetMembers key) = kind.Set
query_kind (SetSize key) = kind.Set
query_kind (LogRead key) = kind.Log
query_kind (LogLength key) = kind.Log
query_kind (QueuePeek key) = kind.Queue
query_kind (QueueItems key) = kind.Queue
query_kind (QueueLength key) = kind.Queue
query_kind (SequenceRead key) = kind.Sequence
query_kind (SequenceLength key) = kind.Sequence
query_kind (Keys k) = k

-- the kind of the value whose operation was done
abbrev pub reply_kind : PlainReply → Kind
reply_kind reply.Counter = kind.Counter
reply_kind reply.Flag = kind.Flag
reply_kind reply.Lww = kind.Lww
reply_kind reply.Multi = kind.Multi
reply_kind reply.Set = kind.Set
reply_kind reply.Log = kind.Log
reply_kind reply.QueueEnqueued = kind.Queue
reply_kind (reply.QueueTook first) = kind.Queue
reply_kind (reply.Sequence named) = kind.Sequence

-- the kind of the value, or of the keys, that was asked for
abbrev pub answer_kind : PlainAnswer → Kind
answer_kind (answer.CounterValue n) = kind.Counter
answer_kind (answer.FlagIsOn b) = kind.Flag
answer_kind (answer.LwwGet payload) = kind.Lww
answer_kind (answer.MultiValues payloads) = kind.Multi
answer_kind (answer.SetContains b) = kind.Set
answer_kind (answer.SetMembers members) = kind.Set
answer_kind (answer.SetSize n) = kind.Set
answer_kind (answer.LogRead entries) = kind.Log
answer_kind (answer.LogLength n) = kind.Log
answer_kind (answer.QueuePeek first) = kind.Queue
answer_kind (answer.QueueItems items) = kind.Queue
answer_kind (answer.QueueLength n) = kind.Queue
answer_kind (answer.SequenceRead items) = kind.Sequence
answer_kind (answer.SequenceLength n) = kind.Sequence
answer_kind (answer.Keys k keys) = k
