-- What a queue means.
use Rattle.std.specs.Prelude.{◌≡◌, ℕ, Bool, false, not, filter, Option, None, Some, List, [], ◌∷◌, ◌++◌, length}
use Rattle.std.specs.List.{list_any}
use Rattle.mrdt_model.specs.declared.time.Time.{Time}
use Rattle.mrdt_model.specs.Times.{IsTime, same_time}
use Rattle.mrdt_model.specs.Spelled.{IsBytes}
use Rattle.mrdt_model.specs.Executions.{Event}
use Rattle.mrdt_model.specs.Laws.{Meaning}
use Rattle.branch_wire.specs.Fields.{time_field, field}
use Rattle.live_set.specs.declared.kept.Kept.{Kept}
use Rattle.live_set.specs.Entries.{by_time}
use Rattle.live_set.specs.Payloads.{IsShortText}
use Rattle.live_set.specs.Spelling.{live_spelling, IsLiveSpelling}
use Rattle.mrdt_queue.specs.declared.op.QueueOp.{QueueOp}
use Rattle.mrdt_queue.specs.declared.op.QueueOp.TheVariants.{Enqueue, Dequeue}
use Rattle.mrdt_queue.specs.declared.op.QueueReply.{QueueReply}
use Rattle.mrdt_queue.specs.declared.op.QueueReply.TheVariants.{Enqueued, Nothing, Took}
use Rattle.mrdt_queue.specs.declared.op.QueueQuery.{QueueQuery}
use Rattle.mrdt_queue.specs.declared.op.QueueQuery.TheVariants.{Peek, Items, Length}
use Rattle.mrdt_queue.specs.declared.op.QueueAnswer.{QueueAnswer}
use Rattle.mrdt_queue.specs.declared.op.QueueAnswer.TheVariants.{OnFirst, OnItems, OnLength}

-- the payload is one of bytes
abbrev pub IsOp : QueueOp → Type 0
IsOp (Enqueue payload) = IsBytes payload
IsOp Dequeue = Unit {0}

-- the time's numbers and the payload's bytes lie in their ranges
abbrev pub IsReply : QueueReply → Type 0
IsReply Enqueued = Unit {0}
IsReply Nothing = Unit {0}
IsReply (Took k) = IsTime k.time × IsBytes k.payload

-- an enqueue's payload with its time
abbrev pub add_enqueue : Time → QueueOp → List (Kept (List ℕ)) → List (Kept (List ℕ))
add_enqueue t (Enqueue payload) ks = record { time = t; payload = payload } ∷ ks
add_enqueue t Dequeue ks = ks

abbrev pub enqueues : List (Event QueueOp QueueReply) → List (Kept (List ℕ))
enqueues [] = []
enqueues (e ∷ x) = add_enqueue e.time e.operation (enqueues x)

-- whether the reply names the enqueue at a time
abbrev pub names : QueueReply → Time → Bool
names Enqueued t = false
names Nothing t = false
names (Took k) t = same_time t k.time

-- some reply of x names the enqueue at a time
abbrev pub is_taken : List (Event QueueOp QueueReply) → Time → Bool
is_taken x t = list_any (λ e. names e.reply t) x

-- the enqueues that no reply names, by rising time
abbrev pub content : List (Event QueueOp QueueReply) → List (Kept (List ℕ))
content x = by_time (filter (λ k. not (is_taken x k.time)) (enqueues x))

abbrev pub first_of : List (Kept (List ℕ)) → Option (Kept (List ℕ))
first_of [] = None
first_of (k ∷ ks) = Some k

-- of the old entries the first is taken, if there is one, and the new ones are left
abbrev pub TakesFirst : List (Kept (List ℕ)) → Option (Kept (List ℕ)) → List (Kept (List ℕ)) → Type 0
TakesFirst old None new = (old ≡ []) × (new ≡ [])
TakesFirst old (Some k) new = old ≡ k ∷ new

-- what a dequeue replies that sees this one first
abbrev pub reply_to : Option (Kept (List ℕ)) → QueueReply
reply_to None = Nothing
reply_to (Some k) = Took k

abbrev pub queue_reply : List (Event QueueOp QueueReply) → QueueOp → QueueReply
queue_reply x (Enqueue payload) = Enqueued
queue_reply x Dequeue = reply_to (first_of (content x))

abbrev pub queue_answer : List (Event QueueOp QueueReply) → QueueQuery → QueueAnswer
queue_answer x Peek = OnFirst (first_of (content x))
queue_answer x Items = OnItems (content x)
queue_answer x Length = OnLength (length (content x))

-- a byte that tells an enqueue, with its payload as the rest, from a dequeue
abbrev pub op_spelling : QueueOp → List ℕ
op_spelling (Enqueue payload) = 1 ∷ payload
op_spelling Dequeue = 2 ∷ []

-- nothing; or a byte that tells whether a payload was taken, which is the rest behind its time
abbrev pub reply_spelling : QueueReply → List ℕ
reply_spelling Enqueued = []
reply_spelling Nothing = 0 ∷ []
reply_spelling (Took k) = 1 ∷ (time_field k.time ++ k.payload)

abbrev pub IsOpSpelling : List ℕ → Type 0
IsOpSpelling bytes = (op : QueueOp) × IsOp op × (bytes ≡ op_spelling op)

abbrev pub IsReplySpelling : List ℕ → Type 0
IsReplySpelling bytes = (reply : QueueReply) × IsReply reply × (bytes ≡ reply_spelling reply)

abbrev pub StandsFor : List (Kept (List ℕ)) → List (Event QueueOp QueueReply) → Type 0
StandsFor entries x = entries ≡ content x

abbrev pub queue_meaning : Meaning (List (Kept (List ℕ))) QueueOp QueueReply QueueQuery QueueAnswer
queue_meaning = record {
  is_op = IsOp;
  is_reply = IsReply;
  reply_of = queue_reply;
  answer_of = queue_answer;
  spelling_of = λ x. live_spelling field (content x);
  stands = StandsFor;
  is_same = λ s t. s ≡ t;
  state_spelling = live_spelling field;
  op_spelling = op_spelling;
  reply_spelling = reply_spelling;
  is_state_spelling = IsLiveSpelling IsShortText field;
  is_op_spelling = IsOpSpelling;
  is_reply_spelling = IsReplySpelling;
}
