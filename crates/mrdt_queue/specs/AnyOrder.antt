-- Executions that hold the same events have the same content.
use Rattle.std.proofs.Common.{◌≡◌, ℕ, Bool, true, false, not, cond, Option, None, Some, is_some, List, [], ◌∷◌, refl, ◌∙◌, ap, sym}
use Rattle.mrdt_model.specs.declared.time.Time.{Time}
use Rattle.mrdt_model.specs.Times.{same_time, among}
use Rattle.mrdt_model.specs.Executions.{Event, times_of, IsWellFormed, event_at, AreSameEvent, HoldSameEvents}
use Rattle.mrdt_model.specs.Laws.{ShowTheSame}
use Rattle.mrdt_model.proofs.TimeSets.{same_time-eq}
use Rattle.mrdt_model.proofs.SameEvents.{HaveOwnTimes, own-times, among-event, any-alike}
use Rattle.branch_wire.specs.Fields.{field}
use Rattle.live_set.specs.Entries.{payload_at}
use Rattle.live_set.specs.Spelling.{live_spelling}
use Rattle.live_set.proofs.Rising.{same_entries}
use Rattle.mrdt_queue.specs.declared.op.QueueOp.{QueueOp}
use Rattle.mrdt_queue.specs.declared.op.QueueOp.TheVariants.{Enqueue, Dequeue}
use Rattle.mrdt_queue.specs.declared.op.QueueReply.{QueueReply}
use Rattle.mrdt_queue.specs.declared.op.QueueQuery.{QueueQuery}
use Rattle.mrdt_queue.specs.declared.op.QueueQuery.TheVariants.{Peek, Items, Length}
use Rattle.mrdt_queue.specs.Queue.{IsOp, IsReply, add_enqueue, enqueues, names, is_taken, content, first_of, reply_to, queue_reply, queue_answer, queue_meaning}
use Rattle.mrdt_queue.specs.Content.{content-rising, payload-content}

abbrev Events : Type 0
Events = List (Event QueueOp QueueReply)

abbrev enqueue_of : QueueOp → Option (List ℕ)
enqueue_of (Enqueue payload) = Some payload
enqueue_of Dequeue = None

-- what an event enqueues, if there is one
abbrev enqueued_by : Option (Event QueueOp QueueReply) → Option (List ℕ)
enqueued_by None = None
enqueued_by (Some e) = enqueue_of e.operation

none_found : (o : Option (Event QueueOp QueueReply)) → is_some o ≡ false → o ≡ None
none_found None h = refl
none_found (Some e) h = cc

enqueues_step : (e : Event QueueOp QueueReply) (x : Events) (t : Time) (o : QueueOp) (same : Bool) → e.operation ≡ o → same_time t e.time ≡ same → (same ≡ true → payload_at (enqueues x) t ≡ None) → payload_at (enqueues x) t ≡ enqueued_by (event_at x t)
    → payload_at (add_enqueue e.time o (enqueues x)) t ≡ enqueued_by (cond same (Some e) (event_at x t))
enqueues_step e x t (Enqueue payload) true is here none rest = ap (λ b. cond b (Some payload) (payload_at (enqueues x) t)) here ∙ ap enqueue_of (sym is)
enqueues_step e x t (Enqueue payload) false is here none rest = ap (λ b. cond b (Some payload) (payload_at (enqueues x) t)) here ∙ rest
enqueues_step e x t Dequeue true is here none rest = none refl ∙ ap enqueue_of (sym is)
enqueues_step e x t Dequeue false is here none rest = rest

-- what is enqueued at a time is what the event at that time enqueues
enqueues-at : (x : Events) (t : Time) → HaveOwnTimes x → payload_at (enqueues x) t ≡ enqueued_by (event_at x t)
enqueues-at [] t own = refl
enqueues-at (e ∷ x) t own =
    enqueues_step e x t e.operation (same_time t e.time) refl refl
    (λ same. enqueues-at x t own.1 ∙ ap enqueued_by (none_found (event_at x t) (sym (among-event x t) ∙ ap (among (times_of x)) (same_time-eq t e.time same) ∙ own.0)))
    (enqueues-at x t own.1)

same_enqueue : (o p : Option (Event QueueOp QueueReply)) → AreSameEvent o p → enqueued_by o ≡ enqueued_by p
same_enqueue None None same = refl
same_enqueue None (Some f) same = absurd same
same_enqueue (Some e) None same = absurd same
same_enqueue (Some e) (Some f) same = ap enqueue_of same.operation

pub content-alike : (x y : Events) → IsWellFormed IsOp IsReply x → IsWellFormed IsOp IsReply y → HoldSameEvents x y → content x ≡ content y
content-alike x y w v same =
    let own_x = own-times IsOp IsReply x w in
    let own_y = own-times IsOp IsReply y v in
    same_entries (content x) (content y) (content-rising x) (content-rising y) (λ t.
    payload-content x t
    ∙ ap (λ n. cond (not n) (payload_at (enqueues x) t) None) (any-alike (λ e. names e.reply t) (λ e. names e.reply t) x y own_x own_y same (λ e f both. ap (λ r. names r t) both.reply))
    ∙ ap (λ o. cond (not (is_taken y t)) o None) (enqueues-at x t own_x ∙ same_enqueue (event_at x t) (event_at y t) (same t) ∙ sym (enqueues-at y t own_y))
    ∙ sym (payload-content y t))

replies_alike : (x y : Events) (o : QueueOp) → content x ≡ content y → queue_reply x o ≡ queue_reply y o
replies_alike x y (Enqueue payload) is = refl
replies_alike x y Dequeue is = ap (λ ks. reply_to (first_of ks)) is

answers_alike : (x y : Events) (q : QueueQuery) → content x ≡ content y → queue_answer x q ≡ queue_answer y q
answers_alike x y Peek is = rw is refl
answers_alike x y Items is = rw is refl
answers_alike x y Length is = rw is refl

pub shows-alike : (x y : Events) → content x ≡ content y → ShowTheSame queue_meaning x y
shows-alike x y is = record { replies = λ o. replies_alike x y o is; answers = λ q. answers_alike x y q is; spellings = ap (live_spelling field) is }
