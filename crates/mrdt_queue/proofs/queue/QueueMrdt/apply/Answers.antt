use Rattle.std.proofs.Common.{◌++◌, ◌∷◌, [], ◌∙◌, ap, sym, subst}
use Rattle.mrdt_model.specs.Executions.{next_event}
use Rattle.live_set.specs.Entries.{kept_times, AllBefore}
use Rattle.live_set.proofs.Rising.{entry_of}
use Rattle.mrdt_queue.specs.declared.op.QueueOp.TheVariants.{Dequeue}
use Rattle.mrdt_queue.specs.declared.op.QueueReply.TheVariants.{Enqueued}
use Rattle.mrdt_queue.specs.Queue.{content, queue_reply, TakesFirst}
use Rattle.mrdt_queue.specs.Content.{content-before, content-enqueue, dequeue-applies}
use Rattle.mrdt_queue.proofs.queue.QueueMrdt.apply.Goals as goal

pub returns-in_ok-enqueued-in-Enqueue-clause-applies : goal.returns-in_ok-enqueued-in-Enqueue-clause-applies
returns-in_ok-enqueued-in-Enqueue-clause-applies c x lawful is after =
    let time = c.args.time in
    let payload = c.in-Enqueue.payload in
    let before : AllBefore (kept_times c.args.self.now) time = subst (λ ks. AllBefore (kept_times ks) time) (sym is) (content-before x time after) in
    let made = c.in_ok-enqueued-in-Enqueue.ensures.after before ∙ ap (λ ks. ks ++ entry_of time payload ∷ []) is ∙ sym (content-enqueue x time payload lawful.well_formed lawful.faithful after) in
    (ap (queue_reply x) (sym c.in-Enqueue.is), made ∙ ap (λ o. content (next_event x time o Enqueued ∷ x)) (sym c.in-Enqueue.is))

pub returns-in_ok-reply-in-Dequeue-clause-applies : goal.returns-in_ok-reply-in-Dequeue-clause-applies
returns-in_ok-reply-in-Dequeue-clause-applies c x lawful is after =
    let time = c.args.time in
    let first = c.in_ok-queue-in-Dequeue.first in
    let queue = c.in_ok-queue-in-Dequeue.queue in
    let reply = c.in_ok-reply-in-Dequeue.reply in
    let taken = subst (λ ks. TakesFirst ks first queue) is c.in_ok-queue-in-Dequeue.ensures in
    let both = dequeue-applies x time first queue taken in (
      c.in_ok-reply-in-Dequeue.ensures.value ∙ both.0 ∙ ap (queue_reply x) (sym c.in-Dequeue.is),
      both.1 ∙ ap (λ r. content (next_event x time Dequeue r ∷ x)) (sym c.in_ok-reply-in-Dequeue.ensures.value) ∙ ap (λ o. content (next_event x time o reply ∷ x)) (sym c.in-Dequeue.is),
    )
