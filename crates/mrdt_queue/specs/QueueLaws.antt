-- The laws of the queue.
use Rattle.std.proofs.Common.{◌≡◌, ℕ, ◌+◌, ◌<◌, ◌≤◌, ◌^◌, Bool, true, false, not, cond, List, [], ◌∷◌, ◌++◌, length, filter, refl, ◌∙◌, ap, sym, arith}
use Rattle.std.specs.List.{AllByRecursion}
use Rattle.mrdt_model.specs.declared.time.Time.{Time}
use Rattle.mrdt_model.specs.Times.{IsTime}
use Rattle.mrdt_model.specs.Laws.{KeepsLaws}
use Rattle.mrdt_model.specs.Executions.{Event, IsWellFormed}
use Rattle.branch_wire.specs.Fields.{time_field, field}
use Rattle.branch_wire.proofs.OneWay.{times}
use Rattle.live_set.specs.declared.kept.Kept.{Kept}
use Rattle.live_set.specs.Payloads.{IsShortText}
use Rattle.live_set.specs.Spelling.{live_spelling, AreLive}
use Rattle.mrdt_queue.specs.declared.op.QueueOp.{QueueOp}
use Rattle.mrdt_queue.specs.declared.op.QueueOp.TheVariants.{Enqueue, Dequeue}
use Rattle.mrdt_queue.specs.declared.op.QueueReply.{QueueReply}
use Rattle.mrdt_queue.specs.declared.op.QueueReply.TheVariants.{Enqueued, Nothing, Took}
use Rattle.mrdt_queue.specs.Queue.{IsOp, IsReply, add_enqueue, enqueues, is_taken, content, first_of, reply_to, queue_reply, op_spelling, reply_spelling, queue_meaning}
use Rattle.live_set.proofs.Lengths.{length-by_time}
use Rattle.live_set.proofs.ShortTexts.{IsKnown, all-short}
use Rattle.mrdt_queue.specs.Content.{content-known, content-rising, unchanged-left, unchanged-right}
use Rattle.mrdt_queue.specs.AnyOrder.{content-alike, shows-alike}
use Rattle.live_set.proofs.Rising.{same_entry}

length-filter : {X : Type 0} (p : X → Bool) (xs : List X) → length (filter p xs) ≤ length xs
length-filter p [] = omega arith
length-filter {X} p (x ∷ xs) = at (p x) (length-filter p xs)
  where
    at : (b : Bool) → length (filter p xs) ≤ length xs → length (cond b (x ∷ filter p xs) (filter p xs)) ≤ length (x ∷ xs)
    at true h = omega (arith, h)
    at false h = omega (arith, h)

length-enqueued : (t : Time) (o : QueueOp) (ks : List (Kept (List ℕ))) → length (add_enqueue t o ks) ≤ length ks + 1
length-enqueued t (Enqueue payload) ks = omega arith
length-enqueued t Dequeue ks = omega arith

length-enqueues : (x : List (Event QueueOp QueueReply)) → length (enqueues x) ≤ length x
length-enqueues [] = omega arith
length-enqueues (e ∷ x) = omega (arith, length-enqueued e.time e.operation (enqueues x), length-enqueues x)

-- the content is in the grammar where it is not too long
pub content-inside : (x : List (Event QueueOp QueueReply)) → IsWellFormed IsOp IsReply x → length x < 2 ^ 32 → length (live_spelling field (content x)) < 2 ^ 64 → AreLive IsShortText (content x)
content-inside x w few short = record {
  few = omega (arith, few, length-by_time (filter (λ k. not (is_taken x k.time)) (enqueues x)), length-filter (λ k. not (is_taken x k.time)) (enqueues x), length-enqueues x);
  rising = content-rising x;
  each = all-short (content x) (content-known x w) short;
}

first-known : (ks : List (Kept (List ℕ))) → AllByRecursion IsKnown ks → IsReply (reply_to (first_of ks))
first-known [] all = tt
first-known (k ∷ ks) all = all.0

reply-known : (x : List (Event QueueOp QueueReply)) (o : QueueOp) → IsWellFormed IsOp IsReply x → IsReply (queue_reply x o)
reply-known x (Enqueue payload) w = tt
reply-known x Dequeue w = first-known (content x) (content-known x w)

one-op : (o p : QueueOp) → op_spelling o ≡ op_spelling p → o ≡ p
one-op (Enqueue u) (Enqueue v) is = let payloads : u ≡ v = cc is in ap Enqueue payloads
one-op (Enqueue u) Dequeue is = absurd (cc is)
one-op Dequeue (Enqueue v) is = absurd (cc is)
one-op Dequeue Dequeue is = refl

one-took : (j k : Kept (List ℕ)) → IsTime j.time → IsTime k.time → time_field j.time ++ j.payload ≡ time_field k.time ++ k.payload → j ≡ k
one-took j k p q is = let both = times.one j.time k.time j.payload k.payload p q is in same_entry j k both.0 both.1

one-reply : (r s : QueueReply) → IsReply r → IsReply s → reply_spelling r ≡ reply_spelling s → r ≡ s
one-reply Enqueued Enqueued p q is = refl
one-reply Enqueued Nothing p q is = absurd (cc is)
one-reply Enqueued (Took k) p q is = absurd (cc is)
one-reply Nothing Enqueued p q is = absurd (cc is)
one-reply Nothing Nothing p q is = refl
one-reply Nothing (Took k) p q is = absurd (cc is)
one-reply (Took j) Enqueued p q is = absurd (cc is)
one-reply (Took j) Nothing p q is = absurd (cc is)
one-reply (Took j) (Took k) p q is = let behind : time_field j.time ++ j.payload ≡ time_field k.time ++ k.payload = cc is in ap Took (one-took j k p.0 q.0 behind)

pub queue_laws : KeepsLaws queue_meaning
queue_laws = record {
  one_spelling = λ s x l is. ap (live_spelling field) is;
  replies_in_range = λ x o l known. reply-known x o l.well_formed;
  spelling_inside = λ x l short. (content x, content-inside x l.well_formed l.few short, refl);
  op_inside = λ o known short. (o, known, refl);
  reply_inside = λ r known short. (r, known, refl);
  one_op = λ o p known also short is. one-op o p is;
  one_reply = λ r s known also short is. one-reply r s known also is;
  same_spelling = λ s t is. ap (live_spelling field) is;
  same_stands = λ s t is. (λ x l stands. sym is ∙ stands, λ x l stands. is ∙ stands);
  unchanged_left = unchanged-left;
  unchanged_right = unchanged-right;
  any_order = λ x y l m same. shows-alike x y (content-alike x y l.well_formed m.well_formed same);
}
