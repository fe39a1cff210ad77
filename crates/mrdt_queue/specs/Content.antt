-- The content of executions.
use Rattle.std.proofs.Common.{◌≡◌, ℕ, Bool, true, false, not, cond, ◌&&◌, ◌||◌, Option, None, Some, List, [], ◌∷◌, ◌++◌, refl, ◌∙◌, ap, sym, subst, IsTrue, filter, ⊎_elim}
use Rattle.std.specs.List.{AllByRecursion}
use Rattle.std.proofs.lemmas.Bool.{and_parts, and_from, or_cases, or_left, or_right, both_ways, false_from_ne_true}
use Rattle.mrdt_model.specs.declared.time.Time.{Time}
use Rattle.mrdt_model.specs.Times.{IsTime, both, either, same_time, is_earlier, among}
use Rattle.mrdt_model.specs.Executions.{Event, times_of, restrict, AllIn, IsClosed, IsWellFormed, IsFaithful, IsAfter, next_event}
use Rattle.mrdt_model.proofs.TimeSets.{same_time-eq}
use Rattle.mrdt_model.specs.Laws.{Merges}
use Rattle.mrdt_model.proofs.Executions.{is_earlier-irrefl}
use Rattle.live_set.specs.declared.kept.Kept.{Kept}
use Rattle.live_set.specs.Entries.{kept_times, AllBefore, IsRising, payload_at, staying, place, by_time, MergesEntries}
use Rattle.live_set.proofs.Lengths.{each-by_time}
use Rattle.live_set.proofs.ShortTexts.{IsKnown}
use Rattle.live_set.proofs.Order.{earlier-trans}
use Rattle.live_set.proofs.Rising.{same_entries, payload-by_time, rising-by_time, payload-none, later-not, among-head, among-tail, all_in-cons}
use Rattle.mrdt_queue.specs.declared.op.QueueOp.{QueueOp}
use Rattle.mrdt_queue.specs.declared.op.QueueOp.TheVariants.{Enqueue, Dequeue}
use Rattle.mrdt_queue.specs.declared.op.QueueReply.{QueueReply}
use Rattle.mrdt_queue.specs.declared.op.QueueReply.TheVariants.{Enqueued, Took}
use Rattle.mrdt_queue.specs.Queue.{IsOp, IsReply, add_enqueue, enqueues, names, is_taken, content, TakesFirst, first_of, reply_to, queue_reply, queue_meaning}

abbrev Texts : Type 0
Texts = List (Kept (List ℕ))

abbrev Events : Type 0
Events = List (Event QueueOp QueueReply)

no_payload : (t : Time) (p : Bool) → payload_at {V = List ℕ} [] t ≡ cond p (payload_at {V = List ℕ} [] t) None
no_payload t true = refl
no_payload t false = refl

-- what a test of times keeps of entries
kept-filter : (p : Time → Bool) (ks : Texts) (t : Time) → payload_at (filter (λ k. p k.time) ks) t ≡ cond (p t) (payload_at ks t) None
kept-filter p [] t = no_payload t (p t)
kept-filter p (k ∷ ks) t = at (p k.time) (same_time t k.time) refl refl (kept-filter p ks t)
  where
    at : (b q : Bool) → p k.time ≡ b → same_time t k.time ≡ q → payload_at (filter (λ j. p j.time) ks) t ≡ cond (p t) (payload_at ks t) None
        → payload_at (cond b (k ∷ filter (λ j. p j.time) ks) (filter (λ j. p j.time) ks)) t ≡ cond (p t) (cond (same_time t k.time) (Some k.payload) (payload_at ks t)) None
    at true true is same h = let holds : p t ≡ true = ap p (same_time-eq t k.time same) ∙ is in rw (same, holds) refl
    at true false is same h = rw same h
    at false true is same h = let fails : p t ≡ false = ap p (same_time-eq t k.time same) ∙ is in h ∙ rw fails refl
    at false false is same h = rw same h

put_step : (o : QueueOp) (a : Time → Bool) (s t : Time) (p q : Bool) (ys xs : Texts) → a s ≡ p → same_time t s ≡ q → payload_at ys t ≡ cond (a t) (payload_at xs t) None
    → payload_at (cond p (add_enqueue s o ys) ys) t ≡ cond (a t) (payload_at (add_enqueue s o xs) t) None
put_step (Enqueue payload) a s t true true ys xs is same h = let in_a : a t ≡ true = ap a (same_time-eq t s same) ∙ is in rw (same, in_a) refl
put_step (Enqueue payload) a s t true false ys xs is same h = rw same h
put_step (Enqueue payload) a s t false true ys xs is same h = let out : a t ≡ false = ap a (same_time-eq t s same) ∙ is in h ∙ rw out refl
put_step (Enqueue payload) a s t false false ys xs is same h = rw same h
put_step Dequeue a s t true q ys xs is same h = h
put_step Dequeue a s t false q ys xs is same h = h

chosen_enqueues : (p : Bool) (e : Event QueueOp QueueReply) (y : Events) → enqueues (cond p (e ∷ y) y) ≡ cond p (add_enqueue e.time e.operation (enqueues y)) (enqueues y)
chosen_enqueues true e y = refl
chosen_enqueues false e y = refl

-- the enqueues in a set of times
enqueues-restrict : (a : Time → Bool) (x : Events) (t : Time) → payload_at (enqueues (restrict a x)) t ≡ cond (a t) (payload_at (enqueues x) t) None
enqueues-restrict a [] t = no_payload t (a t)
enqueues-restrict a (e ∷ x) t =
    ap (λ ks. payload_at ks t) (chosen_enqueues (a e.time) e (restrict a x))
    ∙ put_step e.operation a e.time t (a e.time) (same_time t e.time) (enqueues (restrict a x)) (enqueues x) refl refl (enqueues-restrict a x t)

taken_step : (p : Bool) (e : Event QueueOp QueueReply) (y : Events) (t : Time) → is_taken (cond p (e ∷ y) y) t ≡ ((p && names e.reply t) || is_taken y t)
taken_step true e y t = refl
taken_step false e y t = refl

-- what either of two sets has taken
taken-either : (a b : Time → Bool) (x : Events) (t : Time) → is_taken (restrict (either a b) x) t ≡ (is_taken (restrict a x) t || is_taken (restrict b x) t)
taken-either a b [] t = refl
taken-either a b (e ∷ x) t =
    taken_step (a e.time || b e.time) e (restrict (either a b) x) t
    ∙ ap (λ n. ((a e.time || b e.time) && names e.reply t) || n) (taken-either a b x t)
    ∙ split (a e.time) (b e.time) (names e.reply t) (is_taken (restrict a x) t) (is_taken (restrict b x) t)
    ∙ ap (λ n. n || ((b e.time && names e.reply t) || is_taken (restrict b x) t)) (sym (taken_step (a e.time) e (restrict a x) t))
    ∙ ap (λ n. is_taken (restrict a (e ∷ x)) t || n) (sym (taken_step (b e.time) e (restrict b x) t))
  where
    split : (p q n l r : Bool) → (((p || q) && n) || (l || r)) ≡ (((p && n) || l) || ((q && n) || r))
    split true q true l r = refl
    split true true false l r = refl
    split true false false l r = refl
    split false true true true r = refl
    split false true true false r = refl
    split false true false l r = refl
    split false false n l r = refl

-- what a set has taken, a greater one has too
taken-within : (a b : Time → Bool) (x : Events) (t : Time) → ((s : Time) → IsTrue (b s) → IsTrue (a s)) → is_taken (restrict b x) t ≡ true → is_taken (restrict a x) t ≡ true
taken-within a b [] t sub h = cc
taken-within a b (e ∷ x) t sub h =
    let n = names e.reply t in
    let l = is_taken (restrict a x) t in
    taken_step (a e.time) e (restrict a x) t
    ∙ ⊎_elim (λ here. let both_are = and_parts (b e.time) n here in or_left (a e.time && n) l (and_from (a e.time) n (sub e.time both_are.0) both_are.1)) (λ there. or_right (a e.time && n) l (taken-within a b x t sub there))
    (or_cases (b e.time && n) (is_taken (restrict b x) t) (sym (taken_step (b e.time) e (restrict b x) t) ∙ h))

-- the content at a time
pub payload-content : (x : Events) (t : Time) → payload_at (content x) t ≡ cond (not (is_taken x t)) (payload_at (enqueues x) t) None
payload-content x t = payload-by_time (filter (λ k. not (is_taken x k.time)) (enqueues x)) t ∙ kept-filter (λ s. not (is_taken x s)) (enqueues x) t

content-at : (a : Time → Bool) (x : Events) (t : Time) → payload_at (content (restrict a x)) t ≡ cond (not (is_taken (restrict a x) t)) (cond (a t) (payload_at (enqueues x) t) None) None
content-at a x t = payload-content (restrict a x) t ∙ ap (λ o. cond (not (is_taken (restrict a x) t)) o None) (enqueues-restrict a x t)

pub content-rising : (x : Events) → IsRising (kept_times (content x))
content-rising x = rising-by_time (filter (λ k. not (is_taken x k.time)) (enqueues x))

first_named : (ks : Texts) (t : Time) → names (reply_to (first_of ks)) t ≡ true → (v : List ℕ) × (payload_at ks t ≡ Some v)
first_named [] t h = cc
first_named (k ∷ ks) t h = (k.payload, ap (λ b. cond b (Some k.payload) (payload_at ks t)) h)

kept_inner : (p q : Bool) (o : Option (List ℕ)) (v : List ℕ) → cond p (cond q o None) None ≡ Some v → q ≡ true
kept_inner true true o v h = refl
kept_inner true false o v h = cc
kept_inner false q o v h = cc

-- a reply names what the event has seen
names-seen : (o : QueueOp) (a : Time → Bool) (x : Events) (t : Time) → names (queue_reply (restrict a x) o) t ≡ true → a t ≡ true
names-seen (Enqueue payload) a x t h = cc
names-seen Dequeue a x t h =
    let found = first_named (content (restrict a x)) t h in
    kept_inner (not (is_taken (restrict a x) t)) (a t) (payload_at (enqueues x) t) found.0 (sym (content-at a x t) ∙ found.1)

reply-seen : (e : Event QueueOp QueueReply) (x : Events) (t : Time) → e.reply ≡ queue_reply (restrict (among e.seen) x) e.operation → names e.reply t ≡ true → IsTrue (among e.seen t)
reply-seen e x t is h = names-seen e.operation (among e.seen) x t (ap (λ r. names r t) (sym is) ∙ h)

-- what a closed set has taken is in the set
taken-inside : (a : Time → Bool) (x : Events) (t : Time) → IsFaithful queue_reply x → IsClosed a x → is_taken (restrict a x) t ≡ true → a t ≡ true
taken-inside a [] t faithful closed h = cc
taken-inside a (e ∷ x) t faithful closed h =
    ⊎_elim (λ here. let both_are = and_parts (a e.time) (names e.reply t) here in closed.0 both_are.0 t (reply-seen e x t faithful.0 both_are.1)) (λ there. taken-inside a x t faithful.1 closed.1 there)
    (or_cases (a e.time && names e.reply t) (is_taken (restrict a x) t) (sym (taken_step (a e.time) e (restrict a x) t) ∙ h))

merge_at : (a b l r m : Bool) (o : Option (List ℕ)) → (m ≡ true → l ≡ true) → (m ≡ true → r ≡ true) → (l ≡ true → a ≡ true) → (r ≡ true → b ≡ true)
    → staying (cond (not m) (cond (a && b) o None) None) (cond (not l) (cond a o None) None) (cond (not r) (cond b o None) None) ≡ cond (not (l || r)) (cond (a || b) o None) None
merge_at a b true true true o f g p q = refl
merge_at a b true false true o f g p q = let clash : false ≡ true = g refl in cc
merge_at a b false r true o f g p q = let clash : false ≡ true = f refl in cc
merge_at true true true true false None f g p q = refl
merge_at true true true true false (Some v) f g p q = refl
merge_at true true true false false None f g p q = refl
merge_at true true true false false (Some v) f g p q = refl
merge_at true true false true false None f g p q = refl
merge_at true true false true false (Some v) f g p q = refl
merge_at true true false false false None f g p q = refl
merge_at true true false false false (Some v) f g p q = refl
merge_at true false true true false o f g p q = let clash : false ≡ true = q refl in cc
merge_at true false true false false o f g p q = refl
merge_at true false false true false o f g p q = let clash : false ≡ true = q refl in cc
merge_at true false false false false None f g p q = refl
merge_at true false false false false (Some v) f g p q = refl
merge_at false true true r false o f g p q = let clash : false ≡ true = p refl in cc
merge_at false true false true false o f g p q = refl
merge_at false true false false false o f g p q = refl
merge_at false false true r false o f g p q = let clash : false ≡ true = p refl in cc
merge_at false false false true false o f g p q = let clash : false ≡ true = q refl in cc
merge_at false false false false false o f g p q = refl

-- the content of two sides that merge
pub content-union : (x : Events) (a b : Time → Bool) (merged : Texts) → IsFaithful queue_reply x → IsClosed a x → IsClosed b x → IsRising (kept_times merged)
    → MergesEntries (content (restrict (both a b) x)) (content (restrict a x)) (content (restrict b x)) merged → merged ≡ content (restrict (either a b) x)
content-union x a b merged faithful closed_a closed_b rising is =
    same_entries merged (content (restrict (either a b) x)) rising (content-rising (restrict (either a b) x)) (λ t.
    let l = is_taken (restrict a x) t in
    let r = is_taken (restrict b x) t in
    let m = is_taken (restrict (both a b) x) t in
    let o = payload_at (enqueues x) t in
    is t
    ∙ rw (content-at (both a b) x t, content-at a x t, content-at b x t)
    (merge_at (a t) (b t) l r m o
    (taken-within a (both a b) x t (λ s h. (and_parts (a s) (b s) h).0))
    (taken-within b (both a b) x t (λ s h. (and_parts (a s) (b s) h).1))
    (taken-inside a x t faithful closed_a)
    (taken-inside b x t faithful closed_b))
    ∙ ap (λ n. cond (not n) (cond (a t || b t) o None) None) (sym (taken-either a b x t))
    ∙ sym (content-at (either a b) x t))

-- where a base and a left side have the same at a time, the right side has what the union has
left_alike : (a b l r m : Bool) (o : Option (List ℕ)) → (m ≡ true → l ≡ true) → (m ≡ true → r ≡ true) → (l ≡ true → a ≡ true) → (r ≡ true → b ≡ true)
    → cond (not m) (cond (a && b) o None) None ≡ cond (not l) (cond a o None) None → cond (not r) (cond b o None) None ≡ cond (not (l || r)) (cond (a || b) o None) None
left_alike a b true true m o f g p q same = refl
left_alike a b false true m o f g p q same = refl
left_alike a b l false true o f g p q same = let clash : false ≡ true = g refl in cc
left_alike true true true false false o f g p q same = same
left_alike true false true false false o f g p q same = refl
left_alike false b true false false o f g p q same = let clash : false ≡ true = p refl in cc
left_alike true true false false false o f g p q same = refl
left_alike true false false false false o f g p q same = same
left_alike false true false false false o f g p q same = refl
left_alike false false false false false o f g p q same = refl

-- and the other way round
right_alike : (a b l r m : Bool) (o : Option (List ℕ)) → (m ≡ true → l ≡ true) → (m ≡ true → r ≡ true) → (l ≡ true → a ≡ true) → (r ≡ true → b ≡ true)
    → cond (not m) (cond (a && b) o None) None ≡ cond (not r) (cond b o None) None → cond (not l) (cond a o None) None ≡ cond (not (l || r)) (cond (a || b) o None) None
right_alike a b true r m o f g p q same = refl
right_alike a b false r true o f g p q same = let clash : false ≡ true = f refl in cc
right_alike true true false true false o f g p q same = same
right_alike false true false true false o f g p q same = refl
right_alike a false false true false o f g p q same = let clash : false ≡ true = q refl in cc
right_alike true b false false false o f g p q same = refl
right_alike false true false false false o f g p q same = same
right_alike false false false false false o f g p q same = refl

-- where one side is the base, the other is the union
pub unchanged-left : (base left right : Texts) → base ≡ left → Merges queue_meaning base left right right
unchanged-left base left right same x a b lawful closed_a closed_b is_base is_left is_right =
    is_right
    ∙ same_entries (content (restrict b x)) (content (restrict (either a b) x)) (content-rising (restrict b x)) (content-rising (restrict (either a b) x)) (λ t.
    content-at b x t
    ∙ left_alike (a t) (b t) (is_taken (restrict a x) t) (is_taken (restrict b x) t) (is_taken (restrict (both a b) x) t) (payload_at (enqueues x) t)
    (taken-within a (both a b) x t (λ s h. (and_parts (a s) (b s) h).0))
    (taken-within b (both a b) x t (λ s h. (and_parts (a s) (b s) h).1))
    (taken-inside a x t lawful.faithful closed_a)
    (taken-inside b x t lawful.faithful closed_b)
    (sym (content-at (both a b) x t) ∙ ap (λ ks. payload_at ks t) (sym is_base ∙ same ∙ is_left) ∙ content-at a x t)
    ∙ ap (λ n. cond (not n) (cond (a t || b t) (payload_at (enqueues x) t) None) None) (sym (taken-either a b x t))
    ∙ sym (content-at (either a b) x t))

pub unchanged-right : (base left right : Texts) → base ≡ right → Merges queue_meaning base left right left
unchanged-right base left right same x a b lawful closed_a closed_b is_base is_left is_right =
    is_left
    ∙ same_entries (content (restrict a x)) (content (restrict (either a b) x)) (content-rising (restrict a x)) (content-rising (restrict (either a b) x)) (λ t.
    content-at a x t
    ∙ right_alike (a t) (b t) (is_taken (restrict a x) t) (is_taken (restrict b x) t) (is_taken (restrict (both a b) x) t) (payload_at (enqueues x) t)
    (taken-within a (both a b) x t (λ s h. (and_parts (a s) (b s) h).0))
    (taken-within b (both a b) x t (λ s h. (and_parts (a s) (b s) h).1))
    (taken-inside a x t lawful.faithful closed_a)
    (taken-inside b x t lawful.faithful closed_b)
    (sym (content-at (both a b) x t) ∙ ap (λ ks. payload_at ks t) (sym is_base ∙ same ∙ is_right) ∙ content-at b x t)
    ∙ ap (λ n. cond (not n) (cond (a t || b t) (payload_at (enqueues x) t) None) None) (sym (taken-either a b x t))
    ∙ sym (content-at (either a b) x t))

-- what was taken was put before
taken-before : (x : Events) (s t : Time) → IsWellFormed IsOp IsReply x → IsFaithful queue_reply x → IsAfter x t → is_taken x s ≡ true → is_earlier s t ≡ true
taken-before [] s t w faithful after h = cc
taken-before (e ∷ x) s t w faithful after h =
    ⊎_elim (λ here. earlier-trans s e.time t (w.0.later s (reply-seen e x s faithful.0 here)) (after e.time (among-head e.time (times_of x))))
    (λ there. taken-before x s t w.1 faithful.1 (λ u m. after u (among-tail e.time u (times_of x) m)) there)
    (or_cases (names e.reply s) (is_taken x s) h)

all-filter : {X : Type 0} (P : X → Type 0) (p : X → Bool) (xs : List X) → AllByRecursion P xs → AllByRecursion P (filter p xs)
all-filter P p [] all = tt
all-filter {X} P p (x ∷ xs) all = at (p x) (all-filter P p xs all.1)
  where
    at : (b : Bool) → AllByRecursion P (filter p xs) → AllByRecursion P (cond b (x ∷ filter p xs) (filter p xs))
    at true rest = (all.0, rest)
    at false rest = rest

all-content : (P : Kept (List ℕ) → Type 0) (x : Events) → AllByRecursion P (enqueues x) → AllByRecursion P (content x)
all-content P x all = each-by_time P (filter (λ k. not (is_taken x k.time)) (enqueues x)) (all-filter P (λ k. not (is_taken x k.time)) (enqueues x) all)

enqueued-known : (o : QueueOp) (t : Time) (ks : Texts) → IsTime t → IsOp o → AllByRecursion IsKnown ks → AllByRecursion IsKnown (add_enqueue t o ks)
enqueued-known (Enqueue payload) t ks time known all = ((time, known), all)
enqueued-known Dequeue t ks time known all = all

enqueues-known : (x : Events) → IsWellFormed IsOp IsReply x → AllByRecursion IsKnown (enqueues x)
enqueues-known [] w = tt
enqueues-known (e ∷ x) w = enqueued-known e.operation e.time (enqueues x) w.0.time w.0.operation (enqueues-known x w.1)

pub content-known : (x : Events) → IsWellFormed IsOp IsReply x → AllByRecursion IsKnown (content x)
content-known x w = all-content IsKnown x (enqueues-known x w)

all_times : (a : Time → Bool) (ks : Texts) → AllByRecursion (λ (k : Kept (List ℕ)). IsTrue (a k.time)) ks → AllIn a (kept_times ks)
all_times a [] all = λ s m. cc
all_times a (k ∷ ks) all = all_in-cons a k.time (kept_times ks) all.0 (all_times a ks all.1)

enqueued-within : (a : Time → Bool) (o : QueueOp) (t : Time) (ks : Texts) → IsTrue (a t) → AllByRecursion (λ (k : Kept (List ℕ)). IsTrue (a k.time)) ks → AllByRecursion (λ (k : Kept (List ℕ)). IsTrue (a k.time)) (add_enqueue t o ks)
enqueued-within a (Enqueue payload) t ks here all = (here, all)
enqueued-within a Dequeue t ks here all = all

enqueues-within : (a : Time → Bool) (x : Events) → AllIn a (times_of x) → AllByRecursion (λ (k : Kept (List ℕ)). IsTrue (a k.time)) (enqueues x)
enqueues-within a [] all = tt
enqueues-within a (e ∷ x) all = enqueued-within a e.operation e.time (enqueues x) (all e.time (among-head e.time (times_of x))) (enqueues-within a x (λ s m. all s (among-tail e.time s (times_of x) m)))

-- the content is before what comes next
pub content-before : (x : Events) (t : Time) → IsAfter x t → AllBefore (kept_times (content x)) t
content-before x t after = all_times (λ s. is_earlier s t) (content x) (all-content (λ k. IsTrue (is_earlier k.time t)) x (enqueues-within (λ s. is_earlier s t) x after))

place-last : (k : Kept (List ℕ)) (ks : Texts) → AllBefore (kept_times ks) k.time → place k ks ≡ ks ++ k ∷ []
place-last k [] before = refl
place-last k (j ∷ ks) before =
    ap (λ b. cond b (j ∷ place k ks) (k ∷ cond (same_time j.time k.time) ks (j ∷ ks))) (before j.time (among-head j.time (kept_times ks)))
    ∙ ap (λ is. j ∷ is) (place-last k ks (λ s m. before s (among-tail j.time s (kept_times ks) m)))

-- the content behind an enqueue
pub content-enqueue : (x : Events) (t : Time) (payload : List ℕ) → IsWellFormed IsOp IsReply x → IsFaithful queue_reply x → IsAfter x t → content (next_event x t (Enqueue payload) Enqueued ∷ x) ≡ content x ++ record { time = t; payload = payload } ∷ []
content-enqueue x t payload w faithful after =
    let k : Kept (List ℕ) = record { time = t; payload = payload } in
    let rest = filter (λ j. not (is_taken x j.time)) (enqueues x) in
    let new : is_taken x t ≡ false = false_from_ne_true (is_taken x t) (λ h. both_ways (is_earlier t t) (is_earlier-irrefl t) (taken-before x t t w faithful after h)) in
    ap (λ b. by_time (cond (not b) (k ∷ rest) rest)) new ∙ place-last k (content x) (content-before x t after)

-- the content behind a dequeue
pub content-dequeue : (x : Events) (t : Time) (k : Kept (List ℕ)) (ks : Texts) → content x ≡ k ∷ ks → content (next_event x t Dequeue (Took k) ∷ x) ≡ ks
content-dequeue x t k ks is =
    let rising : IsRising (kept_times (k ∷ ks)) = subst (λ js. IsRising (kept_times js)) is (content-rising x) in
    same_entries (content (next_event x t Dequeue (Took k) ∷ x)) ks (content-rising (next_event x t Dequeue (Took k) ∷ x)) rising.1 (λ s.
    payload-content (next_event x t Dequeue (Took k) ∷ x) s ∙ at s rising (same_time s k.time) refl)
  where
    at : (s : Time) → IsRising (kept_times (k ∷ ks)) → (p : Bool) → same_time s k.time ≡ p → cond (not (p || is_taken x s)) (payload_at (enqueues x) s) None ≡ payload_at ks s
    at s rising true same =
        sym (payload-none ks s (ap (among (kept_times ks)) (same_time-eq s k.time same) ∙ later-not k.time (kept_times ks) rising.0))
    at s rising false same = sym (payload-content x s) ∙ ap (λ js. payload_at js s) is ∙ ap (λ b. cond b (Some k.payload) (payload_at ks s)) same

-- the reply to a dequeue, and the content behind it
pub dequeue-applies : (x : Events) (t : Time) (first : Option (Kept (List ℕ))) (new : Texts) → TakesFirst (content x) first new → (reply_to first ≡ queue_reply x Dequeue) × (new ≡ content (next_event x t Dequeue (reply_to first) ∷ x))
dequeue-applies x t None new taken = (ap (λ ks. reply_to (first_of ks)) (sym taken.0), taken.1 ∙ sym taken.0)
dequeue-applies x t (Some k) new taken = (ap (λ ks. reply_to (first_of ks)) (sym taken), sym (content-dequeue x t k new taken))
