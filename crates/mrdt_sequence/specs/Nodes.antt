-- The nodes of executions.
use Rattle.std.proofs.Common.{◌≡◌, ℕ, zero, suc, Bool, true, false, not, cond, ◌&&◌, ◌||◌, Option, None, Some, List, [], ◌∷◌, refl, ◌∙◌, ap, sym, subst, IsTrue, filter, map, take, drop, ⊎_elim}
use Rattle.std.specs.List.{AllByRecursion}
use Rattle.std.proofs.lemmas.Bool.{and_parts, or_cases, or_left, or_right, both_ways, false_from_ne_true}
use Rattle.mrdt_model.specs.declared.time.Time.{Time}
use Rattle.mrdt_model.specs.Times.{either, same_time, is_earlier, among}
use Rattle.mrdt_model.specs.Executions.{Event, times_of, restrict, AllIn, IsClosed, IsWellFormed, IsFaithful, IsAfter, next_event}
use Rattle.mrdt_model.proofs.TimeSets.{same_time-eq, same_time-refl, among-restrict}
use Rattle.mrdt_model.proofs.Executions.{is_earlier-irrefl, closed_either}
use Rattle.live_set.specs.declared.kept.Kept.{Kept}
use Rattle.mrdt_sequence.specs.declared.node.Node.{Node}
use Rattle.mrdt_sequence.specs.declared.op.SequenceOp.{SequenceOp}
use Rattle.mrdt_sequence.specs.declared.op.SequenceOp.TheVariants.{Insert, Delete}
use Rattle.mrdt_sequence.specs.Order.{settle, settle_behind, insert_behind, IsOrdered, woven}
use Rattle.mrdt_sequence.specs.Sequence.{IsOp, IsReply, new_node, add_insert, order, deletes, is_deleted, marked, nodes, hide_at, nodes_behind, item_of, items_of, first_time, last_time, reply_at, sequence_reply}
use Rattle.mrdt_sequence.specs.Ordered.{OnParent, HoldsParents, nodes_in, nodes_in-insert, dropped-insert, ordered-insert, holds-insert, mark, woven-parts}

abbrev Events : Type 0
Events = List (Event SequenceOp (Option Time))

-- all nodes pass a test of their times
abbrev pub AllAt : (Time → Bool) → List Node → Type 0
AllAt p ns = AllByRecursion (λ n. IsTrue (p n.time)) ns

abbrev AllItemsAt : (Time → Bool) → List (Kept (List ℕ)) → Type 0
AllItemsAt p ks = AllByRecursion (λ k. IsTrue (p k.time)) ks

all-settle : (p : Time → Bool) (n : Node) (ns : List Node) → IsTrue (p n.time) → AllAt p ns → AllAt p (settle n ns)
all-settle p n [] here all = (here, tt)
all-settle p n (m ∷ ns) here all = at (is_earlier n.time m.time) (all-settle p n ns here all.1)
  where
    at : (b : Bool) → AllAt p (settle n ns) → AllAt p (cond b (m ∷ settle n ns) (n ∷ m ∷ ns))
    at true ih = (all.0, ih)
    at false ih = (here, all)

all-behind : (p : Time → Bool) (q : Time) (n : Node) (ns : List Node) → IsTrue (p n.time) → AllAt p ns → AllAt p (settle_behind q n ns)
all-behind p q n [] here all = tt
all-behind p q n (m ∷ ns) here all = at (same_time q m.time) (all-behind p q n ns here all.1)
  where
    at : (b : Bool) → AllAt p (settle_behind q n ns) → AllAt p (cond b (m ∷ settle n ns) (m ∷ settle_behind q n ns))
    at true ih = (all.0, all-settle p n ns here all.1)
    at false ih = (all.0, ih)

all-add : (p : Time → Bool) (t : Time) (o : SequenceOp) (r : Option Time) (ns : List Node) → IsTrue (p t) → AllAt p ns → AllAt p (add_insert t o r ns)
all-add p t (Insert place payload) None ns here all = all-settle p (new_node t None payload) ns here all
all-add p t (Insert place payload) (Some q) ns here all = all-behind p q (new_node t (Some q) payload) ns here all
all-add p t (Delete place) r ns here all = all

-- the nodes are at times of the execution
pub all-order : (p : Time → Bool) (x : Events) → AllIn p (times_of x) → AllAt p (order x)
all-order p [] all = tt
all-order p (e ∷ x) all =
    all-add p e.time e.operation e.reply (order x) (all e.time (or_left (same_time e.time e.time) (among (times_of x) e.time) (same_time-refl e.time)))
    (all-order p x (λ t m. all t (or_right (same_time t e.time) (among (times_of x) t) m)))

pub all-marked : (p d : Time → Bool) (ns : List Node) → AllAt p ns → AllAt p (map (mark d) ns)
all-marked p d [] all = tt
all-marked p d (n ∷ ns) all = (all.0, all-marked p d ns all.1)

all-items : (p : Time → Bool) (ns : List Node) → AllAt p ns → AllItemsAt p (items_of ns)
all-items p [] all = tt
all-items p (n ∷ ns) all = at n.hidden (all-items p ns all.1)
  where
    at : (b : Bool) → AllItemsAt p (items_of ns) → AllItemsAt p (map item_of (cond (not b) (n ∷ filter (λ m. not m.hidden) ns) (filter (λ m. not m.hidden) ns)))
    at true ih = ih
    at false ih = (all.0, ih)

last-of : (p : Time → Bool) (t : Option Time) (i : ℕ) (ks : List (Kept (List ℕ))) → OnParent p t → AllItemsAt p ks → OnParent p (last_time t (take i ks))
last-of p t zero ks own all = own
last-of p t (suc i) [] own all = own
last-of p t (suc i) (k ∷ ks) own all = last-of p (Some k.time) i ks all.0 all.1

first-of : (p : Time → Bool) (i : ℕ) (ks : List (Kept (List ℕ))) → AllItemsAt p ks → OnParent p (first_time (drop i ks))
first-of p zero [] all = tt
first-of p zero (k ∷ ks) all = all.0
first-of p (suc i) [] all = tt
first-of p (suc i) (k ∷ ks) all = first-of p i ks all.1

pub reply-of : (p : Time → Bool) (ns : List Node) (o : SequenceOp) → AllAt p ns → OnParent p (reply_at ns o)
reply-of p ns (Insert place payload) all = last-of p None place (items_of ns) tt (all-items p ns all)
reply-of p ns (Delete place) all = first-of p place (items_of ns) (all-items p ns all)

-- a reply names a time of the events seen
pub reply-within : (p : Time → Bool) (x : Events) (o : SequenceOp) → AllIn p (times_of x) → OnParent p (sequence_reply x o)
reply-within p x o all = reply-of p (nodes x) o (all-marked p (is_deleted x) (order x) (all-order p x all))

pub parent-within : (a b : Time → Bool) (o : Option Time) → ((t : Time) → IsTrue (a t) → IsTrue (b t)) → OnParent a o → OnParent b o
parent-within a b None sub h = tt
parent-within a b (Some p) sub h = sub p h

pub reply-seen : (e : Event SequenceOp (Option Time)) (x : Events) → e.reply ≡ sequence_reply (restrict (among e.seen) x) e.operation → OnParent (among e.seen) e.reply
reply-seen e x is =
    subst (OnParent (among e.seen)) (sym is) (reply-within (among e.seen) (restrict (among e.seen) x) e.operation (λ t m.
    (and_parts (among e.seen t) (among (times_of x) t) (sym (among-restrict (among e.seen) x t) ∙ m)).0))

holds-add : (a : Time → Bool) (t : Time) (o : SequenceOp) (r : Option Time) (ns : List Node) → (IsTrue (a t) → OnParent a r) → HoldsParents a ns → HoldsParents a (add_insert t o r ns)
holds-add a t (Insert place payload) r ns here h = holds-insert a r (new_node t r payload) ns here h
holds-add a t (Delete place) r ns here h = h

-- a closed set holds the parents of the nodes in it
pub order-holds : (a : Time → Bool) (x : Events) → IsFaithful sequence_reply x → IsClosed a x → HoldsParents a (order x)
order-holds a [] faithful closed = tt
order-holds a (e ∷ x) faithful closed =
    holds-add a e.time e.operation e.reply (order x) (λ is. parent-within (among e.seen) a e.reply (closed.0 is) (reply-seen e x faithful.0)) (order-holds a x faithful.1 closed.1)

ordered-add : (t : Time) (o : SequenceOp) (r : Option Time) (ns : List Node) → OnParent (λ s. is_earlier s t) r → IsOrdered ns → IsOrdered (add_insert t o r ns)
ordered-add t (Insert place payload) r ns earlier o = ordered-insert r (new_node t r payload) ns refl earlier o
ordered-add t (Delete place) r ns earlier o = o

-- each node's parent is the nearest earlier one before it
pub order-ordered : (x : Events) → IsWellFormed IsOp IsReply x → IsFaithful sequence_reply x → IsOrdered (order x)
order-ordered [] w faithful = tt
order-ordered (e ∷ x) w faithful =
    ordered-add e.time e.operation e.reply (order x) (parent-within (among e.seen) (λ s. is_earlier s e.time) e.reply w.0.later (reply-seen e x faithful.0)) (order-ordered x w.1 faithful.1)

nodes_in-add : (a : Time → Bool) (t : Time) (o : SequenceOp) (r : Option Time) (ns : List Node) → a t ≡ true → OnParent a r → IsOrdered ns → HoldsParents a ns → nodes_in a (add_insert t o r ns) ≡ add_insert t o r (nodes_in a ns)
nodes_in-add a t (Insert place payload) r ns is has o h = nodes_in-insert a r (new_node t r payload) ns is has o h
nodes_in-add a t (Delete place) r ns is has o h = refl

dropped-add : (a : Time → Bool) (t : Time) (o : SequenceOp) (r : Option Time) (ns : List Node) → a t ≡ false → nodes_in a (add_insert t o r ns) ≡ nodes_in a ns
dropped-add a t (Insert place payload) r ns out = dropped-insert a r (new_node t r payload) ns out
dropped-add a t (Delete place) r ns out = refl

-- the nodes in a closed set of times, in the order of all
pub order-restrict : (a : Time → Bool) (x : Events) → IsWellFormed IsOp IsReply x → IsFaithful sequence_reply x → IsClosed a x → order (restrict a x) ≡ nodes_in a (order x)
order-restrict a [] w faithful closed = refl
order-restrict a (e ∷ x) w faithful closed = at (a e.time) refl (order-restrict a x w.1 faithful.1 closed.1)
  where
    at : (b : Bool) → a e.time ≡ b → order (restrict a x) ≡ nodes_in a (order x) → order (cond b (e ∷ restrict a x) (restrict a x)) ≡ nodes_in a (add_insert e.time e.operation e.reply (order x))
    at true is ih =
        ap (add_insert e.time e.operation e.reply) ih
        ∙ sym (nodes_in-add a e.time e.operation e.reply (order x) is (parent-within (among e.seen) a e.reply (closed.0 is) (reply-seen e x faithful.0)) (order-ordered x w.1 faithful.1) (order-holds a x faithful.1 closed.1))
    at false is ih = ih ∙ sym (dropped-add a e.time e.operation e.reply (order x) is)

deleted_step : (p : Bool) (e : Event SequenceOp (Option Time)) (y : Events) (t : Time) → is_deleted (cond p (e ∷ y) y) t ≡ ((p && deletes e.operation e.reply t) || is_deleted y t)
deleted_step true e y t = refl
deleted_step false e y t = refl

-- what either of two sets has deleted
deleted-either : (a b : Time → Bool) (x : Events) (t : Time) → is_deleted (restrict (either a b) x) t ≡ (is_deleted (restrict a x) t || is_deleted (restrict b x) t)
deleted-either a b [] t = refl
deleted-either a b (e ∷ x) t =
    deleted_step (a e.time || b e.time) e (restrict (either a b) x) t
    ∙ ap (λ n. ((a e.time || b e.time) && deletes e.operation e.reply t) || n) (deleted-either a b x t)
    ∙ split (a e.time) (b e.time) (deletes e.operation e.reply t) (is_deleted (restrict a x) t) (is_deleted (restrict b x) t)
    ∙ ap (λ n. n || ((b e.time && deletes e.operation e.reply t) || is_deleted (restrict b x) t)) (sym (deleted_step (a e.time) e (restrict a x) t))
    ∙ ap (λ n. is_deleted (restrict a (e ∷ x)) t || n) (sym (deleted_step (b e.time) e (restrict b x) t))
  where
    split : (p q n l r : Bool) → (((p || q) && n) || (l || r)) ≡ (((p && n) || l) || ((q && n) || r))
    split true q true l r = refl
    split true true false l r = refl
    split true false false l r = refl
    split false true true true r = refl
    split false true true false r = refl
    split false true false l r = refl
    split false false n l r = refl

deletes-within : (p : Time → Bool) (o : SequenceOp) (r : Option Time) (t : Time) → OnParent p r → deletes o r t ≡ true → p t ≡ true
deletes-within p (Insert place payload) r t h is = cc
deletes-within p (Delete place) None t h is = cc
deletes-within p (Delete place) (Some s) t h is = ap p (same_time-eq t s is) ∙ h

-- what a closed set has deleted is in the set
deleted-inside : (a : Time → Bool) (x : Events) (t : Time) → IsFaithful sequence_reply x → IsClosed a x → is_deleted (restrict a x) t ≡ true → a t ≡ true
deleted-inside a [] t faithful closed h = cc
deleted-inside a (e ∷ x) t faithful closed h =
    ⊎_elim (λ here. let both_are = and_parts (a e.time) (deletes e.operation e.reply t) here in deletes-within a e.operation e.reply t (parent-within (among e.seen) a e.reply (closed.0 both_are.0) (reply-seen e x faithful.0)) both_are.1)
    (λ there. deleted-inside a x t faithful.1 closed.1 there)
    (or_cases (a e.time && deletes e.operation e.reply t) (is_deleted (restrict a x) t) (sym (deleted_step (a e.time) e (restrict a x) t) ∙ h))

deleted-outside : (a : Time → Bool) (x : Events) (t : Time) → IsFaithful sequence_reply x → IsClosed a x → a t ≡ false → is_deleted (restrict a x) t ≡ false
deleted-outside a x t faithful closed out = false_from_ne_true (is_deleted (restrict a x) t) (λ h. both_ways (a t) out (deleted-inside a x t faithful closed h))

pub marked-agree : (c d : Time → Bool) (ns : List Node) → ((t : Time) → c t ≡ d t) → map (mark c) ns ≡ map (mark d) ns
marked-agree c d [] h = refl
marked-agree c d (n ∷ ns) h = ap (λ b. marked b n ∷ map (mark c) ns) (h n.time) ∙ ap (λ ms. mark d n ∷ ms) (marked-agree c d ns h)

nodes-restrict : (a : Time → Bool) (x : Events) → IsWellFormed IsOp IsReply x → IsFaithful sequence_reply x → IsClosed a x → nodes (restrict a x) ≡ map (mark (is_deleted (restrict a x))) (nodes_in a (order x))
nodes-restrict a x w faithful closed = ap (map (mark (is_deleted (restrict a x)))) (order-restrict a x w faithful closed)

-- the nodes of two closed sets, woven
pub nodes-woven : (x : Events) (a b : Time → Bool) → IsWellFormed IsOp IsReply x → IsFaithful sequence_reply x → IsClosed a x → IsClosed b x → woven (nodes (restrict a x)) (nodes (restrict b x)) ≡ nodes (restrict (either a b) x)
nodes-woven x a b w faithful in_a in_b =
    let c = is_deleted (restrict a x) in
    let d = is_deleted (restrict b x) in
    ap (λ ls. woven ls (nodes (restrict b x))) (nodes-restrict a x w faithful in_a)
    ∙ ap (λ rs. woven (map (mark c) (nodes_in a (order x))) rs) (nodes-restrict b x w faithful in_b)
    ∙ woven-parts a b c d [] (order x) (order-ordered x w faithful) (order-holds a x faithful in_a) (order-holds b x faithful in_b) (λ t out. deleted-outside a x t faithful in_a out) (λ t out. deleted-outside b x t faithful in_b out)
    ∙ marked-agree (either c d) (is_deleted (restrict (either a b) x)) (nodes_in (either a b) (order x)) (λ t. sym (deleted-either a b x t))
    ∙ sym (nodes-restrict (either a b) x w faithful (closed_either a b x in_a in_b))

marked-settle : (d : Time → Bool) (n : Node) (ns : List Node) → map (mark d) (settle n ns) ≡ settle (mark d n) (map (mark d) ns)
marked-settle d n [] = refl
marked-settle d n (m ∷ ns) = at (is_earlier n.time m.time) (marked-settle d n ns)
  where
    at : (b : Bool) → map (mark d) (settle n ns) ≡ settle (mark d n) (map (mark d) ns) → map (mark d) (cond b (m ∷ settle n ns) (n ∷ m ∷ ns)) ≡ cond b (mark d m ∷ settle (mark d n) (map (mark d) ns)) (mark d n ∷ mark d m ∷ map (mark d) ns)
    at true ih = ap (λ ms. mark d m ∷ ms) ih
    at false ih = refl

marked-behind : (d : Time → Bool) (p : Time) (n : Node) (ns : List Node) → map (mark d) (settle_behind p n ns) ≡ settle_behind p (mark d n) (map (mark d) ns)
marked-behind d p n [] = refl
marked-behind d p n (m ∷ ns) = at (same_time p m.time) (marked-behind d p n ns)
  where
    at : (b : Bool) → map (mark d) (settle_behind p n ns) ≡ settle_behind p (mark d n) (map (mark d) ns)
        → map (mark d) (cond b (m ∷ settle n ns) (m ∷ settle_behind p n ns)) ≡ cond b (mark d m ∷ settle (mark d n) (map (mark d) ns)) (mark d m ∷ settle_behind p (mark d n) (map (mark d) ns))
    at true ih = ap (λ ms. mark d m ∷ ms) (marked-settle d n ns)
    at false ih = ap (λ ms. mark d m ∷ ms) ih

marked-insert : (d : Time → Bool) (o : Option Time) (n : Node) (ns : List Node) → map (mark d) (insert_behind o n ns) ≡ insert_behind o (mark d n) (map (mark d) ns)
marked-insert d None n ns = marked-settle d n ns
marked-insert d (Some p) n ns = marked-behind d p n ns

-- all that was deleted is at a time of the execution
deleted-known : (p : Time → Bool) (x : Events) (t : Time) → IsWellFormed IsOp IsReply x → IsFaithful sequence_reply x → AllIn p (times_of x) → is_deleted x t ≡ true → p t ≡ true
deleted-known p [] t w faithful all h = cc
deleted-known p (e ∷ x) t w faithful all h =
    let rest : AllIn p (times_of x) = λ s m. all s (or_right (same_time s e.time) (among (times_of x) s) m) in
    ⊎_elim (λ here. deletes-within p e.operation e.reply t (parent-within (among e.seen) p e.reply (λ s m. rest s (w.0.after s m)) (reply-seen e x faithful.0)) here) (λ there. deleted-known p x t w.1 faithful.1 rest there)
    (or_cases (deletes e.operation e.reply t) (is_deleted x t) h)

hidden-at : (d : Time → Bool) (t : Time) (ns : List Node) → map (mark (λ s. same_time s t || d s)) ns ≡ hide_at (Some t) (map (mark d) ns)
hidden-at d t [] = refl
hidden-at d t (n ∷ ns) = ap (λ m. m ∷ map (mark (λ s. same_time s t || d s)) ns) (at (same_time n.time t) (d n.time)) ∙ ap (λ ms. cond (same_time n.time t) (marked true (mark d n)) (mark d n) ∷ ms) (hidden-at d t ns)
  where
    at : (b c : Bool) → marked (b || c) n ≡ cond b (marked true (marked c n)) (marked c n)
    at true c = refl
    at false c = refl

-- the nodes with one more operation, which has seen all
pub nodes-next : (x : Events) (t : Time) (o : SequenceOp) (r : Option Time) → IsWellFormed IsOp IsReply x → IsFaithful sequence_reply x → IsAfter x t → nodes (next_event x t o r ∷ x) ≡ nodes_behind t o r (nodes x)
nodes-next x t (Insert place payload) r w faithful after =
    let untouched : is_deleted x t ≡ false = false_from_ne_true (is_deleted x t) (λ h. both_ways (is_earlier t t) (is_earlier-irrefl t) (deleted-known (λ s. is_earlier s t) x t w faithful after h)) in
    marked-insert (is_deleted x) r (new_node t r payload) (order x)
    ∙ ap (λ b. insert_behind r (marked b (new_node t r payload)) (nodes x)) untouched
nodes-next x t (Delete place) None w faithful after = refl
nodes-next x t (Delete place) (Some s) w faithful after = hidden-at (is_deleted x) s (order x)
