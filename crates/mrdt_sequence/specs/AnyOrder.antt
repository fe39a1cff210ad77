-- Executions of the same events in any order.
use Rattle.std.proofs.Common.{◌≡◌, Bool, true, false, cond, ◌||◌, Option, None, Some, List, [], ◌∷◌, refl, ◌∙◌, ap, sym, subst, IsTrue, map, ⊎_elim}
use Rattle.std.proofs.lemmas.Bool.{both_ways, false_from_ne_true, or_cases, or_left, or_right}
use Rattle.mrdt_model.specs.declared.time.Time.{Time}
use Rattle.mrdt_model.specs.Times.{same_time, is_earlier, among}
use Rattle.mrdt_model.specs.Executions.{Event, restrict, IsWellFormed, IsFaithful, event_at, AreSameEvent, HoldSameEvents}
use Rattle.mrdt_model.specs.Laws.{ShowTheSame}
use Rattle.mrdt_model.proofs.SameEvents.{own-times, any-alike}
use Rattle.mrdt_model.proofs.TimeSets.{same_time-eq, same_time-refl}
use Rattle.mrdt_model.proofs.Executions.{is_earlier-irrefl}
use Rattle.live_set.proofs.Order.{earlier-neither}
use Rattle.mrdt_sequence.specs.declared.node.Node.{Node}
use Rattle.mrdt_sequence.specs.declared.op.SequenceOp.{SequenceOp}
use Rattle.mrdt_sequence.specs.declared.op.SequenceOp.TheVariants.{Insert, Delete}
use Rattle.mrdt_sequence.specs.Order.{settle, settle_behind, insert_behind, nearest_earlier, IsOrderedBehind, AreDifferent}
use Rattle.mrdt_sequence.specs.Sequence.{IsOp, IsReply, new_node, add_insert, order, deletes, is_deleted, nodes, reply_at, sequence_reply, answer_at, sequence_spelling, node_times, sequence_meaning}
use Rattle.mrdt_sequence.specs.Ordered.{OnParent, nodes_in, mark, Blocked, blocked-here, blocked-behind}
use Rattle.mrdt_sequence.specs.Nodes.{AllAt, reply-of, all-marked, parent-within, order-ordered, order-restrict, marked-agree}
use Rattle.mrdt_sequence.specs.InGrammar.{order-absent, order-different}

abbrev Events : Type 0
Events = List (Event SequenceOp (Option Time))

abbrev node_at : Time → List Node → Option Node
node_at t [] = None
node_at t (n ∷ ns) = cond (same_time t n.time) (Some n) (node_at t ns)

none-at : (t : Time) (ns : List Node) → among (node_times ns) t ≡ false → node_at t ns ≡ None
none-at t [] out = refl
none-at t (n ∷ ns) out = at (same_time t n.time) refl (none-at t ns)
  where
    at : (b : Bool) → same_time t n.time ≡ b → (among (node_times ns) t ≡ false → node_at t ns ≡ None) → cond b (Some n) (node_at t ns) ≡ None
    at true is ih = absurd (both_ways (same_time t n.time || among (node_times ns) t) out (or_left (same_time t n.time) (among (node_times ns) t) is))
    at false is ih = ih (ap (λ b. b || among (node_times ns) t) (sym is) ∙ out)

-- the nodes with one more, at each time
at-settle : (t : Time) (n : Node) (ns : List Node) → node_at n.time ns ≡ None → node_at t (settle n ns) ≡ cond (same_time t n.time) (Some n) (node_at t ns)
at-settle t n [] new = refl
at-settle t n (m ∷ ns) new = at (is_earlier n.time m.time) (same_time n.time m.time) refl (at-settle t n ns) new
  where
    passed : (b c : Bool) → same_time t m.time ≡ b → same_time t n.time ≡ c → same_time n.time m.time ≡ false → cond b (Some m) (cond c (Some n) (node_at t ns)) ≡ cond c (Some n) (cond b (Some m) (node_at t ns))
    passed true true i j other = absurd (both_ways (same_time n.time m.time) other (subst (λ u. same_time u m.time ≡ true) (same_time-eq t n.time j) i))
    passed true false i j other = refl
    passed false true i j other = refl
    passed false false i j other = refl

    at : (b c : Bool) → same_time n.time m.time ≡ c → (node_at n.time ns ≡ None → node_at t (settle n ns) ≡ cond (same_time t n.time) (Some n) (node_at t ns)) → cond c (Some m) (node_at n.time ns) ≡ None
        → node_at t (cond b (m ∷ settle n ns) (n ∷ m ∷ ns)) ≡ cond (same_time t n.time) (Some n) (cond (same_time t m.time) (Some m) (node_at t ns))
    at b true is ih none = cc
    at true false is ih none = ap (λ o. cond (same_time t m.time) (Some m) o) (ih none) ∙ passed (same_time t m.time) (same_time t n.time) refl refl is
    at false false is ih none = refl

at-behind : (t p : Time) (n : Node) (ns : List Node) → node_at n.time ns ≡ None → among (node_times ns) p ≡ true → node_at t (settle_behind p n ns) ≡ cond (same_time t n.time) (Some n) (node_at t ns)
at-behind t p n [] new has = cc
at-behind t p n (m ∷ ns) new has = at (same_time p m.time) (same_time n.time m.time) refl (at-behind t p n ns) (at-settle t n ns) new has
  where
    passed : (b c : Bool) → same_time t m.time ≡ b → same_time t n.time ≡ c → same_time n.time m.time ≡ false → cond b (Some m) (cond c (Some n) (node_at t ns)) ≡ cond c (Some n) (cond b (Some m) (node_at t ns))
    passed true true i j other = absurd (both_ways (same_time n.time m.time) other (subst (λ u. same_time u m.time ≡ true) (same_time-eq t n.time j) i))
    passed true false i j other = refl
    passed false true i j other = refl
    passed false false i j other = refl

    at : (b c : Bool) → same_time n.time m.time ≡ c → (node_at n.time ns ≡ None → among (node_times ns) p ≡ true → node_at t (settle_behind p n ns) ≡ cond (same_time t n.time) (Some n) (node_at t ns))
        → (node_at n.time ns ≡ None → node_at t (settle n ns) ≡ cond (same_time t n.time) (Some n) (node_at t ns)) → cond c (Some m) (node_at n.time ns) ≡ None → (b || among (node_times ns) p) ≡ true
        → node_at t (cond b (m ∷ settle n ns) (m ∷ settle_behind p n ns)) ≡ cond (same_time t n.time) (Some n) (cond (same_time t m.time) (Some m) (node_at t ns))
    at b true is ih js none some = cc
    at true false is ih js none some = ap (λ o. cond (same_time t m.time) (Some m) o) (js none) ∙ passed (same_time t m.time) (same_time t n.time) refl refl is
    at false false is ih js none some = ap (λ o. cond (same_time t m.time) (Some m) o) (ih none some) ∙ passed (same_time t m.time) (same_time t n.time) refl refl is

at-insert : (t : Time) (o : Option Time) (n : Node) (ns : List Node) → node_at n.time ns ≡ None → OnParent (among (node_times ns)) o → node_at t (insert_behind o n ns) ≡ cond (same_time t n.time) (Some n) (node_at t ns)
at-insert t None n ns new has = at-settle t n ns new
at-insert t (Some p) n ns new has = at-behind t p n ns new has

own-node_times : (ns : List Node) → AllAt (among (node_times ns)) ns
own-node_times ns = each ns (among (node_times ns)) (λ t m. m)
  where
    each : (ms : List Node) (p : Time → Bool) → ((t : Time) → IsTrue (among (node_times ms) t) → IsTrue (p t)) → AllAt p ms
    each [] p h = tt
    each (m ∷ ms) p h = (h m.time (or_left (same_time m.time m.time) (among (node_times ms) m.time) (same_time-refl m.time)), each ms p (λ t i. h t (or_right (same_time t m.time) (among (node_times ms) t) i)))

nodes_in-among : (a : Time → Bool) (ns : List Node) (t : Time) → IsTrue (among (node_times (nodes_in a ns)) t) → IsTrue (among (node_times ns) t)
nodes_in-among a [] t h = h
nodes_in-among a (n ∷ ns) t h = at (a n.time) (nodes_in-among a ns t) h
  where
    at : (b : Bool) → (IsTrue (among (node_times (nodes_in a ns)) t) → IsTrue (among (node_times ns) t)) → IsTrue (among (node_times (cond b (n ∷ nodes_in a ns) (nodes_in a ns))) t) → IsTrue (among (node_times (n ∷ ns)) t)
    at true ih m = ⊎_elim (λ s. or_left (same_time t n.time) (among (node_times ns) t) s) (λ r. or_right (same_time t n.time) (among (node_times ns) t) (ih r)) (or_cases (same_time t n.time) (among (node_times (nodes_in a ns)) t) m)
    at false ih m = or_right (same_time t n.time) (among (node_times ns) t) (ih m)

-- a reply names a node
parent-there : (e : Event SequenceOp (Option Time)) (x : Events) → IsWellFormed IsOp IsReply (e ∷ x) → IsFaithful sequence_reply (e ∷ x) → OnParent (among (node_times (order x))) e.reply
parent-there e x w faithful =
    let y = restrict (among e.seen) x in
    let named = reply-of (among (node_times (order y))) (nodes y) e.operation (all-marked (among (node_times (order y))) (is_deleted y) (order y) (own-node_times (order y))) in
    parent-within (among (node_times (order y))) (among (node_times (order x))) e.reply
    (λ t m. nodes_in-among (among e.seen) (order x) t (subst (λ ns. IsTrue (among (node_times ns) t)) (order-restrict (among e.seen) x w.1 faithful.1 w.0.past) m))
    (subst (OnParent (among (node_times (order y)))) (sym faithful.0) named)

-- the node that was put at a time
abbrev put_at : Time → SequenceOp → Option Time → Option Node
put_at t (Insert place payload) r = Some (new_node t r payload)
put_at t (Delete place) r = None

abbrev put_by : Option (Event SequenceOp (Option Time)) → Option Node
put_by None = None
put_by (Some e) = put_at e.time e.operation e.reply

at-add : (s : Time) (o : SequenceOp) (r : Option Time) (ns : List Node) (t : Time) → node_at s ns ≡ None → OnParent (among (node_times ns)) r → node_at t (add_insert s o r ns) ≡ cond (same_time t s) (put_at s o r) (node_at t ns)
at-add s (Insert place payload) r ns t new has = at-insert t r (new_node s r payload) ns new has
at-add s (Delete place) r ns t new has = at (same_time t s) refl
  where
    at : (b : Bool) → same_time t s ≡ b → node_at t ns ≡ cond b None (node_at t ns)
    at true is = subst (λ u. node_at u ns ≡ None) (sym (same_time-eq t s is)) new
    at false is = refl

-- the node at a time is the one that the event at that time put
node-event : (x : Events) (t : Time) → IsWellFormed IsOp IsReply x → IsFaithful sequence_reply x → node_at t (order x) ≡ put_by (event_at x t)
node-event [] t w faithful = refl
node-event (e ∷ x) t w faithful =
    at-add e.time e.operation e.reply (order x) t (none-at e.time (order x) (order-absent x e.time w.0.new)) (parent-there e x w faithful)
    ∙ at (same_time t e.time) (node-event x t w.1 faithful.1)
  where
    at : (b : Bool) → node_at t (order x) ≡ put_by (event_at x t) → cond b (put_at e.time e.operation e.reply) (node_at t (order x)) ≡ put_by (cond b (Some e) (event_at x t))
    at true rest = refl
    at false rest = rest

same_put : (o p : Option (Event SequenceOp (Option Time))) → AreSameEvent o p → put_by o ≡ put_by p
same_put None None same = refl
same_put None (Some f) same = absurd same
same_put (Some e) None same = absurd same
same_put (Some e) (Some f) same = ap (λ t. put_at t e.operation e.reply) same.time ∙ ap (λ o. put_at f.time o e.reply) same.operation ∙ ap (put_at f.time f.operation) same.reply

-- lists in order with the same nodes are the same
abbrev Fresh : List Time → List Node → Type 0
Fresh before ns = (t : Time) → among before t ≡ true → node_at t ns ≡ None

abbrev Once : List Node → Type 0
Once [] = Unit {0}
Once (n ∷ ns) = (node_at n.time ns ≡ None) × Once ns

nearest-among : (t : Time) (before : List Time) (q : Time) → nearest_earlier t before ≡ Some q → among before q ≡ true
nearest-among t [] q is = cc
nearest-among t (s ∷ before) q is = at (is_earlier s t) is (nearest-among t before q)
  where
    same : Some s ≡ Some q → same_time q s ≡ true
    same h = let e : s ≡ q = cc in subst (λ u. same_time q u ≡ true) (sym e) (same_time-refl q)

    at : (b : Bool) → cond b (Some s) (nearest_earlier t before) ≡ Some q → (nearest_earlier t before ≡ Some q → among before q ≡ true) → (same_time q s || among before q) ≡ true
    at true h ih = or_left (same_time q s) (among before q) (same h)
    at false h ih = or_right (same_time q s) (among before q) (ih h)

-- behind an older node there is none whose parent stands before that one
crossed : (a : Time → Bool) (v : Time) (u : Node) (before : List Time) (ns : List Node) → is_earlier v u.time ≡ true → Blocked a v before → ((t : Time) → a t ≡ true → node_at t ns ≡ None)
    → ((q : Time) → u.parent ≡ Some q → a q ≡ true) → IsOrderedBehind before ns → node_at u.time ns ≡ Some u → ⊥
crossed a v u before [] older blocked fresh parent o is = cc
crossed a v u before (n ∷ ns) older blocked fresh parent o is = at (same_time u.time n.time) refl is (λ b f. crossed a v u (n.time ∷ before) ns older b f parent o.1)
  where
    found : u ≡ n → ⊥
    found same =
        let r = blocked u.time older in
        let own : u.parent ≡ Some r.0 = ap (λ m. m.parent) same ∙ o.0 ∙ ap (λ t. nearest_earlier t before) (sym (ap (λ m. m.time) same)) ∙ r.1 in
        both_ways (a r.0) r.2 (parent r.0 own)

    here : a n.time ≡ false
    here = false_from_ne_true (a n.time) (λ h. let none : cond (same_time n.time n.time) (Some n) (node_at n.time ns) ≡ None = fresh n.time h in let some : Some n ≡ None = sym (ap (λ b. cond b (Some n) (node_at n.time ns)) (same_time-refl n.time)) ∙ none in cc)

    tail : (t : Time) → a t ≡ true → node_at t ns ≡ None
    tail t h = split (same_time t n.time) (fresh t h)
      where
        split : (b : Bool) → cond b (Some n) (node_at t ns) ≡ None → node_at t ns ≡ None
        split true k = cc
        split false k = k

    at : (b : Bool) → same_time u.time n.time ≡ b → cond b (Some n) (node_at u.time ns) ≡ Some u → (Blocked a v (n.time ∷ before) → ((t : Time) → a t ≡ true → node_at t ns ≡ None) → node_at u.time ns ≡ Some u → ⊥) → ⊥
    at true i k ih = found cc
    at false i k ih = ih (blocked-behind a v n.time before here blocked) tail k

-- of two lists with the same nodes, the first node of one is not older than that of the other
not_older : (before : List Time) (u v : Node) (us vs : List Node) → IsOrderedBehind before (u ∷ us) → IsOrderedBehind before (v ∷ vs) → Fresh before (v ∷ vs) → node_at u.time (v ∷ vs) ≡ Some u → is_earlier v.time u.time ≡ true → ⊥
not_older before u v us vs o p fresh is older = at (same_time u.time v.time) refl is
  where
    out : among before v.time ≡ false
    out = false_from_ne_true (among before v.time) (λ h. let none : cond (same_time v.time v.time) (Some v) (node_at v.time vs) ≡ None = fresh v.time h in let some : Some v ≡ None = sym (ap (λ b. cond b (Some v) (node_at v.time vs)) (same_time-refl v.time)) ∙ none in cc)

    tail : (t : Time) → among before t ≡ true → node_at t vs ≡ None
    tail t h = split (same_time t v.time) (fresh t h)
      where
        split : (b : Bool) → cond b (Some v) (node_at t vs) ≡ None → node_at t vs ≡ None
        split true k = cc
        split false k = k

    at : (b : Bool) → same_time u.time v.time ≡ b → cond b (Some v) (node_at u.time vs) ≡ Some u → ⊥
    at true i k = both_ways (is_earlier v.time v.time) (is_earlier-irrefl v.time) (subst (λ t. is_earlier v.time t ≡ true) (same_time-eq u.time v.time i) older)
    at false i k = crossed (among before) v.time u (v.time ∷ before) vs older (blocked-here (among before) v.time before out) tail (λ q own. nearest-among u.time before q (sym o.0 ∙ own)) p.1 k

first-at : (n : Node) (ns : List Node) → node_at n.time (n ∷ ns) ≡ Some n
first-at n ns = ap (λ b. cond b (Some n) (node_at n.time ns)) (same_time-refl n.time)

same_order : (before : List Time) (us vs : List Node) → IsOrderedBehind before us → IsOrderedBehind before vs → Fresh before us → Fresh before vs → Once us → Once vs → ((t : Time) → node_at t us ≡ node_at t vs) → us ≡ vs
same_order before [] [] o p f g once twice h = refl
same_order before [] (v ∷ vs) o p f g once twice h = let none : None ≡ Some v = h v.time ∙ first-at v vs in cc
same_order before (u ∷ us) [] o p f g once twice h = let none : Some u ≡ None = sym (first-at u us) ∙ h u.time in cc
same_order before (u ∷ us) (v ∷ vs) o p f g once twice h = at (same_time u.time v.time) (is_earlier v.time u.time) (is_earlier u.time v.time) refl refl refl (λ q r f' g' k. same_order (u.time ∷ before) us vs q r f' g' once.1 twice.1 k)
  where
    same : same_time u.time v.time ≡ true → u ≡ v
    same i = let e : Some u ≡ Some v = sym (first-at u us) ∙ h u.time ∙ ap (λ b. cond b (Some v) (node_at u.time vs)) i in cc

    rest : (n : Node) (ns : List Node) (t : Time) → node_at n.time ns ≡ None → among before t ≡ true → node_at t (n ∷ ns) ≡ None → node_at t ns ≡ None
    rest n ns t new m k = split (same_time t n.time) k
      where
        split : (b : Bool) → cond b (Some n) (node_at t ns) ≡ None → node_at t ns ≡ None
        split true i = cc
        split false i = i

    fresh : (n : Node) (ns : List Node) → node_at n.time ns ≡ None → Fresh before (n ∷ ns) → Fresh (n.time ∷ before) ns
    fresh n ns new k t m = ⊎_elim (λ s. subst (λ w. node_at w ns ≡ None) (sym (same_time-eq t n.time s)) new) (λ b. rest n ns t new b (k t b)) (or_cases (same_time t n.time) (among before t) m)

    tails : same_time u.time v.time ≡ true → (t : Time) → node_at t us ≡ node_at t vs
    tails i t = split (same_time t u.time) refl
      where
        split : (b : Bool) → same_time t u.time ≡ b → node_at t us ≡ node_at t vs
        split true j =
            subst (λ w. node_at w us ≡ None) (sym (same_time-eq t u.time j)) once.0
            ∙ sym (subst (λ w. node_at w vs ≡ None) (sym (same_time-eq t u.time j ∙ same_time-eq u.time v.time i)) twice.0)
        split false j =
            sym (ap (λ b. cond b (Some u) (node_at t us)) j) ∙ h t ∙ ap (λ b. cond b (Some v) (node_at t vs)) (subst (λ w. same_time t w ≡ false) (same_time-eq u.time v.time i) j)

    at : (b c d : Bool) → same_time u.time v.time ≡ b → is_earlier v.time u.time ≡ c → is_earlier u.time v.time ≡ d
        → (IsOrderedBehind (u.time ∷ before) us → IsOrderedBehind (u.time ∷ before) vs → Fresh (u.time ∷ before) us → Fresh (u.time ∷ before) vs → ((t : Time) → node_at t us ≡ node_at t vs) → us ≡ vs) → u ∷ us ≡ v ∷ vs
    at true c d i j k ih =
        let e = sym (same_time-eq u.time v.time i) in
        ap (λ n. n ∷ us) (same i) ∙ ap (λ ns. v ∷ ns) (ih o.1 (subst (λ t. IsOrderedBehind (t ∷ before) vs) e p.1) (fresh u us once.0 f) (subst (λ t. Fresh (t ∷ before) vs) e (fresh v vs twice.0 g)) (tails i))
    at false true d i j k ih = absurd (not_older before u v us vs o p g (sym (h u.time) ∙ first-at u us) j)
    at false false true i j k ih = absurd (not_older before v u vs us p o f (h v.time ∙ first-at v vs) k)
    at false false false i j k ih = absurd (both_ways (same_time u.time v.time) i (earlier-neither u.time v.time k j))

once-from : (ns : List Node) → AreDifferent (node_times ns) → Once ns
once-from [] d = tt
once-from (n ∷ ns) d = (none-at n.time ns d.0, once-from ns d.1)

order-alike : (x y : Events) → IsWellFormed IsOp IsReply x → IsFaithful sequence_reply x → IsWellFormed IsOp IsReply y → IsFaithful sequence_reply y → HoldSameEvents x y → order x ≡ order y
order-alike x y w f v g same =
    same_order [] (order x) (order y) (order-ordered x w f) (order-ordered y v g) (λ t m. cc) (λ t m. cc) (once-from (order x) (order-different x w)) (once-from (order y) (order-different y v))
    (λ t. node-event x t w f ∙ same_put (event_at x t) (event_at y t) (same t) ∙ sym (node-event y t v g))

deleted-alike : (x y : Events) (t : Time) → IsWellFormed IsOp IsReply x → IsWellFormed IsOp IsReply y → HoldSameEvents x y → is_deleted x t ≡ is_deleted y t
deleted-alike x y t w v same =
    any-alike (λ e. deletes e.operation e.reply t) (λ e. deletes e.operation e.reply t) x y (own-times IsOp IsReply x w) (own-times IsOp IsReply y v) same
    (λ e f both. ap (λ o. deletes o e.reply t) both.operation ∙ ap (λ r. deletes f.operation r t) both.reply)

-- executions of the same events have the same nodes
pub nodes-alike : (x y : Events) → IsWellFormed IsOp IsReply x → IsFaithful sequence_reply x → IsWellFormed IsOp IsReply y → IsFaithful sequence_reply y → HoldSameEvents x y → nodes x ≡ nodes y
nodes-alike x y w f v g same = ap (map (mark (is_deleted x))) (order-alike x y w f v g same) ∙ marked-agree (is_deleted x) (is_deleted y) (order y) (λ t. deleted-alike x y t w v same)

pub shows-alike : (x y : Events) → nodes x ≡ nodes y → ShowTheSame sequence_meaning x y
shows-alike x y is = record { replies = λ op. ap (λ ns. reply_at ns op) is; answers = λ query. ap (λ ns. answer_at ns query) is; spellings = ap sequence_spelling is }
