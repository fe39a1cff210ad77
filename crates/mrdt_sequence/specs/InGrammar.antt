-- The nodes of an execution are in the grammar.
use Rattle.std.proofs.Common.{◌≡◌, suc, ◌+◌, ◌<◌, ◌≤◌, ◌^◌, Bool, true, false, not, cond, ◌||◌, Option, None, Some, List, [], ◌∷◌, ◌++◌, length, map, refl, ap, sym, subst, IsTrue, arith, length-append, ⊎_elim}
use Rattle.std.specs.List.{AllByRecursion, flat_map}
use Rattle.std.proofs.lemmas.Bool.{both_ways, false_from_ne_true, or_cases, or_from}
use Rattle.mrdt_model.specs.declared.time.Time.{Time}
use Rattle.mrdt_model.specs.Times.{IsTime, same_time, is_earlier, among}
use Rattle.mrdt_model.specs.Spelled.{IsBytes}
use Rattle.mrdt_model.specs.Executions.{Event, times_of, IsWellFormed, IsFaithful}
use Rattle.mrdt_model.proofs.TimeSets.{same_time-eq, same_time-refl}
use Rattle.branch_wire.specs.Fields.{time_field, field}
use Rattle.branch_wire.proofs.Numbers.{length-field}
use Rattle.branch_wire.proofs.Lists.{length-counted}
use Rattle.mrdt_sequence.specs.declared.node.Node.{Node}
use Rattle.mrdt_sequence.specs.declared.op.SequenceOp.{SequenceOp}
use Rattle.mrdt_sequence.specs.declared.op.SequenceOp.TheVariants.{Insert, Delete}
use Rattle.mrdt_sequence.specs.Order.{settle, settle_behind, insert_behind, IsOrderedBehind, AreDifferent}
use Rattle.mrdt_sequence.specs.Sequence.{IsOp, IsReply, new_node, add_insert, order, is_deleted, marked, nodes, sequence_reply, named_time, hidden_field, node_spelling, sequence_spelling, node_times, NodeFits, AreNodes}
use Rattle.mrdt_sequence.specs.Ordered.{OnParent, mark}
use Rattle.mrdt_sequence.specs.Nodes.{AllAt, all-order, order-ordered}

abbrev Events : Type 0
Events = List (Event SequenceOp (Option Time))

-- the times of an execution lie in their ranges
times-known : (x : Events) (t : Time) → IsWellFormed IsOp IsReply x → IsTrue (among (times_of x) t) → IsTime t
times-known [] t w h = cc
times-known (e ∷ x) t w h = ⊎_elim (λ same. subst IsTime (sym (same_time-eq t e.time same)) w.0.time) (λ m. times-known x t w.1 m) (or_cases (same_time t e.time) (among (times_of x) t) h)

pub known-reply : (x : Events) (o : Option Time) → IsWellFormed IsOp IsReply x → OnParent (among (times_of x)) o → IsReply o
known-reply x None w h = tt
known-reply x (Some t) w h = times-known x t w h

-- lists of nodes, each of a kind
module _ (P : Node → Type 0) where
  each-settle : (n : Node) (ns : List Node) → P n → AllByRecursion P ns → AllByRecursion P (settle n ns)
  each-settle n [] here all = (here, tt)
  each-settle n (m ∷ ns) here all = at (is_earlier n.time m.time) (each-settle n ns here all.1)
    where
      at : (b : Bool) → AllByRecursion P (settle n ns) → AllByRecursion P (cond b (m ∷ settle n ns) (n ∷ m ∷ ns))
      at true ih = (all.0, ih)
      at false ih = (here, all)

  each-behind : (p : Time) (n : Node) (ns : List Node) → P n → AllByRecursion P ns → AllByRecursion P (settle_behind p n ns)
  each-behind p n [] here all = tt
  each-behind p n (m ∷ ns) here all = at (same_time p m.time) (each-behind p n ns here all.1)
    where
      at : (b : Bool) → AllByRecursion P (settle_behind p n ns) → AllByRecursion P (cond b (m ∷ settle n ns) (m ∷ settle_behind p n ns))
      at true ih = (all.0, each-settle n ns here all.1)
      at false ih = (all.0, ih)

  each-insert : (o : Option Time) (n : Node) (ns : List Node) → P n → AllByRecursion P ns → AllByRecursion P (insert_behind o n ns)
  each-insert None n ns here all = each-settle n ns here all
  each-insert (Some p) n ns here all = each-behind p n ns here all

-- the node's numbers and bytes lie in their ranges
abbrev IsKnown : Node → Type 0
IsKnown n = IsTime n.time × IsReply n.parent × IsBytes n.payload

known-add : (t : Time) (o : SequenceOp) (r : Option Time) (ns : List Node) → IsTime t → IsOp o → IsReply r → AllByRecursion IsKnown ns → AllByRecursion IsKnown (add_insert t o r ns)
known-add t (Insert place payload) r ns time op reply all = each-insert IsKnown r (new_node t r payload) ns (time, reply, op.1) all
known-add t (Delete place) r ns time op reply all = all

order-known : (x : Events) → IsWellFormed IsOp IsReply x → AllByRecursion IsKnown (order x)
order-known [] w = tt
order-known (e ∷ x) w = known-add e.time e.operation e.reply (order x) w.0.time w.0.operation w.0.reply (order-known x w.1)

no_byte : IsBytes []
no_byte = λ i. omega arith

marked-known : (d : Time → Bool) (ns : List Node) → AllByRecursion IsKnown ns → AllByRecursion IsKnown (map (mark d) ns)
marked-known d [] all = tt
marked-known d (n ∷ ns) all = (at (d n.time), marked-known d ns all.1)
  where
    at : (b : Bool) → IsKnown (marked b n)
    at true = (all.0.0, all.0.1, no_byte)
    at false = all.0

length-settle : (n : Node) (ns : List Node) → length (settle n ns) ≤ length ns + 1
length-settle n [] = omega arith
length-settle n (m ∷ ns) = at (is_earlier n.time m.time) (length-settle n ns)
  where
    at : (b : Bool) → length (settle n ns) ≤ length ns + 1 → length (cond b (m ∷ settle n ns) (n ∷ m ∷ ns)) ≤ length (m ∷ ns) + 1
    at true h = omega (arith, h)
    at false h = omega arith

length-behind : (p : Time) (n : Node) (ns : List Node) → length (settle_behind p n ns) ≤ length ns + 1
length-behind p n [] = omega arith
length-behind p n (m ∷ ns) = at (same_time p m.time) (length-behind p n ns) (length-settle n ns)
  where
    at : (b : Bool) → length (settle_behind p n ns) ≤ length ns + 1 → length (settle n ns) ≤ length ns + 1 → length (cond b (m ∷ settle n ns) (m ∷ settle_behind p n ns)) ≤ length (m ∷ ns) + 1
    at true h k = omega (arith, k)
    at false h k = omega (arith, h)

length-add : (t : Time) (o : SequenceOp) (r : Option Time) (ns : List Node) → length (add_insert t o r ns) ≤ length ns + 1
length-add t (Insert place payload) None ns = length-settle (new_node t None payload) ns
length-add t (Insert place payload) (Some p) ns = length-behind p (new_node t (Some p) payload) ns
length-add t (Delete place) r ns = omega arith

length-order : (x : Events) → length (order x) ≤ length x
length-order [] = omega arith
length-order (e ∷ x) = let h = length-add e.time e.operation e.reply (order x) in let i = length-order x in omega (arith, h, i)

length-marked : (d : Time → Bool) (ns : List Node) → length (map (mark d) ns) ≡ length ns
length-marked d [] = refl
length-marked d (n ∷ ns) = ap suc (length-marked d ns)

-- all times differ
pub other_time : (s t : Time) → same_time s t ≡ false → same_time t s ≡ false
other_time s t h = false_from_ne_true (same_time t s) (λ e. both_ways (same_time s t) h (subst (λ u. same_time u t ≡ true) (same_time-eq t s e) (same_time-refl t)))

pub neither : (p q : Bool) → (p || q) ≡ false → (p ≡ false) × (q ≡ false)
neither false q h = (refl, h)
neither true q h = cc

absent-settle : (t : Time) (n : Node) (ns : List Node) → same_time t n.time ≡ false → among (node_times ns) t ≡ false → among (node_times (settle n ns)) t ≡ false
absent-settle t n [] other h = or_from (same_time t n.time) false other refl
absent-settle t n (m ∷ ns) other h = at (is_earlier n.time m.time) (neither (same_time t m.time) (among (node_times ns) t) h) (absent-settle t n ns other)
  where
    at : (b : Bool) → (same_time t m.time ≡ false) × (among (node_times ns) t ≡ false) → (among (node_times ns) t ≡ false → among (node_times (settle n ns)) t ≡ false) → among (node_times (cond b (m ∷ settle n ns) (n ∷ m ∷ ns))) t ≡ false
    at true parts ih = or_from (same_time t m.time) (among (node_times (settle n ns)) t) parts.0 (ih parts.1)
    at false parts ih = or_from (same_time t n.time) (among (node_times (m ∷ ns)) t) other h

absent-behind : (t p : Time) (n : Node) (ns : List Node) → same_time t n.time ≡ false → among (node_times ns) t ≡ false → among (node_times (settle_behind p n ns)) t ≡ false
absent-behind t p n [] other h = refl
absent-behind t p n (m ∷ ns) other h = at (same_time p m.time) (neither (same_time t m.time) (among (node_times ns) t) h) (absent-behind t p n ns other)
  where
    at : (b : Bool) → (same_time t m.time ≡ false) × (among (node_times ns) t ≡ false) → (among (node_times ns) t ≡ false → among (node_times (settle_behind p n ns)) t ≡ false) → among (node_times (cond b (m ∷ settle n ns) (m ∷ settle_behind p n ns))) t ≡ false
    at true parts ih = or_from (same_time t m.time) (among (node_times (settle n ns)) t) parts.0 (absent-settle t n ns other parts.1)
    at false parts ih = or_from (same_time t m.time) (among (node_times (settle_behind p n ns)) t) parts.0 (ih parts.1)

different-settle : (n : Node) (ns : List Node) → among (node_times ns) n.time ≡ false → AreDifferent (node_times ns) → AreDifferent (node_times (settle n ns))
different-settle n [] out d = (refl, tt)
different-settle n (m ∷ ns) out d = at (is_earlier n.time m.time) (neither (same_time n.time m.time) (among (node_times ns) n.time) out) (λ o. different-settle n ns o d.1)
  where
    at : (b : Bool) → (same_time n.time m.time ≡ false) × (among (node_times ns) n.time ≡ false) → (among (node_times ns) n.time ≡ false → AreDifferent (node_times (settle n ns))) → AreDifferent (node_times (cond b (m ∷ settle n ns) (n ∷ m ∷ ns)))
    at true parts ih = (absent-settle m.time n ns (other_time n.time m.time parts.0) d.0, ih parts.1)
    at false parts ih = (out, d)

different-behind : (p : Time) (n : Node) (ns : List Node) → among (node_times ns) n.time ≡ false → AreDifferent (node_times ns) → AreDifferent (node_times (settle_behind p n ns))
different-behind p n [] out d = tt
different-behind p n (m ∷ ns) out d = at (same_time p m.time) (neither (same_time n.time m.time) (among (node_times ns) n.time) out) (λ o. different-behind p n ns o d.1)
  where
    at : (b : Bool) → (same_time n.time m.time ≡ false) × (among (node_times ns) n.time ≡ false) → (among (node_times ns) n.time ≡ false → AreDifferent (node_times (settle_behind p n ns))) → AreDifferent (node_times (cond b (m ∷ settle n ns) (m ∷ settle_behind p n ns)))
    at true parts ih = (absent-settle m.time n ns (other_time n.time m.time parts.0) d.0, different-settle n ns parts.1 d.1)
    at false parts ih = (absent-behind m.time p n ns (other_time n.time m.time parts.0) d.0, ih parts.1)

different-add : (t : Time) (o : SequenceOp) (r : Option Time) (ns : List Node) → among (node_times ns) t ≡ false → AreDifferent (node_times ns) → AreDifferent (node_times (add_insert t o r ns))
different-add t (Insert place payload) None ns out d = different-settle (new_node t None payload) ns out d
different-add t (Insert place payload) (Some p) ns out d = different-behind p (new_node t (Some p) payload) ns out d
different-add t (Delete place) r ns out d = d

not_same : (t : Time) (ns : List Node) → AllAt (λ s. not (same_time t s)) ns → among (node_times ns) t ≡ false
not_same t [] all = refl
not_same t (n ∷ ns) all = or_from (same_time t n.time) (among (node_times ns) t) (at (same_time t n.time) all.0) (not_same t ns all.1)
  where
    at : (b : Bool) → not b ≡ true → b ≡ false
    at true h = cc
    at false h = refl

-- no node is at a time that is none of the execution
pub order-absent : (x : Events) (t : Time) → among (times_of x) t ≡ false → among (node_times (order x)) t ≡ false
order-absent x t out = not_same t (order x) (all-order (λ s. not (same_time t s)) x (λ s m. at s m (same_time t s) refl))
  where
    at : (s : Time) → IsTrue (among (times_of x) s) → (b : Bool) → same_time t s ≡ b → not b ≡ true
    at s m true is = absurd (both_ways (among (times_of x) t) out (subst (λ u. IsTrue (among (times_of x) u)) (sym (same_time-eq t s is)) m))
    at s m false is = refl

pub order-different : (x : Events) → IsWellFormed IsOp IsReply x → AreDifferent (node_times (order x))
order-different [] w = tt
order-different (e ∷ x) w = different-add e.time e.operation e.reply (order x) (order-absent x e.time w.0.new) (order-different x w.1)

marked-times : (d : Time → Bool) (ns : List Node) → node_times (map (mark d) ns) ≡ node_times ns
marked-times d [] = refl
marked-times d (n ∷ ns) = ap (λ ts. n.time ∷ ts) (marked-times d ns)

marked-ordered : (d : Time → Bool) (before : List Time) (ns : List Node) → IsOrderedBehind before ns → IsOrderedBehind before (map (mark d) ns)
marked-ordered d before [] o = tt
marked-ordered d before (n ∷ ns) o = (o.0, marked-ordered d (n.time ∷ before) ns o.1)

marked-bare : (d : Time → Bool) (ns : List Node) → AllByRecursion (λ n. n.hidden ≡ true → n.payload ≡ []) (map (mark d) ns)
marked-bare d [] = tt
marked-bare d (n ∷ ns) = (λ h. ap (λ b. cond b [] n.payload) h, marked-bare d ns)

node-long : (n : Node) → length n.payload ≤ length (node_spelling n)
node-long n =
    let a = length-append (time_field n.time) (named_time n.parent ++ (hidden_field n.hidden ++ field n.payload)) in
    let b = length-append (named_time n.parent) (hidden_field n.hidden ++ field n.payload) in
    let c = length-append (hidden_field n.hidden) (field n.payload) in
    let d = length-field n.payload in
    omega (arith, a, b, c, d)

fits : (ns : List Node) → AllByRecursion IsKnown ns → AllByRecursion (λ n. n.hidden ≡ true → n.payload ≡ []) ns → length (flat_map node_spelling ns) < 2 ^ 64 → AllByRecursion NodeFits ns
fits [] known bare short = tt
fits (n ∷ ns) known bare short =
    let size = length-append (node_spelling n) (flat_map node_spelling ns) in
    let long = node-long n in (
      record { time = known.0.0; parent = known.0.1; payload = (known.0.2, omega (arith, size, long, short)); bare = bare.0 },
      fits ns known.1 bare.1 (omega (arith, size, short)),
    )

-- the times of an execution's nodes differ
pub nodes-different : (x : Events) → IsWellFormed IsOp IsReply x → AreDifferent (node_times (nodes x))
nodes-different x w = subst AreDifferent (sym (marked-times (is_deleted x) (order x))) (order-different x w)

-- the nodes of an execution are in the grammar where they are not too long
pub nodes-inside : (x : Events) → IsWellFormed IsOp IsReply x → IsFaithful sequence_reply x → length x < 2 ^ 32 → length (sequence_spelling (nodes x)) < 2 ^ 64 → AreNodes (nodes x)
nodes-inside x w faithful few short =
    let d = is_deleted x in
    let count = length-marked d (order x) in
    let fewer = length-order x in
    let size = length-counted node_spelling (nodes x) in
    record {
      few = omega (arith, count, fewer, few);
      each = fits (nodes x) (marked-known d (order x) (order-known x w)) (marked-bare d (order x)) (omega (arith, size, short));
      different = nodes-different x w;
      ordered = marked-ordered d [] (order x) (order-ordered x w faithful);
    }
