-- Nodes in order, and parts of them.
use Rattle.std.proofs.Common.{◌≡◌, Bool, true, false, cond, ◌||◌, Option, None, Some, List, [], ◌∷◌, refl, ◌∙◌, ap, sym, subst, IsTrue, filter, map}
use Rattle.std.proofs.lemmas.Bool.{both_ways, false_from_ne_true}
use Rattle.mrdt_model.specs.declared.time.Time.{Time}
use Rattle.mrdt_model.specs.Times.{either, same_time, is_earlier}
use Rattle.mrdt_model.proofs.TimeSets.{same_time-eq, same_time-refl}
use Rattle.live_set.proofs.Order.{earlier-trans, earlier-neither, earlier-other, earlier-not}
use Rattle.mrdt_sequence.specs.declared.node.Node.{Node}
use Rattle.mrdt_sequence.specs.Order.{settle, settle_behind, insert_behind, nearest_earlier, IsOrderedBehind, IsOrdered, joined, woven}
use Rattle.mrdt_sequence.specs.Sequence.{marked}

-- the parent, if there is one, is in the set
abbrev pub OnParent : (Time → Bool) → Option Time → Type 0
OnParent a None = Unit {0}
OnParent a (Some p) = IsTrue (a p)

-- a set of times holds the parents of the nodes in it
abbrev pub HoldsParents : (Time → Bool) → List Node → Type 0
HoldsParents a [] = Unit {0}
HoldsParents a (n ∷ ns) = (IsTrue (a n.time) → OnParent a n.parent) × HoldsParents a ns

-- the nodes at the times of a set
abbrev pub nodes_in : (Time → Bool) → List Node → List Node
nodes_in a ns = filter (λ n. a n.time) ns

-- the first node, if there is one, is earlier
abbrev pub StartsEarlier : Time → List Node → Type 0
StartsEarlier t [] = Unit {0}
StartsEarlier t (n ∷ ns) = IsTrue (is_earlier n.time t)

-- the nearest earlier time of what is newer than u is outside the set
abbrev pub Blocked : (Time → Bool) → Time → List Time → Type 0
Blocked a u before = (t : Time) → IsTrue (is_earlier u t) → (q : Time) × (nearest_earlier t before ≡ Some q) × (a q ≡ false)

pub blocked-here : (a : Time → Bool) (u : Time) (before : List Time) → a u ≡ false → Blocked a u (u ∷ before)
blocked-here a u before out t h = (u, ap (λ b. cond b (Some u) (nearest_earlier t before)) h, out)

pub blocked-behind : (a : Time → Bool) (u m : Time) (before : List Time) → a m ≡ false → Blocked a u before → Blocked a u (m ∷ before)
blocked-behind a u m before out blocked t h = at (is_earlier m t) refl (blocked t h)
  where
    at : (b : Bool) → is_earlier m t ≡ b → ((q : Time) × (nearest_earlier t before ≡ Some q) × (a q ≡ false)) → (q : Time) × (cond b (Some m) (nearest_earlier t before) ≡ Some q) × (a q ≡ false)
    at true is r = (m, refl, out)
    at false is r = r

-- of nodes behind one that is outside the set, the first in the set is earlier than that one
starts_earlier : (a : Time → Bool) (u : Time) (before : List Time) (ns : List Node) → a u ≡ false → Blocked a u before → IsOrderedBehind before ns → HoldsParents a ns → StartsEarlier u (nodes_in a ns)
starts_earlier a u before [] out blocked o h = tt
starts_earlier a u before (n ∷ ns) out blocked o h = at (a n.time) refl (λ is. starts_earlier a u (n.time ∷ before) ns out (blocked-behind a u n.time before is blocked) o.1 h.1)
  where
    parent : (q : Time) × (nearest_earlier n.time before ≡ Some q) × (a q ≡ false) → a n.time ≡ true → IsTrue (is_earlier n.time u)
    parent r is = absurd (both_ways (a r.0) r.2 (subst (OnParent a) (o.0 ∙ r.1) (h.0 is)))

    newer : (b c : Bool) → is_earlier n.time u ≡ b → is_earlier u n.time ≡ c → a n.time ≡ true → IsTrue (is_earlier n.time u)
    newer true c i j is = i
    newer false true i j is = parent (blocked n.time j) is
    newer false false i j is = absurd (both_ways (a u) out (ap a (sym (same_time-eq n.time u (earlier-neither n.time u i j))) ∙ is))

    at : (b : Bool) → a n.time ≡ b → (a n.time ≡ false → StartsEarlier u (nodes_in a ns)) → StartsEarlier u (cond b (n ∷ nodes_in a ns) (nodes_in a ns))
    at true is ih = newer (is_earlier n.time u) (is_earlier u n.time) refl refl is
    at false is ih = ih is

pub starts-behind : (a : Time → Bool) (u : Time) (before : List Time) (ns : List Node) → a u ≡ false → IsOrderedBehind (u ∷ before) ns → HoldsParents a ns → StartsEarlier u (nodes_in a ns)
starts-behind a u before ns out o h = starts_earlier a u (u ∷ before) ns out (blocked-here a u before out) o h

settle-starts : (n : Node) (u : Time) (ks : List Node) → is_earlier n.time u ≡ false → StartsEarlier u ks → settle n ks ≡ n ∷ ks
settle-starts n u [] not_earlier h = refl
settle-starts n u (k ∷ ks) not_earlier h =
    let later : is_earlier n.time k.time ≡ false = false_from_ne_true (is_earlier n.time k.time) (λ e. both_ways (is_earlier n.time u) not_earlier (earlier-trans n.time k.time u e h)) in
    ap (λ b. cond b (k ∷ settle n ks) (n ∷ k ∷ ks)) later

nodes_in-settle : (a : Time → Bool) (n : Node) (before : List Time) (ns : List Node) → a n.time ≡ true → IsOrderedBehind before ns → HoldsParents a ns → nodes_in a (settle n ns) ≡ settle n (nodes_in a ns)
nodes_in-settle a n before [] is o h = ap (λ b. cond b (n ∷ []) []) is
nodes_in-settle a n before (m ∷ ns) is o h = at (is_earlier n.time m.time) (a m.time) refl refl (nodes_in-settle a n (m.time ∷ before) ns is o.1 h.1)
  where
    at : (b c : Bool) → is_earlier n.time m.time ≡ b → a m.time ≡ c → nodes_in a (settle n ns) ≡ settle n (nodes_in a ns) → nodes_in a (cond b (m ∷ settle n ns) (n ∷ m ∷ ns)) ≡ settle n (cond c (m ∷ nodes_in a ns) (nodes_in a ns))
    at true true i j ih =
        ap (λ b. cond b (m ∷ nodes_in a (settle n ns)) (nodes_in a (settle n ns))) j
        ∙ ap (λ ks. m ∷ ks) ih
        ∙ sym (ap (λ b. cond b (m ∷ settle n (nodes_in a ns)) (n ∷ m ∷ nodes_in a ns)) i)
    at true false i j ih = ap (λ b. cond b (m ∷ nodes_in a (settle n ns)) (nodes_in a (settle n ns))) j ∙ ih
    at false true i j ih =
        ap (λ b. cond b (n ∷ nodes_in a (m ∷ ns)) (nodes_in a (m ∷ ns))) is
        ∙ ap (λ b. n ∷ cond b (m ∷ nodes_in a ns) (nodes_in a ns)) j
        ∙ sym (ap (λ b. cond b (m ∷ settle n (nodes_in a ns)) (n ∷ m ∷ nodes_in a ns)) i)
    at false false i j ih =
        ap (λ b. cond b (n ∷ nodes_in a (m ∷ ns)) (nodes_in a (m ∷ ns))) is
        ∙ ap (λ b. n ∷ cond b (m ∷ nodes_in a ns) (nodes_in a ns)) j
        ∙ sym (settle-starts n m.time (nodes_in a ns) i (starts-behind a m.time before ns j o.1 h.1))

dropped-settle : (a : Time → Bool) (n : Node) (ns : List Node) → a n.time ≡ false → nodes_in a (settle n ns) ≡ nodes_in a ns
dropped-settle a n [] out = ap (λ b. cond b (n ∷ []) []) out
dropped-settle a n (m ∷ ns) out = at (is_earlier n.time m.time) (dropped-settle a n ns out)
  where
    at : (b : Bool) → nodes_in a (settle n ns) ≡ nodes_in a ns → nodes_in a (cond b (m ∷ settle n ns) (n ∷ m ∷ ns)) ≡ nodes_in a (m ∷ ns)
    at true ih = ap (λ ks. cond (a m.time) (m ∷ ks) ks) ih
    at false ih = ap (λ b. cond b (n ∷ nodes_in a (m ∷ ns)) (nodes_in a (m ∷ ns))) out

nodes_in-behind : (a : Time → Bool) (p : Time) (n : Node) (before : List Time) (ns : List Node) → a n.time ≡ true → a p ≡ true → IsOrderedBehind before ns → HoldsParents a ns → nodes_in a (settle_behind p n ns) ≡ settle_behind p n (nodes_in a ns)
nodes_in-behind a p n before [] is has o h = refl
nodes_in-behind a p n before (m ∷ ns) is has o h = at (same_time p m.time) (a m.time) refl refl (nodes_in-behind a p n (m.time ∷ before) ns is has o.1 h.1)
  where
    at : (b c : Bool) → same_time p m.time ≡ b → a m.time ≡ c → nodes_in a (settle_behind p n ns) ≡ settle_behind p n (nodes_in a ns) → nodes_in a (cond b (m ∷ settle n ns) (m ∷ settle_behind p n ns)) ≡ settle_behind p n (cond c (m ∷ nodes_in a ns) (nodes_in a ns))
    at true true i j ih =
        ap (λ b. cond b (m ∷ nodes_in a (settle n ns)) (nodes_in a (settle n ns))) j
        ∙ ap (λ ks. m ∷ ks) (nodes_in-settle a n (m.time ∷ before) ns is o.1 h.1)
        ∙ sym (ap (λ b. cond b (m ∷ settle n (nodes_in a ns)) (m ∷ settle_behind p n (nodes_in a ns))) i)
    at true false i j ih = absurd (both_ways (a m.time) j (ap a (sym (same_time-eq p m.time i)) ∙ has))
    at false true i j ih =
        ap (λ b. cond b (m ∷ nodes_in a (settle_behind p n ns)) (nodes_in a (settle_behind p n ns))) j
        ∙ ap (λ ks. m ∷ ks) ih
        ∙ sym (ap (λ b. cond b (m ∷ settle n (nodes_in a ns)) (m ∷ settle_behind p n (nodes_in a ns))) i)
    at false false i j ih = ap (λ b. cond b (m ∷ nodes_in a (settle_behind p n ns)) (nodes_in a (settle_behind p n ns))) j ∙ ih

dropped-behind : (a : Time → Bool) (p : Time) (n : Node) (ns : List Node) → a n.time ≡ false → nodes_in a (settle_behind p n ns) ≡ nodes_in a ns
dropped-behind a p n [] out = refl
dropped-behind a p n (m ∷ ns) out = at (same_time p m.time) (dropped-behind a p n ns out)
  where
    at : (b : Bool) → nodes_in a (settle_behind p n ns) ≡ nodes_in a ns → nodes_in a (cond b (m ∷ settle n ns) (m ∷ settle_behind p n ns)) ≡ nodes_in a (m ∷ ns)
    at true ih = ap (λ ks. cond (a m.time) (m ∷ ks) ks) (dropped-settle a n ns out)
    at false ih = ap (λ ks. cond (a m.time) (m ∷ ks) ks) ih

-- a part of nodes with one more
pub nodes_in-insert : (a : Time → Bool) (o : Option Time) (n : Node) (ns : List Node) → a n.time ≡ true → OnParent a o → IsOrdered ns → HoldsParents a ns → nodes_in a (insert_behind o n ns) ≡ insert_behind o n (nodes_in a ns)
nodes_in-insert a None n ns is has o h = nodes_in-settle a n [] ns is o h
nodes_in-insert a (Some p) n ns is has o h = nodes_in-behind a p n [] ns is has o h

pub dropped-insert : (a : Time → Bool) (o : Option Time) (n : Node) (ns : List Node) → a n.time ≡ false → nodes_in a (insert_behind o n ns) ≡ nodes_in a ns
dropped-insert a None n ns out = dropped-settle a n ns out
dropped-insert a (Some p) n ns out = dropped-behind a p n ns out

-- lists of times behind which the same is in order
pub same_nearest : (b c : List Time) (ns : List Node) → ((t : Time) → nearest_earlier t b ≡ nearest_earlier t c) → IsOrderedBehind b ns → IsOrderedBehind c ns
same_nearest b c [] h o = tt
same_nearest b c (n ∷ ns) h o = (o.0 ∙ h n.time, same_nearest (n.time ∷ b) (n.time ∷ c) ns (λ t. ap (λ r. cond (is_earlier n.time t) (Some n.time) r) (h t)) o.1)

-- a newer time farther off is never the nearest
pub hidden_by : (m n : Time) (before : List Time) → is_earlier n m ≡ false → (t : Time) → nearest_earlier t (m ∷ before) ≡ nearest_earlier t (m ∷ n ∷ before)
hidden_by m n before not_earlier t = at (is_earlier m t) (is_earlier n t) refl refl
  where
    at : (b c : Bool) → is_earlier m t ≡ b → is_earlier n t ≡ c → cond b (Some m) (nearest_earlier t before) ≡ cond b (Some m) (cond c (Some n) (nearest_earlier t before))
    at true c i j = refl
    at false false i j = refl
    at false true i j = absurd (both_ways (is_earlier n m) not_earlier (below (is_earlier m n) (same_time t m) refl refl))
      where
        below : (d e : Bool) → is_earlier m n ≡ d → same_time t m ≡ e → is_earlier n m ≡ true
        below true e k l = absurd (both_ways (is_earlier m t) i (earlier-trans m n t k j))
        below false e k l = absurd (both_ways (is_earlier m t) i (subst (λ u. is_earlier u t ≡ true) (same_time-eq n m (earlier-neither n m not_earlier k)) j))

ordered-settle : (n : Node) (before : List Time) (ns : List Node) → n.parent ≡ nearest_earlier n.time before → IsOrderedBehind before ns → IsOrderedBehind before (settle n ns)
ordered-settle n before [] h o = (h, tt)
ordered-settle n before (m ∷ ns) h o = at (is_earlier n.time m.time) refl (ordered-settle n (m.time ∷ before) ns)
  where
    at : (b : Bool) → is_earlier n.time m.time ≡ b → (n.parent ≡ nearest_earlier n.time (m.time ∷ before) → IsOrderedBehind (m.time ∷ before) ns → IsOrderedBehind (m.time ∷ before) (settle n ns)) → IsOrderedBehind before (cond b (m ∷ settle n ns) (n ∷ m ∷ ns))
    at true i ih = (o.0, ih (h ∙ sym (ap (λ b. cond b (Some m.time) (nearest_earlier n.time before)) (earlier-not n.time m.time i))) o.1)
    at false i ih = (
      h,
      (
        o.0 ∙ sym (ap (λ b. cond b (Some n.time) (nearest_earlier m.time before)) i),
        same_nearest (m.time ∷ before) (m.time ∷ n.time ∷ before) ns (hidden_by m.time n.time before i) o.1,
      ),
    )

ordered-behind : (p : Time) (n : Node) (before : List Time) (ns : List Node) → n.parent ≡ Some p → IsTrue (is_earlier p n.time) → IsOrderedBehind before ns → IsOrderedBehind before (settle_behind p n ns)
ordered-behind p n before [] own earlier o = tt
ordered-behind p n before (m ∷ ns) own earlier o = at (same_time p m.time) refl (ordered-behind p n (m.time ∷ before) ns own earlier o.1)
  where
    at : (b : Bool) → same_time p m.time ≡ b → IsOrderedBehind (m.time ∷ before) (settle_behind p n ns) → IsOrderedBehind before (cond b (m ∷ settle n ns) (m ∷ settle_behind p n ns))
    at true i ih =
        let same = same_time-eq p m.time i in
        let before_it : is_earlier m.time n.time ≡ true = subst (λ u. is_earlier u n.time ≡ true) same earlier in
        (o.0, ordered-settle n (m.time ∷ before) ns (own ∙ ap Some same ∙ sym (ap (λ b. cond b (Some m.time) (nearest_earlier n.time before)) before_it)) o.1)
    at false i ih = (o.0, ih)

-- nodes in order with one more, behind its parent
pub ordered-insert : (o : Option Time) (n : Node) (ns : List Node) → n.parent ≡ o → OnParent (λ t. is_earlier t n.time) o → IsOrdered ns → IsOrdered (insert_behind o n ns)
ordered-insert None n ns own earlier o = ordered-settle n [] ns own o
ordered-insert (Some p) n ns own earlier o = ordered-behind p n [] ns own earlier o

holds-settle : (a : Time → Bool) (n : Node) (ns : List Node) → (IsTrue (a n.time) → OnParent a n.parent) → HoldsParents a ns → HoldsParents a (settle n ns)
holds-settle a n [] here h = (here, tt)
holds-settle a n (m ∷ ns) here h = at (is_earlier n.time m.time) (holds-settle a n ns here h.1)
  where
    at : (b : Bool) → HoldsParents a (settle n ns) → HoldsParents a (cond b (m ∷ settle n ns) (n ∷ m ∷ ns))
    at true ih = (h.0, ih)
    at false ih = (here, h)

holds-behind : (a : Time → Bool) (p : Time) (n : Node) (ns : List Node) → (IsTrue (a n.time) → OnParent a n.parent) → HoldsParents a ns → HoldsParents a (settle_behind p n ns)
holds-behind a p n [] here h = tt
holds-behind a p n (m ∷ ns) here h = at (same_time p m.time) (holds-behind a p n ns here h.1)
  where
    at : (b : Bool) → HoldsParents a (settle_behind p n ns) → HoldsParents a (cond b (m ∷ settle n ns) (m ∷ settle_behind p n ns))
    at true ih = (h.0, holds-settle a n ns here h.1)
    at false ih = (h.0, ih)

pub holds-insert : (a : Time → Bool) (o : Option Time) (n : Node) (ns : List Node) → (IsTrue (a n.time) → OnParent a n.parent) → HoldsParents a ns → HoldsParents a (insert_behind o n ns)
holds-insert a None n ns here h = holds-settle a n ns here h
holds-insert a (Some p) n ns here h = holds-behind a p n ns here h

-- lists in front of which one node comes first
pub woven-none : (ls : List Node) → woven ls [] ≡ ls
woven-none [] = refl
woven-none (l ∷ ls) = refl

other_earlier : (s t : Time) → is_earlier s t ≡ true → same_time t s ≡ false
other_earlier s t h = false_from_ne_true (same_time t s) (λ e. both_ways (same_time s t) (earlier-other s t h) (subst (λ u. same_time u t ≡ true) (same_time-eq t s e) (same_time-refl t)))

woven-left : (l : Node) (ls rs : List Node) → StartsEarlier l.time rs → woven (l ∷ ls) rs ≡ l ∷ woven ls rs
woven-left l ls [] h = ap (λ ks. l ∷ ks) (sym (woven-none ls))
woven-left l ls (r ∷ rs) h = rw (other_earlier r.time l.time h, earlier-not r.time l.time h) refl

woven-right : (r : Node) (ls rs : List Node) → StartsEarlier r.time ls → woven ls (r ∷ rs) ≡ r ∷ woven ls rs
woven-right r [] rs h = refl
woven-right r (l ∷ ls) rs h = rw (earlier-other l.time r.time h, h) refl

abbrev pub mark : (Time → Bool) → Node → Node
mark d n = marked (d n.time) n

starts-marked : (d : Time → Bool) (t : Time) (ks : List Node) → StartsEarlier t ks → StartsEarlier t (map (mark d) ks)
starts-marked d t [] h = h
starts-marked d t (k ∷ ks) h = h

joined-marked : (p q : Bool) (n : Node) → joined (marked p n) (marked q n) ≡ marked (p || q) n
joined-marked true q n = refl
joined-marked false q n = refl

only_left : (p q : Bool) → q ≡ false → p ≡ (p || q)
only_left true q h = refl
only_left false q h = sym h

-- two parts of nodes in order, woven, are the part of both
pub woven-parts : (a b c d : Time → Bool) (before : List Time) (us : List Node) → IsOrderedBehind before us → HoldsParents a us → HoldsParents b us
    → ((t : Time) → a t ≡ false → c t ≡ false) → ((t : Time) → b t ≡ false → d t ≡ false)
    → woven (map (mark c) (nodes_in a us)) (map (mark d) (nodes_in b us)) ≡ map (mark (either c d)) (nodes_in (either a b) us)
woven-parts a b c d before [] o h k in_a in_b = refl
woven-parts a b c d before (u ∷ us) o h k in_a in_b = at (a u.time) (b u.time) refl refl (woven-parts a b c d (u.time ∷ before) us o.1 h.1 k.1 in_a in_b)
  where
    at : (p q : Bool) → a u.time ≡ p → b u.time ≡ q → woven (map (mark c) (nodes_in a us)) (map (mark d) (nodes_in b us)) ≡ map (mark (either c d)) (nodes_in (either a b) us)
        → woven (map (mark c) (cond p (u ∷ nodes_in a us) (nodes_in a us))) (map (mark d) (cond q (u ∷ nodes_in b us) (nodes_in b us))) ≡ map (mark (either c d)) (cond (p || q) (u ∷ nodes_in (either a b) us) (nodes_in (either a b) us))
    at true true i j ih =
        ap (λ s. cond s (joined (mark c u) (mark d u) ∷ woven (map (mark c) (nodes_in a us)) (map (mark d) (nodes_in b us))) (cond (is_earlier u.time u.time) (mark d u ∷ woven (mark c u ∷ map (mark c) (nodes_in a us)) (map (mark d) (nodes_in b us))) (mark c u ∷ woven (map (mark c) (nodes_in a us)) (mark d u ∷ map (mark d) (nodes_in b us))))) (same_time-refl u.time)
        ∙ ap (λ n. n ∷ woven (map (mark c) (nodes_in a us)) (map (mark d) (nodes_in b us))) (joined-marked (c u.time) (d u.time) u)
        ∙ ap (λ ns. marked (c u.time || d u.time) u ∷ ns) ih
    at true false i j ih =
        woven-left (mark c u) (map (mark c) (nodes_in a us)) (map (mark d) (nodes_in b us)) (starts-marked d u.time (nodes_in b us) (starts-behind b u.time before us j o.1 k.1))
        ∙ ap (λ p. marked p u ∷ woven (map (mark c) (nodes_in a us)) (map (mark d) (nodes_in b us))) (only_left (c u.time) (d u.time) (in_b u.time j))
        ∙ ap (λ ns. marked (c u.time || d u.time) u ∷ ns) ih
    at false true i j ih =
        woven-right (mark d u) (map (mark c) (nodes_in a us)) (map (mark d) (nodes_in b us)) (starts-marked c u.time (nodes_in a us) (starts-behind a u.time before us i o.1 h.1))
        ∙ ap (λ p. marked p u ∷ woven (map (mark c) (nodes_in a us)) (map (mark d) (nodes_in b us))) (sym (ap (λ p. p || d u.time) (in_a u.time i)))
        ∙ ap (λ ns. marked (c u.time || d u.time) u ∷ ns) ih
    at false false i j ih = ih
