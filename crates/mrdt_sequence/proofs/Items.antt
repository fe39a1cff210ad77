-- Places of items.
use Rattle.std.proofs.Common.{◌≡◌, ℕ, zero, suc, ◌+◌, ◌-◌, ◌<◌, ◌≤◌, ℤ, pos, ◌+ℤ◌, ◌≤ℤ◌, Bool, true, false, not, cond, Option, None, Some, List, [], ◌∷◌, ◌++◌, length, take, drop, slice_get, refl, ◌∙◌, ap, sym, subst, arith, append_assoc, length-append, filter, map, add-one, min, drop_of_length-le}
use Rattle.std.proofs.lemmas.Int.{ints}
use Rattle.std.proofs.lemmas.List.{take_at, drop_at, length-drop, drop-drop}
use Rattle.std.proofs.Math.Seq.{take-add}
use Rattle.mrdt_model.specs.declared.time.Time.{Time}
use Rattle.mrdt_model.specs.Times.{same_time, among}
use Rattle.mrdt_model.proofs.TimeSets.{same_time-refl}
use Rattle.live_set.specs.declared.kept.Kept.{Kept}
use Rattle.shared_list.specs.Trees.{amounts, IsReached}
use Rattle.mrdt_sequence.specs.declared.node.Node.{Node}
use Rattle.mrdt_sequence.specs.Edits.{SettlesAt, StartsAt}
use Rattle.mrdt_sequence.specs.InGrammar.{neither, other_time}
use Rattle.mrdt_sequence.specs.Order.{AreDifferent, settle, settle_behind, insert_behind}
use Rattle.mrdt_sequence.specs.Places.{living, IsItem}
use Rattle.mrdt_sequence.specs.Sequence.{item_of, items_of, first_time, last_time, hidden_if, hide_at, marked, node_times}

pub living_rises : (n : Node) → pos 0 ≤ℤ living n
living_rises n = at n.hidden
  where
    at : (b : Bool) → pos 0 ≤ℤ cond b (pos 0) (pos 1)
    at true = omega (arith, ints)
    at false = omega (arith, ints)

pub items-append : (xs ys : List Node) → items_of (xs ++ ys) ≡ items_of xs ++ items_of ys
items-append [] ys = refl
items-append (x ∷ xs) ys = at x.hidden (items-append xs ys)
  where
    at : (b : Bool) → items_of (xs ++ ys) ≡ items_of xs ++ items_of ys
        → map item_of (cond (not b) (x ∷ filter (λ n. not n.hidden) (xs ++ ys)) (filter (λ n. not n.hidden) (xs ++ ys)))
        ≡ map item_of (cond (not b) (x ∷ filter (λ n. not n.hidden) xs) (filter (λ n. not n.hidden) xs)) ++ items_of ys
    at true rest = rest
    at false rest = ap (λ ks. item_of x ∷ ks) rest

-- an item in front, or none
pub items-shown : (n : Node) (ns : List Node) → n.hidden ≡ false → items_of (n ∷ ns) ≡ item_of n ∷ items_of ns
items-shown n ns shown = ap (λ b. map item_of (cond (not b) (n ∷ filter (λ m. not m.hidden) ns) (filter (λ m. not m.hidden) ns))) shown

pub living_sum : (ns : List Node) → amounts living ns ≡ pos (length (items_of ns))
living_sum [] = refl
living_sum (n ∷ ns) = at n.hidden (living_sum ns)
  where
    at : (b : Bool) → amounts living ns ≡ pos (length (items_of ns))
        → cond b (pos 0) (pos 1) +ℤ amounts living ns ≡ pos (length (map item_of (cond (not b) (n ∷ filter (λ m. not m.hidden) ns) (filter (λ m. not m.hidden) ns))))
    at true rest = omega (arith, ints, rest)
    at false rest = omega (arith, ints, rest)

pub items_few : (ns : List Node) → length (items_of ns) ≤ length ns
items_few [] = omega arith
items_few (n ∷ ns) = at n.hidden (items_few ns)
  where
    at : (b : Bool) → length (items_of ns) ≤ length ns → length (map item_of (cond (not b) (n ∷ filter (λ m. not m.hidden) ns) (filter (λ m. not m.hidden) ns))) ≤ length (n ∷ ns)
    at true rest = omega (arith, rest)
    at false rest = omega (arith, rest)

-- the node at a place, between those in front and those behind
pub node_at : (ns : List Node) (p : ℕ) → p < length ns → (n : Node) × (slice_get ns p ≡ Some n)
node_at [] p there = absurd (omega arith)
node_at (n ∷ ns) zero there = (n, refl)
node_at (n ∷ ns) (suc p) there = node_at ns p (omega (arith, there))

around : (ns : List Node) (p : ℕ) (n : Node) → slice_get ns p ≡ Some n → ns ≡ take p ns ++ (n ∷ drop (suc p) ns)
around [] p n at = absurd (cc at)
around (m ∷ ns) zero n at = let own : m ≡ n = cc at in ap (λ k. k ∷ ns) own
around (m ∷ ns) (suc p) n at = ap (λ ks. m ∷ ks) (around ns p n at)

pub node_around : (ns : List Node) (p : ℕ) (n : Node) → slice_get ns p ≡ Some n → ns ≡ take p ns ++ (n ∷ drop (p + 1) ns)
node_around ns p n at = rw (add-one p) (around ns p n at)

taken : (ns : List Node) (p : ℕ) (n : Node) → slice_get ns p ≡ Some n → take (suc p) ns ≡ take p ns ++ n ∷ []
taken [] p n at = absurd (cc at)
taken (m ∷ ns) zero n at = let own : m ≡ n = cc at in ap (λ k. k ∷ []) own
taken (m ∷ ns) (suc p) n at = ap (λ ks. m ∷ ks) (taken ns p n at)

pub node_taken : (ns : List Node) (p : ℕ) (n : Node) → slice_get ns p ≡ Some n → take (p + 1) ns ≡ take p ns ++ n ∷ []
node_taken ns p n at = rw (add-one p) (taken ns p n at)

pub within_of : (ns : List Node) (p : ℕ) (n : Node) → slice_get ns p ≡ Some n → p < length ns
within_of [] p n at = absurd (cc at)
within_of (m ∷ ns) zero n at = omega arith
within_of (m ∷ ns) (suc p) n at = omega (arith, within_of ns p n at)

-- where the sum of the living passes a number, there is an item
pub is_item : (ns : List Node) (i : ℤ) (index p : ℕ) → i ≡ pos index → IsReached living ns i p → IsItem ns index p
is_item ns i index p own is =
    let n = (node_at ns p is.there).0 in
    let there : slice_get ns p ≡ Some n = (node_at ns p is.there).1 in
    at n there n.hidden refl
  where
    at : (n : Node) → slice_get ns p ≡ Some n → (b : Bool) → n.hidden ≡ b → IsItem ns index p
    at n there b shown =
        let front : amounts living (take p ns) ≡ pos (length (items_of (take p ns))) = living_sum (take p ns) in
        let all : amounts living (take (p + 1) ns) ≡ pos (length (items_of (take (p + 1) ns))) = living_sum (take (p + 1) ns) in
        let more : items_of (take (p + 1) ns) ≡ items_of (take p ns) ++ items_of (n ∷ []) = ap items_of (node_taken ns p n there) ∙ items-append (take p ns) (n ∷ []) in
        let size : length (items_of (take (p + 1) ns)) ≡ length (items_of (take p ns)) + length (items_of (n ∷ [])) = ap length more ∙ length-append (items_of (take p ns)) (items_of (n ∷ [])) in
        let low = is.before in
        let high = is.passed in
        let one : length (items_of (n ∷ [])) ≡ length (map item_of (cond (not b) (n ∷ []) [])) = ap (λ c. length (map item_of (cond (not c) (n ∷ []) []))) shown in
        by b one shown (omega (arith, ints, own, front, low)) (omega (arith, ints, own, all, size, high))
      where
        by : (c : Bool) → length (items_of (n ∷ [])) ≡ length (map item_of (cond (not c) (n ∷ []) [])) → n.hidden ≡ c → length (items_of (take p ns)) ≤ index → index < length (items_of (take p ns)) + length (items_of (n ∷ [])) → IsItem ns index p
        by true one shown low high = absurd (omega (arith, one, low, high))
        by false one shown low high = record { node = n; there = there; shown = shown; before = omega (arith, one, low, high) }

last-end : (t : Option Time) (ks : List (Kept (List ℕ))) (k : Kept (List ℕ)) → last_time t (ks ++ k ∷ []) ≡ Some k.time
last-end t [] k = refl
last-end t (j ∷ ks) k = last-end (Some j.time) ks k

same_there : (ns : List Node) (p : ℕ) (m n : Node) → slice_get ns p ≡ Some m → slice_get ns p ≡ Some n → m ≡ n
same_there ns p m n one two = let both : Some m ≡ Some n = sym one ∙ two in cc

-- the items around one of them
module _ (ns : List Node) (i p : ℕ) (is : IsItem ns i p) where
  pub item_within : p < length ns
  item_within = within_of ns p is.node is.there

  abbrev front : List (Kept (List ℕ))
  front = items_of (take p ns)

  abbrev behind : List (Kept (List ℕ))
  behind = items_of (drop (p + 1) ns)

  items-around : items_of ns ≡ front ++ (item_of is.node ∷ behind)
  items-around =
      ap items_of (node_around ns p is.node is.there)
      ∙ items-append (take p ns) (is.node ∷ drop (p + 1) ns)
      ∙ ap (λ ks. front ++ ks) (items-shown is.node (drop (p + 1) ns) is.shown)

  pub first_item : (n : Node) → slice_get ns p ≡ Some n → Some n.time ≡ first_time (drop i (items_of ns))
  first_item n there =
      let own : n ≡ is.node = same_there ns p n is.node there is.there in
      ap (λ m. Some m.time) own ∙ sym (ap (λ ks. first_time (drop i ks)) items-around ∙ ap first_time (drop_at front (item_of is.node ∷ behind) i is.before))

  pub last_item : (n : Node) (last : ℕ) → slice_get ns p ≡ Some n → last ≡ i + 1 → Some n.time ≡ last_time None (take last (items_of ns))
  last_item n last there many =
      let own : n ≡ is.node = same_there ns p n is.node there is.there in
      let all : items_of ns ≡ (front ++ item_of is.node ∷ []) ++ behind = items-around ∙ sym (append_assoc front (item_of is.node ∷ []) behind) in
      let size : length (front ++ item_of is.node ∷ []) ≡ last = length-append front (item_of is.node ∷ []) ∙ ap (λ k. k + 1) is.before ∙ sym many in
      ap (λ m. Some m.time) own
      ∙ sym (ap (λ ks. last_time None (take last ks)) all ∙ ap (last_time None) (take_at (front ++ item_of is.node ∷ []) behind last size) ∙ last-end None front (item_of is.node))

-- no more are taken than there are
take-min : {X : Type 0} (xs : List X) (i : ℕ) → take (min i (length xs)) xs ≡ take i xs
take-min [] zero = refl
take-min [] (suc i) = let none : min (suc i) 0 ≡ 0 = omega arith in ap (λ k. take k []) none
take-min (x ∷ xs) zero = let none : min 0 (length (x ∷ xs)) ≡ 0 = omega arith in ap (λ k. take k (x ∷ xs)) none
take-min (x ∷ xs) (suc i) = let one : min (suc i) (length (x ∷ xs)) ≡ suc (min i (length xs)) = omega arith in ap (λ k. take k (x ∷ xs)) one ∙ ap (λ ys. x ∷ ys) (take-min xs i)

pub parent_none : (ns : List Node) (index last : ℕ) → last ≡ min index (length (items_of ns)) → last ≡ 0 → None ≡ last_time None (take index (items_of ns))
parent_none ns index last is none = ap (λ k. last_time None (take k (items_of ns))) (sym none ∙ is) ∙ ap (last_time None) (take-min (items_of ns) index)

pub parent_some : (ns : List Node) (index last p : ℕ) (n : Node) → last ≡ min index (length (items_of ns)) → ¬ (last ≡ 0) → IsItem ns (last - 1) p → slice_get ns p ≡ Some n → Some n.time ≡ last_time None (take index (items_of ns))
parent_some ns index last p n is some item there =
    last_item ns (last - 1) p item n last there (omega (arith, some)) ∙ ap (λ k. last_time None (take k (items_of ns))) is ∙ ap (last_time None) (take-min (items_of ns) index)

pub first_none : (ns : List Node) (i : ℕ) → length (items_of ns) ≤ i → None ≡ first_time (drop i (items_of ns))
first_none ns i long = sym (ap first_time (drop_of_length-le (items_of ns) long))

-- a node among others of other times
absent : (ns : List Node) (p : ℕ) (n : Node) (t : Time) → slice_get ns p ≡ Some n → among (node_times ns) t ≡ false → same_time t n.time ≡ false
absent [] p n t there out = absurd (cc there)
absent (m ∷ ns) zero n t there out = let own : m ≡ n = cc there in subst (λ k. same_time t k.time ≡ false) own (neither (same_time t m.time) (among (node_times ns) t) out).0
absent (m ∷ ns) (suc p) n t there out = absent ns p n t there (neither (same_time t m.time) (among (node_times ns) t) out).1

settles-behind : (ns : List Node) (p : ℕ) (n m : Node) → slice_get ns p ≡ Some n → AreDifferent (node_times ns) → settle_behind n.time m ns ≡ take (suc p) ns ++ settle m (drop (suc p) ns)
settles-behind [] p n m there d = absurd (cc there)
settles-behind (k ∷ ns) zero n m there d =
    let own : k ≡ n = cc there in
    ap (λ b. cond b (k ∷ settle m ns) (k ∷ settle_behind n.time m ns)) (subst (λ j. same_time n.time j.time ≡ true) (sym own) (same_time-refl n.time))
settles-behind (k ∷ ns) (suc p) n m there d =
    let other : same_time n.time k.time ≡ false = other_time k.time n.time (absent ns p n k.time there d.0) in
    ap (λ b. cond b (k ∷ settle m ns) (k ∷ settle_behind n.time m ns)) other ∙ ap (λ js. k ∷ js) (settles-behind ns p n m there d.1)

pub starts_none : (ns : List Node) → StartsAt None ns 0
starts_none ns = record { within = omega arith; starts = λ d n. refl }

pub starts_some : (ns : List Node) (p : ℕ) (n : Node) → slice_get ns p ≡ Some n → StartsAt (Some n.time) ns (p + 1)
starts_some ns p n there = record {
  within = let here = within_of ns p n there in omega (arith, here);
  starts = λ d m. rw (add-one p) (settles-behind ns p n m there d);
}

hides-none : (ns : List Node) (t : Time) → among (node_times ns) t ≡ false → hide_at (Some t) ns ≡ ns
hides-none [] t out = refl
hides-none (n ∷ ns) t out =
    let parts = neither (same_time t n.time) (among (node_times ns) t) out in
    ap (λ b. hidden_if b n ∷ hide_at (Some t) ns) (other_time t n.time parts.0) ∙ ap (λ ks. n ∷ ks) (hides-none ns t parts.1)

hides-one : (ns : List Node) (p : ℕ) (n : Node) → slice_get ns p ≡ Some n → AreDifferent (node_times ns) → hide_at (Some n.time) ns ≡ take p ns ++ (marked true n ∷ drop (suc p) ns)
hides-one [] p n there d = absurd (cc there)
hides-one (k ∷ ns) zero n there d =
    let own : k ≡ n = cc there in
    ap (λ b. hidden_if b k ∷ hide_at (Some n.time) ns) (subst (λ j. same_time j.time n.time ≡ true) (sym own) (same_time-refl n.time))
    ∙ ap (λ j. marked true j ∷ hide_at (Some n.time) ns) own
    ∙ ap (λ js. marked true n ∷ js) (hides-none ns n.time (subst (λ j. among (node_times ns) j.time ≡ false) own d.0))
hides-one (k ∷ ns) (suc p) n there d =
    ap (λ b. hidden_if b k ∷ hide_at (Some n.time) ns) (absent ns p n k.time there d.0) ∙ ap (λ js. k ∷ js) (hides-one ns p n there d.1)

pub hides_item : (ns : List Node) (p : ℕ) (n : Node) → slice_get ns p ≡ Some n → AreDifferent (node_times ns) → hide_at (Some n.time) ns ≡ take p ns ++ (marked true n ∷ drop (p + 1) ns)
hides_item ns p n there d = rw (add-one p) (hides-one ns p n there d)

-- a node settles among those behind the first i
pub inserts_within : (parent : Option Time) (t : Time) (ns : List Node) (i j : ℕ) → StartsAt parent ns i → SettlesAt t (drop i ns) j → i + j ≤ length ns
inserts_within parent t ns i j starts settles =
    let few = starts.within in
    let more = settles.0 in
    let size = length-drop i ns in
    omega (arith, few, more, size)

pub inserts_at : (parent : Option Time) (ns : List Node) (i j : ℕ) (n : Node) → StartsAt parent ns i → SettlesAt n.time (drop i ns) j → AreDifferent (node_times ns) → insert_behind parent n ns ≡ take (i + j) ns ++ (n ∷ drop (i + j) ns)
inserts_at parent ns i j n starts settles d =
    starts.starts d n
    ∙ ap (λ ks. take i ns ++ ks) (settles.1 n refl)
    ∙ sym (append_assoc (take i ns) (take j (drop i ns)) (n ∷ drop j (drop i ns)))
    ∙ ap (λ ks. ks ++ (n ∷ drop j (drop i ns))) (sym (take-add i j ns))
    ∙ ap (λ ks. take (i + j) ns ++ (n ∷ ks)) (drop-drop j i ns)
