-- A list that another is woven into.
use Rattle.std.proofs.Common.{◌≡◌, ℕ, zero, suc, ◌+◌, ◌≤◌, Bool, true, false, cond, Some, List, [], ◌∷◌, ◌++◌, length, take, drop, slice_get, take-append-drop, refl, ◌∙◌, ap, sym, arith, append_assoc, length-append}
use Rattle.std.proofs.lemmas.List.{take_at, drop_at, drop-drop}
use Rattle.mrdt_model.specs.Times.{same_time, is_earlier}
use Rattle.mrdt_sequence.specs.declared.node.Node.{Node}
use Rattle.mrdt_sequence.specs.Edits.{StandsFrom, WeavesNext}
use Rattle.mrdt_sequence.specs.Order.{joined, woven}
use Rattle.mrdt_sequence.specs.Ordered.{woven-none}
use Rattle.mrdt_sequence.proofs.Items.{node_around}

-- the nodes in front of a place are woven, and the others are ahead
pub record IsWoven (left right made : List Node) (place : ℕ) (mine others : List Node) : Type 0 where
  pub front : List Node
  pub long : length front ≡ place
  pub both : made ≡ front ++ mine
  pub rest : woven left right ≡ front ++ woven mine others

pub woven_start : (left right made : List Node) → made ≡ left → IsWoven left right made 0 left right
woven_start left right made is = record { front = []; long = refl; both = is; rest = refl }

pub woven_from : (left right made : List Node) (place : ℕ) (mine others : List Node) → IsWoven left right made place mine others → StandsFrom place made mine
woven_from left right made place mine others w = record {
  within = let size = ap length w.both ∙ length-append w.front mine in omega (arith, size, w.long);
  same = ap (drop place) w.both ∙ drop_at w.front mine place w.long;
}

module _ (left right old : List Node) (place : ℕ) (mine others : List Node) (w : IsWoven left right old place mine others) (new mine_behind others_behind : List Node) (next : WeavesNext place old mine others new mine_behind others_behind) where
  abbrev longer : List Node
  longer = w.front ++ next.node ∷ []

  longer-long : length longer ≡ place + 1
  longer-long = length-append w.front (next.node ∷ []) ∙ ap (λ n. n + 1) w.long

  longer-made : new ≡ longer ++ mine_behind
  longer-made =
      next.made
      ∙ ap (λ ns. ns ++ (next.node ∷ mine_behind)) (ap (take place) w.both ∙ take_at w.front mine place w.long)
      ∙ sym (append_assoc w.front (next.node ∷ []) mine_behind)

  pub woven_more : IsWoven left right new (place + 1) mine_behind others_behind
  woven_more = record {
    front = longer;
    long = longer-long;
    both = longer-made;
    rest = w.rest ∙ ap (λ ns. w.front ++ ns) next.first ∙ sym (append_assoc w.front (next.node ∷ []) (woven mine_behind others_behind));
  }

  pub woven_room : place + 1 ≤ length new
  woven_room = let size = ap length longer-made ∙ length-append longer mine_behind in omega (arith, size, longer-long)

pub woven_end : (left right made : List Node) (place : ℕ) (mine others : List Node) → IsWoven left right made place mine others → others ≡ [] → made ≡ woven left right
woven_end left right made place mine others w none =
    w.both ∙ sym (ap (λ ns. w.front ++ ns) (ap (woven mine) none ∙ woven-none mine)) ∙ sym w.rest

-- the node at a place, where others are ahead from there
pub stands_there : (place : ℕ) (made mine : List Node) (m : Node) (ms : List Node) → StandsFrom place made mine → mine ≡ m ∷ ms → slice_get made place ≡ Some m
stands_there place made mine m ms from is = by place made (from.same ∙ is)
  where
    by : (p : ℕ) (ns : List Node) → drop p ns ≡ m ∷ ms → slice_get ns p ≡ Some m
    by zero [] at = absurd (cc at)
    by zero (n ∷ ns) at = let own : n ≡ m = cc at in ap Some own
    by (suc p) [] at = absurd (cc at)
    by (suc p) (n ∷ ns) at = by p ns at

-- the first of two nodes in front
module _ (m o : Node) (ms os : List Node) where
  woven-same : same_time m.time o.time ≡ true → woven (m ∷ ms) (o ∷ os) ≡ joined m o ∷ woven ms os
  woven-same same = ap (λ b. cond b (joined m o ∷ woven ms os) (cond (is_earlier m.time o.time) (o ∷ woven (m ∷ ms) os) (m ∷ woven ms (o ∷ os)))) same

  woven-other : same_time m.time o.time ≡ false → is_earlier m.time o.time ≡ true → woven (m ∷ ms) (o ∷ os) ≡ o ∷ woven (m ∷ ms) os
  woven-other apart newer =
      ap (λ b. cond b (joined m o ∷ woven ms os) (cond (is_earlier m.time o.time) (o ∷ woven (m ∷ ms) os) (m ∷ woven ms (o ∷ os)))) apart
      ∙ ap (λ b. cond b (o ∷ woven (m ∷ ms) os) (m ∷ woven ms (o ∷ os))) newer

  woven-mine : same_time m.time o.time ≡ false → is_earlier m.time o.time ≡ false → woven (m ∷ ms) (o ∷ os) ≡ m ∷ woven ms (o ∷ os)
  woven-mine apart older =
      ap (λ b. cond b (joined m o ∷ woven ms os) (cond (is_earlier m.time o.time) (o ∷ woven (m ∷ ms) os) (m ∷ woven ms (o ∷ os)))) apart
      ∙ ap (λ b. cond b (o ∷ woven (m ∷ ms) os) (m ∷ woven ms (o ∷ os))) older

module _ (place : ℕ) (old mine others : List Node) (o : Node) (os : List Node) (from : StandsFrom place old mine) (second : others ≡ o ∷ os) where
  module _ (m : Node) (ms : List Node) (first : mine ≡ m ∷ ms) where
    both-are : woven mine others ≡ woven (m ∷ ms) (o ∷ os)
    both-are = ap (λ ns. woven ns others) first ∙ ap (woven (m ∷ ms)) second

    pub weaves_joined : (new mine_behind others_behind : List Node) → same_time m.time o.time ≡ true → new ≡ take place old ++ (joined m o ∷ drop (place + 1) old) → mine_behind ≡ drop 1 mine → others_behind ≡ drop 1 others → WeavesNext place old mine others new mine_behind others_behind
    weaves_joined new mine_behind others_behind same is one two =
        let ahead : mine_behind ≡ ms = one ∙ ap (drop 1) first in
        let ahead_too : others_behind ≡ os = two ∙ ap (drop 1) second in
        let rest : drop (place + 1) old ≡ mine_behind = sym (drop-drop 1 place old) ∙ ap (drop 1) from.same ∙ sym one in
        record {
          node = joined m o;
          first = both-are ∙ woven-same m o ms os same ∙ ap (λ ns. joined m o ∷ woven ns os) (sym ahead) ∙ ap (λ ns. joined m o ∷ woven mine_behind ns) (sym ahead_too);
          made = is ∙ ap (λ ns. take place old ++ (joined m o ∷ ns)) rest;
          less = omega (arith, ap length first, ap length second, ap length ahead, ap length ahead_too);
        }

    pub weaves_added : (new others_behind : List Node) → same_time m.time o.time ≡ false → is_earlier m.time o.time ≡ true → new ≡ take place old ++ (o ∷ drop place old) → others_behind ≡ drop 1 others → WeavesNext place old mine others new mine others_behind
    weaves_added new others_behind apart newer is two =
        let ahead_too : others_behind ≡ os = two ∙ ap (drop 1) second in
        record {
          node = o;
          first = both-are ∙ woven-other m o ms os apart newer ∙ ap (λ ns. o ∷ woven ns os) (sym first) ∙ ap (λ ns. o ∷ woven mine ns) (sym ahead_too);
          made = is ∙ ap (λ ns. take place old ++ (o ∷ ns)) from.same;
          less = omega (arith, ap length second, ap length ahead_too);
        }

    pub weaves_kept : (mine_behind : List Node) → same_time m.time o.time ≡ false → is_earlier m.time o.time ≡ false → mine_behind ≡ drop 1 mine → WeavesNext place old mine others old mine_behind others
    weaves_kept mine_behind apart older one =
        let ahead : mine_behind ≡ ms = one ∙ ap (drop 1) first in
        record {
          node = m;
          first = both-are ∙ woven-mine m o ms os apart older ∙ ap (λ ns. m ∷ woven ns (o ∷ os)) (sym ahead) ∙ ap (λ ns. m ∷ woven mine_behind ns) (sym second);
          made = sym (take-append-drop place old) ∙ ap (λ ns. take place old ++ ns) (from.same ∙ first) ∙ ap (λ ns. take place old ++ (m ∷ ns)) (sym ahead);
          less = omega (arith, ap length first, ap length ahead);
        }

  pub weaves_last : (new others_behind : List Node) → mine ≡ [] → new ≡ take place old ++ (o ∷ drop place old) → others_behind ≡ drop 1 others → WeavesNext place old mine others new mine others_behind
  weaves_last new others_behind none is two =
      let ahead_too : others_behind ≡ os = two ∙ ap (drop 1) second in
      record {
        node = o;
        first = ap (λ ns. woven ns others) none ∙ second ∙ ap (λ ns. o ∷ ns) (sym ahead_too) ∙ ap (λ ns. o ∷ woven ns others_behind) (sym none);
        made = is ∙ ap (λ ns. take place old ++ (o ∷ ns)) from.same;
        less = omega (arith, ap length second, ap length ahead_too);
      }

-- two nodes of one time at a place
pub joined_hidden : (ns : List Node) (p : ℕ) (n o : Node) → slice_get ns p ≡ Some n → n.hidden ≡ true → ns ≡ take p ns ++ (joined n o ∷ drop (p + 1) ns)
joined_hidden ns p n o there hidden = node_around ns p n there ∙ ap (λ b. take p ns ++ (cond b n o ∷ drop (p + 1) ns)) (sym hidden)

pub joined_same : (ns : List Node) (p : ℕ) (n o : Node) → slice_get ns p ≡ Some n → n ≡ o → ns ≡ take p ns ++ (joined n o ∷ drop (p + 1) ns)
joined_same ns p n o there same = node_around ns p n there ∙ ap (λ k. take p ns ++ (k ∷ drop (p + 1) ns)) (by n.hidden)
  where
    by : (b : Bool) → n ≡ cond b n o
    by true = refl
    by false = same

pub joined_other : (n o : Node) → n.hidden ≡ false → joined n o ≡ o
joined_other n o shown = ap (λ b. cond b n o) shown
