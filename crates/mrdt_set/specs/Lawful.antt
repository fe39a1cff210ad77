-- The elements of an execution, and what is live of each.
use Rattle.std.proofs.Common.{◌≡◌, ◌≢◌, ℕ, Bool, true, false, not, cond, ◌&&◌, ◌||◌, Option, None, Some, is_some, List, [], ◌∷◌, refl, ◌∙◌, ap, sym, subst, arith, ⊎_elim}
use Rattle.std.specs.List.{list_any, AllByRecursion}
use Rattle.std.specs.Map.{keys_of}
use Rattle.std.specs.List.Sorted.{IsStrictlySortedBy}
use Rattle.std.proofs.lemmas.Bool.{and_parts, or_cases, or_left, or_right, both_ways}
use Rattle.mrdt_model.specs.Spelled.{IsBytes}
use Rattle.mrdt_model.specs.Executions.{Event, IsWellFormed, IsLawful}
use Rattle.live_set.specs.Effects.{replacing, removing, apart, is_removed, has_any, live_of}
use Rattle.live_set.specs.UnitReply.{IsAnyReply, no_reply}
use Rattle.live_set.specs.Payloads.{IsNothing}
use Rattle.live_set.specs.Spelling.{KeptFits, AreLive}
use Rattle.live_set.proofs.Lengths.{length-live, each-live}
use Rattle.live_set.proofs.Standing.{live-rising}
use Rattle.live_set.proofs.Holding.{holds-live}
use Rattle.mrdt_set.specs.declared.set.SetOp.{SetOp}
use Rattle.mrdt_set.specs.declared.set.SetOp.TheVariants.{Add, Remove, Clear}
use Rattle.mrdt_set.specs.Members.{Times, same_element, times_at, some_times, all_times}
use Rattle.mrdt_set.specs.Set.{element_of, set_effect, IsSetOp, holds, with_element, elements, members, set_of}
use Rattle.mrdt_model.proofs.Tables.{cmp, insert-all, insert-sorted, insert-any, filter-all, filter-sorted, filter-any, keys-table, value-table}

abbrev pub Events : Type 0
Events = List (Event SetOp (Unit {0}))

-- whether it is the element, where there is one
is_named : List ℕ → Option (List ℕ) → Bool
is_named q None = false
is_named q (Some k) = same_element q k

with-sorted : (o : Option (List ℕ)) (ks : List (List ℕ)) → IsStrictlySortedBy cmp ks → IsStrictlySortedBy cmp (with_element o ks)
with-sorted None ks sorted = sorted
with-sorted (Some k) ks sorted = insert-sorted k ks sorted

pub elements-sorted : (x : Events) → IsStrictlySortedBy cmp (elements x)
unfolding IsStrictlySortedBy
elements-sorted [] = tt
elements-sorted (e ∷ x) = with-sorted (element_of e.operation) (elements x) (elements-sorted x)

with-any : (q : List ℕ) (o : Option (List ℕ)) (ks : List (List ℕ)) → list_any (same_element q) (with_element o ks) ≡ (is_named q o || list_any (same_element q) ks)
unfolding is_named
with-any q None ks = refl
with-any q (Some k) ks = insert-any q k ks

elements-any : (q : List ℕ) (x : Events) → list_any (same_element q) (elements x) ≡ list_any (λ e. is_named q (element_of e.operation)) x
elements-any q [] = refl
elements-any q (e ∷ x) = with-any q (element_of e.operation) (elements x) ∙ ap (λ b. is_named q (element_of e.operation) || b) (elements-any q x)

any-more : (f g : Event SetOp (Unit {0}) → Bool) (x : Events) → ((e : Event SetOp (Unit {0})) → f e ≡ true → g e ≡ true) → list_any f x ≡ true → list_any g x ≡ true
any-more f g [] more h = h
any-more f g (e ∷ x) more h = ⊎_elim (λ here. or_left (g e) (list_any g x) (more e here)) (λ there. or_right (g e) (list_any g x) (any-more f g x more there)) (or_cases (f e) (list_any f x) h)

add-puts : (b : Bool) → is_some (cond b (replacing {V = Unit {0}} tt) (apart {V = Unit {0}})).puts ≡ true → b ≡ true
add-puts true h = refl
add-puts false h = cc

remove-puts : (b : Bool) → is_some (cond b (removing {V = Unit {0}}) (apart {V = Unit {0}})).puts ≡ true → b ≡ true
remove-puts true h = refl
remove-puts false h = cc

puts-named : (q : List ℕ) (op : SetOp) → is_some (set_effect q op).puts ≡ true → is_named q (element_of op) ≡ true
unfolding is_named
puts-named q (Add k) h = add-puts (same_element q k) h
puts-named q (Remove k) h = remove-puts (same_element q k) h
puts-named q Clear h = cc

-- an element that is held is one of the elements
holds-any : (q : List ℕ) (x : Events) → holds x q ≡ true → list_any (same_element q) (elements x) ≡ true
holds-any q x h =
    elements-any q x
    ∙ any-more (λ e. is_some (set_effect q e.operation).puts && not (is_removed (set_effect q) x e.time)) (λ e. is_named q (element_of e.operation)) x
    (λ e put. puts-named q e.operation (and_parts (is_some (set_effect q e.operation).puts) (not (is_removed (set_effect q) x e.time)) put).0) h

pub holds-element : (q : List ℕ) (x : Events) → IsWellFormed IsSetOp IsAnyReply x → holds x q ≡ has_any (live_of (set_effect q) x)
holds-element q x w = holds-live (set_effect q) IsSetOp IsAnyReply x w

pub all-some : (times : Times) → all_times (some_times times) ≡ times
all-some [] = refl
all-some (k ∷ times) = refl

-- what the set has at an element
pub times-set_of : (q : List ℕ) (x : Events) → IsWellFormed IsSetOp IsAnyReply x → times_at (set_of x) q ≡ some_times (live_of (set_effect q) x)
times-set_of q x w =
    value-table (λ k. live_of (set_effect k) x) (members x) q
    ∙ ap (λ b. cond b (Some (live_of (set_effect q) x)) None) (filter-any q (holds x) (elements x)) ∙ at (live_of (set_effect q) x) (holds x q) refl (holds-element q x w)
  where
    at : (live : Times) (b : Bool) → holds x q ≡ b → b ≡ has_any live → cond (b && list_any (same_element q) (elements x)) (Some live) None ≡ some_times live
    at [] true is h = cc
    at [] false is h = refl
    at (k ∷ live) true is h = ap (λ p. cond p (Some (k ∷ live)) None) (holds-any q x is)
    at (k ∷ live) false is h = cc

-- the times that the set has at an element
pub element-times : (q : List ℕ) (x : Events) → IsWellFormed IsSetOp IsAnyReply x → all_times (times_at (set_of x) q) ≡ live_of (set_effect q) x
element-times q x w = ap all_times (times-set_of q x w) ∙ all-some (live_of (set_effect q) x)

pub members-sorted : (x : Events) → IsStrictlySortedBy cmp (members x)
members-sorted x = filter-sorted (holds x) (elements x) (elements-sorted x)

pub keys-set_of : (x : Events) → keys_of (set_of x) ≡ members x
keys-set_of x = keys-table (λ k. live_of (set_effect k) x) (members x)

pub set_of-sorted : (x : Events) → IsStrictlySortedBy cmp (keys_of (set_of x))
set_of-sorted x = subst (IsStrictlySortedBy cmp) (sym (keys-set_of x)) (members-sorted x)

with-bytes : (op : SetOp) (ks : List (List ℕ)) → IsSetOp op → AllByRecursion IsBytes ks → AllByRecursion IsBytes (with_element (element_of op) ks)
with-bytes (Add k) ks known all = insert-all IsBytes k ks known all
with-bytes (Remove k) ks known all = insert-all IsBytes k ks known all
with-bytes Clear ks known all = all

elements-bytes : (x : Events) → IsWellFormed IsSetOp IsAnyReply x → AllByRecursion IsBytes (elements x)
elements-bytes [] w = tt
elements-bytes (e ∷ x) w = with-bytes e.operation (elements x) w.0.operation (elements-bytes x w.1)

-- a member is bytes, and has live times
pub record IsLively (x : Events) (k : List ℕ) : Type 0 where
  pub bytes : IsBytes k
  pub some : live_of (set_effect k) x ≢ []

pub members-lively : (x : Events) → IsLawful IsSetOp IsAnyReply no_reply x → AllByRecursion (IsLively x) (members x)
members-lively x l = filter-all (holds x) IsBytes (IsLively x) (elements x) (λ k bytes held. record { bytes = bytes; some = λ none. both_ways (holds x k) (holds-element k x l.well_formed ∙ ap has_any none) held }) (elements-bytes x l.well_formed)

-- the live times of an element are in the grammar
pub times-live : (k : List ℕ) (x : Events) → IsLawful IsSetOp IsAnyReply no_reply x → AreLive IsNothing (live_of (set_effect k) x)
times-live k x l =
    let few = l.few in
    record {
      few = omega (arith, length-live (set_effect k) x, few);
      rising = live-rising (set_effect k) x;
      each = each-live (set_effect k) IsSetOp IsAnyReply (KeptFits IsNothing) (λ o t v known time is. (time, tt)) x l.well_formed;
    }
