-- Where a key stands among slots whose keys rise.
use Rattle.std.proofs.Common.{◌≡◌, ℕ, zero, suc, ◌-◌, ◌<◌, ◌≤◌, Bool, true, false, None, Some, List, [], ◌∷◌, length, map, take, drop, slice_get, refl, ◌∙◌, ap, sym, subst, arith, drop_of_length-le}
use Rattle.std.specs.Bool.{◌==◌}
use Rattle.std.specs.List.{AllByRecursion}
use Rattle.std.specs.Str.{bytes_eq}
use Rattle.std.specs.declared.cmp.Ordering.{Ordering}
use Rattle.std.specs.declared.cmp.Ordering.TheVariants.{Less, Equal, Greater}
use Rattle.std.specs.Ordering.{nat_cmp, is_lt, is_eq, ordering_index, ordering_reverse}
use Rattle.std.specs.Cmp.Lexicographic.{slice_cmp}
use Rattle.std.specs.List.Sorted.{IsStrictlySortedBy}
use Rattle.std.proofs.lemmas.Cmp.{nat_list_cmp_total}
use Rattle.std.proofs.lemmas.Map.Text.{is_eq-slice_cmp}
use Rattle.std.proofs.lemmas.Option.{slice_get-get_or}
use Rattle.mrdt_model.proofs.Tables.{same_bytes-eq}
use Rattle.shared_list.specs.Trees.{IsPartitioned}
use Rattle.keyed_slots.specs.Slots.{same_key, IsAbove, AreRising, is_before, IsPlaceOf, IsFound, IsRest}

abbrev pub cmp : List ℕ → List ℕ → Ordering
cmp = slice_cmp nat_cmp

from_lt : (o : Ordering) → is_lt o ≡ true → o ≡ Less
from_lt Less h = refl
from_lt Equal h = cc
from_lt Greater h = cc

greater : (o : Ordering) → is_lt o ≡ false → is_eq o ≡ false → o ≡ Greater
greater Less h e = cc
greater Equal h e = cc
greater Greater h e = refl

reversed : (j k : List ℕ) → cmp j k ≡ Greater → cmp k j ≡ Less
reversed j k h = nat_list_cmp_total.antisymm k j ∙ ap ordering_reverse h

below_trans : (k j : List ℕ) (ks : List (List ℕ)) → cmp k j ≡ Less → AllByRecursion (λ i. cmp j i ≡ Less) ks → AllByRecursion (λ i. cmp k i ≡ Less) ks
below_trans k j [] h b = tt
below_trans k j (i ∷ ks) h b = (nat_list_cmp_total.trans k j i h b.0, below_trans k j ks h b.1)

-- the test that an order is `Less`
pub index_lt : (o : Ordering) → (ordering_index o == 0) ≡ is_lt o
index_lt Less = refl
index_lt Equal = refl
index_lt Greater = refl

pub less-from_index : (o : Ordering) → (ordering_index o == 0) ≡ true → o ≡ Less
less-from_index Less h = refl
less-from_index Equal h = cc
less-from_index Greater h = cc

pub index-less : (o : Ordering) → o ≡ Less → (ordering_index o == 0) ≡ true
index-less Less h = refl
index-less Equal h = cc
index-less Greater h = cc

-- keys are the same where their bytes are
pub bytes-key : (j k : List ℕ) → bytes_eq j k ≡ true → j ≡ k
bytes-key j k h = same_bytes-eq j k (is_eq-slice_cmp j k ∙ h)

-- the slot at a place is the first from there on
pub drop_first : {S : Type 0} (es : List S) (p : ℕ) (e : S) → slice_get es p ≡ Some e → drop p es ≡ e ∷ drop (suc p) es
drop_first [] p e h = cc
drop_first (x ∷ es) zero e h = let same : x ≡ e = cc in ap (λ y. y ∷ es) same
drop_first (x ∷ es) (suc p) e h = drop_first es p e h

-- a list with a first element
pub first_is : {S : Type 0} (xs : List S) (x : S) → slice_get xs 0 ≡ Some x → xs ≡ x ∷ drop 1 xs
first_is [] x h = cc
first_is (y ∷ xs) x h = let same : y ≡ x = cc in ap (λ z. z ∷ xs) same

pub shorter : {S : Type 0} (xs ys : List S) (x : S) → slice_get xs 0 ≡ Some x → ys ≡ drop 1 xs → length ys < length xs
shorter xs ys x at is = omega (arith, ap length is, ap length (first_is xs x at))

-- and one without
pub none_first : {S : Type 0} (xs : List S) → slice_get xs 0 ≡ None → xs ≡ []
none_first [] h = refl
none_first (x ∷ xs) h = cc

pub no_last : {S : Type 0} (xs : List S) → slice_get xs (length xs - 1) ≡ None → xs ≡ []
no_last [] h = refl
no_last (x ∷ xs) h = let some = slice_get-get_or (x ∷ xs) (length (x ∷ xs) - 1) x (omega arith) in cc

pub get_drop : {S : Type 0} (xs : List S) (n : ℕ) → slice_get (drop n xs) 0 ≡ slice_get xs n
get_drop [] zero = refl
get_drop [] (suc n) = refl
get_drop (x ∷ xs) zero = refl
get_drop (x ∷ xs) (suc n) = get_drop xs n

drop_more : {S : Type 0} (xs : List S) (n : ℕ) → drop 1 (drop n xs) ≡ drop (suc n) xs
drop_more [] zero = refl
drop_more [] (suc n) = refl
drop_more (x ∷ xs) zero = refl
drop_more (x ∷ xs) (suc n) = drop_more xs n

-- behind the first of the rest there are fewer
pub rest-next : {S : Type 0} (es rest : List S) → IsRest es rest → (more : List S) → more ≡ drop 1 rest → IsRest es more
rest-next es rest is more next = record { place = suc is.place; same = next ∙ ap (drop 1) is.same ∙ drop_more es is.place }

module _ {S : Type 0} (key_of : S → List ℕ) where
  -- what holds of all keys holds of each
  pub key_at : (P : List ℕ → Type 0) (es : List S) (k : ℕ) (x : S) → AllByRecursion P (map key_of es) → slice_get es k ≡ Some x → P (key_of x)
  key_at P [] k x all h = cc
  key_at P (e ∷ es) zero x all h = let same : e ≡ x = cc in subst (λ (f : S). P (key_of f)) same all.0
  key_at P (e ∷ es) (suc k) x all h = key_at P es k x all.1 h

  -- where the keys rise, those before a key stand in front
  pub partitioned : (key : List ℕ) (es : List S) → AreRising key_of es → IsPartitioned (is_before key_of key) es
  unfolding IsStrictlySortedBy
  partitioned key [] s i j x y le p q h = cc
  partitioned key (e ∷ es) s zero zero x y le p q h = let same : x ≡ y = cc in subst (λ (f : S). is_before key_of key f ≡ true) (sym same) h
  partitioned key (e ∷ es) s zero (suc j) x y le p q h =
      let same : e ≡ x = cc in
      let above : cmp (key_of e) (key_of y) ≡ Less = key_at (λ i. cmp (key_of e) i ≡ Less) es j y s.0 q in
      subst (λ (f : S). is_before key_of key f ≡ true) same (ap is_lt (nat_list_cmp_total.trans (key_of e) (key_of y) key above (from_lt (cmp (key_of y) key) h)))
  partitioned key (e ∷ es) s (suc i) zero x y le p q h = absurd (omega arith)
  partitioned key (e ∷ es) s (suc i) (suc j) x y le p q h = partitioned key es s.1 i j x y (omega arith) p q h

  pub rising-drop : (es : List S) (p : ℕ) → AreRising key_of es → AreRising key_of (drop p es)
  unfolding IsStrictlySortedBy
  rising-drop [] zero s = s
  rising-drop [] (suc p) s = s
  rising-drop (e ∷ es) zero s = s
  rising-drop (e ∷ es) (suc p) s = rising-drop es p s.1

  module _ (key : List ℕ) where
    -- of keys that rise, all stand before a key where the last does
    pub last-above : (es : List S) (k : ℕ) (e : S) → AreRising key_of es → suc k ≡ length es → slice_get es k ≡ Some e → cmp (key_of e) key ≡ Less → IsAbove key (map key_of es)
    unfolding IsStrictlySortedBy
    last-above [] k e s many h less = cc
    last-above (x ∷ []) zero e s many h less = let same : e ≡ x = cc in (subst (λ (f : S). cmp (key_of f) key ≡ Less) same less, tt)
    last-above (x ∷ y ∷ es) zero e s many h less = absurd (omega arith)
    last-above (x ∷ es) (suc k) e s many h less =
        (nat_list_cmp_total.trans (key_of x) (key_of e) key (key_at (λ i. cmp (key_of x) i ≡ Less) es k e s.0 h) less, last-above es k e s.1 (omega arith) h less)

    pub one-above : (es : List S) (k : ℕ) (e : S) → slice_get es k ≡ Some e → IsAbove key (map key_of es) → cmp (key_of e) key ≡ Less
    one-above es k e h above = key_at (λ j. cmp j key ≡ Less) es k e above h

    before_place : (es : List S) (p : ℕ) → ((k : ℕ) (x : S) → k < p → slice_get es k ≡ Some x → is_before key_of key x ≡ true) → AllByRecursion (λ j. cmp j key ≡ Less) (map key_of (take p es))
    before_place [] zero h = tt
    before_place [] (suc p) h = tt
    before_place (e ∷ es) zero h = tt
    before_place (e ∷ es) (suc p) h = (from_lt (cmp (key_of e) key) (h zero e (omega arith) refl), before_place es p (λ k x lt is. h (suc k) x (omega arith) is))

    behind_place : (es : List S) (p : ℕ) → ((k : ℕ) (x : S) → p ≤ k → slice_get es k ≡ Some x → is_before key_of key x ≡ false) → AllByRecursion (λ j. is_lt (cmp j key) ≡ false) (map key_of (drop p es))
    behind_place [] zero h = tt
    behind_place [] (suc p) h = tt
    behind_place (e ∷ es) zero h = (h zero e (omega arith) refl, behind_place es zero (λ k x le is. h (suc k) x (omega arith) is))
    behind_place (e ∷ es) (suc p) h = behind_place es p (λ k x le is. h (suc k) x (omega arith) is)

    -- where a search ends
    pub placed : (es : List S) (p : ℕ) → p ≤ length es → ((k : ℕ) (x : S) → k < p → slice_get es k ≡ Some x → is_before key_of key x ≡ true) → ((k : ℕ) (x : S) → p ≤ k → slice_get es k ≡ Some x → is_before key_of key x ≡ false) → IsPlaceOf key_of key es p
    placed es p within before behind = record { within = within; before = before_place es p before; behind = behind_place es p behind }

    -- past the end no slot is found
    pub found-end : (es : List S) (p : ℕ) → length es ≤ p → IsFound key_of key es p None
    found-end es p end = subst (λ (xs : List S). AllByRecursion (λ j. cmp key j ≡ Less) (map key_of xs)) (sym (drop_of_length-le es end)) tt

    -- and none where another key stands at the place
    pub found-other : (es : List S) (p : ℕ) (e : S) → AreRising key_of es → IsPlaceOf key_of key es p → slice_get es p ≡ Some e → same_key (key_of e) key ≡ false → IsFound key_of key es p None
    unfolding IsStrictlySortedBy
    found-other es p e rising is at other =
        let front = drop_first es p e at in
        let tail : AreRising key_of (e ∷ drop (suc p) es) = subst (AreRising key_of) front (rising-drop es p rising) in
        let behind = subst (λ (xs : List S). AllByRecursion (λ j. is_lt (cmp j key) ≡ false) (map key_of xs)) front is.behind in
        let above : cmp key (key_of e) ≡ Less = reversed (key_of e) key (greater (cmp (key_of e) key) behind.0 other) in
        subst (λ (xs : List S). AllByRecursion (λ j. cmp key j ≡ Less) (map key_of xs)) (sym front) (above, below_trans key (key_of e) (map key_of (drop (suc p) es)) above tail.0)
