-- Slots without one, at its place.
use Rattle.std.proofs.Common.{◌≡◌, ℕ, zero, suc, ◌+◌, Bool, true, false, cond, Option, None, Some, List, [], ◌∷◌, ◌++◌, take, drop, refl, ◌∙◌, ap, sym, subst, add-one}
use Rattle.std.specs.List.{AllByRecursion}
use Rattle.std.proofs.lemmas.List.{take-append-drop}
use Rattle.std.specs.Map.{keys_of}
use Rattle.std.specs.declared.cmp.Ordering.TheVariants.{Less}
use Rattle.std.specs.Ordering.{is_eq}
use Rattle.std.specs.List.Sorted.{IsStrictlySortedBy}
use Rattle.mrdt_model.proofs.Tables.{cmp, same_bytes-eq, same_bytes-sym, none-below}
use Rattle.keyed_slots.specs.Slots.{same_key, slot_key, value_at, IsPlaceOf, IsFound}
use Rattle.keyed_slots.proofs.Places.{drop_first, rising-drop}

module _ {V : Type 0} (key : List ℕ) (e : List ℕ × V) (is : e.0 ≡ key) where
  values_out : (xs ys : List (List ℕ × V)) (k : List ℕ) → AllByRecursion (λ j. cmp j key ≡ Less) (keys_of xs) → AllByRecursion (λ j. cmp e.0 j ≡ Less) (keys_of ys) → value_at (xs ++ ys) k ≡ cond (same_key key k) None (value_at (xs ++ e ∷ ys) k)
  values_out [] ys k below above = at (same_key key k) (same_key k e.0) refl (ap (same_key k) is ∙ same_bytes-sym k key)
    where
      at : (p q : Bool) → same_key key k ≡ p → q ≡ same_key key k → value_at ys k ≡ cond p None (cond q (Some e.1) (value_at ys k))
      at true q here same = subst (λ j. value_at ys j ≡ None) (is ∙ same_bytes-eq key k here) (none-below e.0 ys above)
      at false true here same = let no : true ≡ false = same ∙ here in cc
      at false false here same = refl
  values_out (x ∷ xs) ys k below above = at (same_key k x.0) refl (values_out xs ys k below.1 above)
    where
      at : (q : Bool) → same_key k x.0 ≡ q → value_at (xs ++ ys) k ≡ cond (same_key key k) None (value_at (xs ++ e ∷ ys) k)
          → cond q (Some x.1) (value_at (xs ++ ys) k) ≡ cond (same_key key k) None (cond q (Some x.1) (value_at (xs ++ e ∷ ys) k))
      at true here rest =
          let apart : same_key key k ≡ false = ap (same_key key) (same_bytes-eq k x.0 here) ∙ same_bytes-sym key x.0 ∙ ap is_eq below.0 in
          sym (ap (λ b. cond b None (Some x.1)) apart)
      at false here rest = rest

all_out : {V : Type 0} (P : List ℕ → Type 0) (es : List (List ℕ × V)) (p : ℕ) → AllByRecursion P (keys_of es) → AllByRecursion P (keys_of (take p es ++ drop (suc p) es))
all_out P [] zero all = tt
all_out P [] (suc p) all = tt
all_out P (e ∷ es) zero all = all.1
all_out P (e ∷ es) (suc p) all = (all.0, all_out P es p all.1)

sorted_out : {V : Type 0} (es : List (List ℕ × V)) (p : ℕ) → IsStrictlySortedBy cmp (keys_of es) → IsStrictlySortedBy cmp (keys_of (take p es ++ drop (suc p) es))
unfolding IsStrictlySortedBy
sorted_out [] zero s = tt
sorted_out [] (suc p) s = tt
sorted_out (e ∷ es) zero s = s.1
sorted_out (e ∷ es) (suc p) s = (all_out (λ j. cmp e.0 j ≡ Less) es p s.0, sorted_out es p s.1)

-- the keys still rise
pub removed-sorted : {V : Type 0} (es : List (List ℕ × V)) (p : ℕ) → IsStrictlySortedBy cmp (keys_of es) → IsStrictlySortedBy cmp (keys_of (take p es ++ drop (p + 1) es))
removed-sorted es p sorted = subst (λ n. IsStrictlySortedBy cmp (keys_of (take p es ++ drop n es))) (sym (add-one p)) (sorted_out es p sorted)

module _ {V : Type 0} (key : List ℕ) (es : List (List ℕ × V)) (p : ℕ) (sorted : IsStrictlySortedBy cmp (keys_of es)) (place : IsPlaceOf slot_key key es p) where
  -- the values without that of a slot that is found
  pub removed-values : (e : List ℕ × V) → IsFound slot_key key es p (Some e) → (k : List ℕ) → value_at (take p es ++ drop (p + 1) es) k ≡ cond (same_key key k) None (value_at es k)
  unfolding IsStrictlySortedBy
  removed-values e found k =
      let front = drop_first es p e found.0 in
      let tail : IsStrictlySortedBy cmp (keys_of (e ∷ drop (suc p) es)) = subst (λ (xs : List (List ℕ × V)). IsStrictlySortedBy cmp (keys_of xs)) front (rising-drop slot_key es p sorted) in
      ap (λ n. value_at (take p es ++ drop n es) k) (add-one p)
      ∙ values_out key e found.1 (take p es) (drop (suc p) es) k place.before tail.0
      ∙ ap (λ (xs : List (List ℕ × V)). cond (same_key key k) None (value_at (take p es ++ xs) k)) (sym front)
      ∙ ap (λ (xs : List (List ℕ × V)). cond (same_key key k) None (value_at xs k)) (take-append-drop p es)

-- where no slot is found there is no value
pub absent-values : {V : Type 0} (key : List ℕ) (es : List (List ℕ × V)) → value_at es key ≡ None → (k : List ℕ) → value_at es k ≡ cond (same_key key k) None (value_at es k)
absent-values key es none k = at (same_key key k) refl
  where
    at : (q : Bool) → same_key key k ≡ q → value_at es k ≡ cond q None (value_at es k)
    at true here = subst (λ j. value_at es j ≡ None) (same_bytes-eq key k here) none
    at false here = refl
