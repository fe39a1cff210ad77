-- The values at the keys of slots that are keys with values.
use Rattle.std.proofs.Common.{◌≡◌, ℕ, zero, suc, ◌+◌, Bool, true, false, cond, Option, None, Some, List, [], ◌∷◌, ◌++◌, take, drop, slice_get, refl, ◌∙◌, ap, sym, subst, add-one}
use Rattle.std.specs.Option.{option_map}
use Rattle.std.specs.List.{AllByRecursion}
use Rattle.std.proofs.lemmas.List.{take-append-drop}
use Rattle.std.specs.Map.{keys_of}
use Rattle.std.specs.declared.cmp.Ordering.TheVariants.{Less}
use Rattle.std.specs.Ordering.{is_eq}
use Rattle.std.specs.List.Sorted.{IsStrictlySortedBy}
use Rattle.mrdt_model.proofs.Tables.{same_bytes-eq, same_bytes-refl, same_bytes-sym}
use Rattle.keyed_slots.specs.Slots.{same_key, slot_key, value_at, IsPlaceOf, IsFound, IsRest}
use Rattle.keyed_slots.proofs.Places.{cmp, key_at, get_drop, drop_first}

module _ {V : Type 0} where
  -- what is found at an entry's key is its value
  pub value-own : (es : List (List ℕ × V)) (p : ℕ) (e : List ℕ × V) → IsStrictlySortedBy cmp (keys_of es) → slice_get es p ≡ Some e → value_at es e.0 ≡ Some e.1
  unfolding IsStrictlySortedBy
  value-own [] p e s h = cc
  value-own (x ∷ es) zero e s h =
      let same : x ≡ e = cc in
      subst (λ (f : List ℕ × V). value_at (x ∷ es) f.0 ≡ Some f.1) same (ap (λ q. cond q (Some x.1) (value_at es x.0)) (same_bytes-refl x.0))
  value-own (x ∷ es) (suc p) e s h =
      let above : cmp x.0 e.0 ≡ Less = key_at slot_key (λ i. cmp x.0 i ≡ Less) es p e s.0 h in
      ap (λ q. cond q (Some x.1) (value_at es e.0)) (same_bytes-sym e.0 x.0 ∙ ap is_eq above) ∙ value-own es p e s.1 h

module _ {V : Type 0} (es rest : List (List ℕ × V)) (is : IsRest es rest) where
  -- what is found at the key of the first of the rest is its value
  pub rest-value : (e : List ℕ × V) → IsStrictlySortedBy cmp (keys_of es) → slice_get rest 0 ≡ Some e → value_at es e.0 ≡ Some e.1
  rest-value e sorted at = value-own es is.place e sorted (sym (get_drop es is.place) ∙ ap (λ (xs : List (List ℕ × V)). slice_get xs 0) (sym is.same) ∙ at)

module _ {V : Type 0} (key : List ℕ) where
  skip_before : (xs ys : List (List ℕ × V)) → AllByRecursion (λ j. cmp j key ≡ Less) (keys_of xs) → value_at (xs ++ ys) key ≡ value_at ys key
  skip_before [] ys all = refl
  skip_before (x ∷ xs) ys all = ap (λ q. cond q (Some x.1) (value_at (xs ++ ys) key)) (same_bytes-sym key x.0 ∙ ap is_eq all.0) ∙ skip_before xs ys all.1

  none_above : (ys : List (List ℕ × V)) → AllByRecursion (λ j. cmp key j ≡ Less) (keys_of ys) → value_at ys key ≡ None
  none_above [] all = refl
  none_above (y ∷ ys) all = ap (λ q. cond q (Some y.1) (value_at ys key)) (ap is_eq all.0) ∙ none_above ys all.1

  from_place : (es : List (List ℕ × V)) (p : ℕ) → IsPlaceOf slot_key key es p → value_at es key ≡ value_at (drop p es) key
  from_place es p is = ap (λ (xs : List (List ℕ × V)). value_at xs key) (sym (take-append-drop p es)) ∙ skip_before (take p es) (drop p es) is.before

  -- the value at the key is that of the entry that is found
  pub value-found : (es : List (List ℕ × V)) (p : ℕ) (o : Option (List ℕ × V)) → IsPlaceOf slot_key key es p → IsFound slot_key key es p o → option_map (λ (e : List ℕ × V). e.1) o ≡ value_at es key
  value-found es p None is above = sym (from_place es p is ∙ none_above (drop p es) above)
  value-found es p (Some e) is found =
      sym (from_place es p is ∙ ap (λ (xs : List (List ℕ × V)). value_at xs key) (drop_first es p e found.0) ∙ ap (λ q. cond q (Some e.1) (value_at (drop (suc p) es) key)) (ap (same_key key) found.1 ∙ same_bytes-refl key))

  values_in : (v : V) (xs ys zs : List (List ℕ × V)) (k : List ℕ) → AllByRecursion (λ j. cmp j key ≡ Less) (keys_of xs) → value_at zs k ≡ cond (same_key key k) (Some v) (value_at ys k) → value_at (xs ++ zs) k ≡ cond (same_key key k) (Some v) (value_at (xs ++ ys) k)
  values_in v [] ys zs k all h = h
  values_in v (x ∷ xs) ys zs k all h = step (same_key k x.0) refl (values_in v xs ys zs k all.1 h)
    where
      step : (q : Bool) → same_key k x.0 ≡ q → value_at (xs ++ zs) k ≡ cond (same_key key k) (Some v) (value_at (xs ++ ys) k) → cond q (Some x.1) (value_at (xs ++ zs) k) ≡ cond (same_key key k) (Some v) (cond q (Some x.1) (value_at (xs ++ ys) k))
      step true e rest =
          let apart : same_key key k ≡ false = ap (same_key key) (same_bytes-eq k x.0 e) ∙ same_bytes-sym key x.0 ∙ ap is_eq all.0 in
          sym (ap (λ b. cond b (Some v) (Some x.1)) apart)
      step false e rest = rest

  -- the values with a new entry
  pub inserted-values : (es : List (List ℕ × V)) (p : ℕ) (v : V) → IsPlaceOf slot_key key es p → (k : List ℕ) → value_at (take p es ++ (key, v) ∷ drop p es) k ≡ cond (same_key key k) (Some v) (value_at es k)
  inserted-values es p v is k =
      values_in v (take p es) (drop p es) ((key, v) ∷ drop p es) k is.before (ap (λ q. cond q (Some v) (value_at (drop p es) k)) (same_bytes-sym k key))
      ∙ ap (λ (xs : List (List ℕ × V)). cond (same_key key k) (Some v) (value_at xs k)) (take-append-drop p es)

  replaced_step : (q : Bool) (v w : V) (o : Option V) → cond q (Some v) o ≡ cond q (Some v) (cond q (Some w) o)
  replaced_step true v w o = refl
  replaced_step false v w o = refl

  -- the values with another entry in the place of one
  pub replaced-values : (es : List (List ℕ × V)) (p : ℕ) (e : List ℕ × V) (v : V) → IsPlaceOf slot_key key es p → IsFound slot_key key es p (Some e) → (k : List ℕ) → value_at (take p es ++ (key, v) ∷ drop (p + 1) es) k ≡ cond (same_key key k) (Some v) (value_at es k)
  replaced-values es p e v is found k =
      let more = drop (suc p) es in
      let here : cond (same_key k key) (Some v) (value_at more k) ≡ cond (same_key key k) (Some v) (cond (same_key k e.0) (Some e.1) (value_at more k)) =
      ap (λ q. cond q (Some v) (value_at more k)) (same_bytes-sym k key) ∙ replaced_step (same_key key k) v e.1 (value_at more k)
      ∙ ap (λ q. cond (same_key key k) (Some v) (cond q (Some e.1) (value_at more k))) (same_bytes-sym key k ∙ ap (same_key k) (sym found.1)) in
      ap (λ n. value_at (take p es ++ (key, v) ∷ drop n es) k) (add-one p)
      ∙ values_in v (take p es) (drop p es) ((key, v) ∷ more) k is.before (here ∙ ap (λ (xs : List (List ℕ × V)). cond (same_key key k) (Some v) (value_at xs k)) (sym (drop_first es p e found.0)))
      ∙ ap (λ (xs : List (List ℕ × V)). cond (same_key key k) (Some v) (value_at xs k)) (take-append-drop p es)

  all_in : (P : List ℕ → Type 0) (v : V) (xs ys : List (List ℕ × V)) → AllByRecursion P (keys_of (xs ++ ys)) → P key → AllByRecursion P (keys_of (xs ++ (key, v) ∷ ys))
  all_in P v [] ys all h = (h, all)
  all_in P v (x ∷ xs) ys all h = (all.0, all_in P v xs ys all.1 h)

  sorted_in : (v : V) (xs ys : List (List ℕ × V)) → IsStrictlySortedBy cmp (keys_of (xs ++ ys)) → AllByRecursion (λ j. cmp j key ≡ Less) (keys_of xs) → AllByRecursion (λ j. cmp key j ≡ Less) (keys_of ys) → IsStrictlySortedBy cmp (keys_of (xs ++ (key, v) ∷ ys))
  unfolding IsStrictlySortedBy
  sorted_in v [] ys s before above = (above, s)
  sorted_in v (x ∷ xs) ys s before above = (all_in (λ j. cmp x.0 j ≡ Less) v xs ys s.0 before.0, sorted_in v xs ys s.1 before.1 above)

  -- the keys still rise
  pub inserted-sorted : (es : List (List ℕ × V)) (p : ℕ) (v : V) → IsStrictlySortedBy cmp (keys_of es) → IsPlaceOf slot_key key es p → IsFound slot_key key es p None → IsStrictlySortedBy cmp (keys_of (take p es ++ (key, v) ∷ drop p es))
  inserted-sorted es p v sorted is above = sorted_in v (take p es) (drop p es) (subst (λ (xs : List (List ℕ × V)). IsStrictlySortedBy cmp (keys_of xs)) (sym (take-append-drop p es)) sorted) is.before above

  replaced_keys : (es : List (List ℕ × V)) (p : ℕ) (e : List ℕ × V) (v : V) → slice_get es p ≡ Some e → e.0 ≡ key → keys_of es ≡ keys_of (take p es ++ (key, v) ∷ drop (suc p) es)
  replaced_keys [] p e v h same = cc
  replaced_keys (x ∷ es) zero e v h same = let first : x ≡ e = cc in ap (λ j. j ∷ keys_of es) (ap (λ (f : List ℕ × V). f.0) first ∙ same)
  replaced_keys (x ∷ es) (suc p) e v h same = ap (λ ks. x.0 ∷ ks) (replaced_keys es p e v h same)

  pub replaced-sorted : (es : List (List ℕ × V)) (p : ℕ) (e : List ℕ × V) (v : V) → IsStrictlySortedBy cmp (keys_of es) → IsFound slot_key key es p (Some e) → IsStrictlySortedBy cmp (keys_of (take p es ++ (key, v) ∷ drop (p + 1) es))
  replaced-sorted es p e v sorted found = subst (IsStrictlySortedBy cmp) (replaced_keys es p e v found.0 found.1 ∙ ap (λ n. keys_of (take p es ++ (key, v) ∷ drop n es)) (sym (add-one p))) sorted
