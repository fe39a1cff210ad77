-- The values of a merge, which begins with those of the right side and goes over the keys of the left side.
use Rattle.std.proofs.Common.{◌≡◌, ℕ, Bool, true, false, cond, Option, None, Some, is_some, List, [], ◌∷◌, refl, ◌∙◌, ap, sym, subst}
use Rattle.std.specs.Option.{option_or, unwrap_or}
use Rattle.std.specs.declared.cmp.Ordering.{Ordering}
use Rattle.std.specs.declared.cmp.Ordering.TheVariants.{Less}
use Rattle.std.specs.List.{AllByRecursion}
use Rattle.std.specs.Map.{keys_of}
use Rattle.std.specs.Ordering.{nat_cmp, is_eq}
use Rattle.std.specs.Cmp.Lexicographic.{slice_cmp}
use Rattle.std.specs.List.Sorted.{IsStrictlySortedBy}
use Rattle.mrdt_model.specs.Laws.{Meaning, Merges}
use Rattle.mrdt_map.specs.Keyed.{same_key, value_at, MergesAt}
use Rattle.mrdt_map.specs.Keys.{same_key-eq, same_key-refl, same_key-sym}
use Rattle.mrdt_map.specs.AtKeys.{merges-right, merges-both, merges-new}

abbrev cmp : List ℕ → List ℕ → Ordering
cmp = slice_cmp nat_cmp

module _ {V O R Q A : Type 0} (t : Meaning V O R Q A) where
  -- the value that a merge makes, or else that of the right side
  pub new-or : (i l r : V) (m : Option V) → t.stands i [] → Merges t i l r (unwrap_or m r) → MergesAt t None (Some l) (Some r) (option_or m (Some r))
  new-or i l r None initial merge = merges-new t i l r r initial merge
  new-or i l r (Some v) initial merge = merges-new t i l r v initial merge

  pub both-or : (o l r : V) (m : Option V) → Merges t o l r (unwrap_or m r) → MergesAt t (Some o) (Some l) (Some r) (option_or m (Some r))
  both-or o l r None merge = merges-both t o l r r merge
  both-or o l r (Some v) merge = merges-both t o l r v merge

-- keys above another are not that one
above-apart : {V : Type 0} (key k : List ℕ) (more : List (List ℕ × V)) → AllByRecursion (λ j. cmp key j ≡ Less) (keys_of more) → is_some (value_at more k) ≡ true → same_key key k ≡ false
above-apart key k [] above found = cc
above-apart {V} key k (e ∷ more) above found = at (same_key k e.0) refl found (above-apart key k more above.1)
  where
    at : (p : Bool) → same_key k e.0 ≡ p → is_some (cond p (Some e.1) (value_at more k)) ≡ true → (is_some (value_at more k) ≡ true → same_key key k ≡ false) → same_key key k ≡ false
    at true is here later = ap (same_key key) (same_key-eq k e.0 is) ∙ ap is_eq above.0
    at false is there later = later there

-- the values at keys that are not to come are merged, and those at keys that are to come are still the right side's
pub record MergedSoFar {V O R Q A : Type 0} (t : Meaning V O R Q A) (base left right rest merged : List (List ℕ × V)) : Type 0 where
  pub values : (k : List ℕ) → value_at rest k ≡ None → MergesAt t (value_at base k) (value_at left k) (value_at right k) (value_at merged k)
  pub still : (k : List ℕ) → is_some (value_at rest k) ≡ true → value_at merged k ≡ value_at right k
  pub sorted : IsStrictlySortedBy cmp (keys_of rest)

-- before any key
pub merged-start : {V O R Q A : Type 0} (t : Meaning V O R Q A) (base left right rest merged : List (List ℕ × V)) → rest ≡ left → merged ≡ right → IsStrictlySortedBy cmp (keys_of left) → MergedSoFar t base left right rest merged
merged-start t base left right rest merged is are sorted = record {
  values = λ k none.
      subst (λ o. MergesAt t (value_at base k) o (value_at right k) (value_at merged k)) (sym (ap (λ es. value_at es k) (sym is) ∙ none))
      (subst (λ o. MergesAt t (value_at base k) None (value_at right k) o) (ap (λ es. value_at es k) (sym are)) (merges-right t (value_at base k) (value_at right k) (value_at right k) (λ y l stands. stands)));
  still = λ k some. ap (λ es. value_at es k) are;
  sorted = subst (λ es. IsStrictlySortedBy cmp (keys_of es)) (sym is) sorted;
}

module _ {V O R Q A : Type 0} (t : Meaning V O R Q A) (base left right rest more merged : List (List ℕ × V)) (key : List ℕ) (mine : V) (is : rest ≡ (key, mine) ∷ more) (found : value_at left key ≡ Some mine) (so_far : MergedSoFar t base left right rest merged) where
  first : value_at rest key ≡ Some mine
  first = ap (λ es. value_at es key) is ∙ ap (λ p. cond p (Some mine) (value_at more key)) (same_key-refl key)

  others : (k : List ℕ) → same_key key k ≡ false → value_at rest k ≡ value_at more k
  others k other = ap (λ es. value_at es k) is ∙ ap (λ p. cond p (Some mine) (value_at more k)) (same_key-sym k key ∙ other)

  tail : AllByRecursion (λ j. cmp key j ≡ Less) (keys_of more) × IsStrictlySortedBy cmp (keys_of more)
  unfolding IsStrictlySortedBy
  tail = subst (λ es. IsStrictlySortedBy cmp (keys_of es)) is so_far.sorted

  to_come : (k : List ℕ) → is_some (value_at more k) ≡ true → value_at merged k ≡ value_at right k
  to_come k some = so_far.still k (ap is_some (others k (above-apart key k more tail.0 some)) ∙ some)

  -- what the left side changes at the next key is merged
  pub merged-next : (new : List (List ℕ × V)) → MergesAt t (value_at base key) (Some mine) (value_at merged key) (value_at new key) → ((k : List ℕ) → same_key key k ≡ false → value_at new k ≡ value_at merged k) → MergedSoFar t base left right more new
  merged-next new here kept = record {
    values = λ k none. at k none (same_key key k) refl;
    still = λ k some. kept k (above-apart key k more tail.0 some) ∙ to_come k some;
    sorted = tail.1;
  }
    where
      own : MergesAt t (value_at base key) (value_at left key) (value_at right key) (value_at new key)
      own =
          subst (λ o. MergesAt t (value_at base key) o (value_at right key) (value_at new key)) (sym found)
          (subst (λ o. MergesAt t (value_at base key) (Some mine) o (value_at new key)) (so_far.still key (ap is_some first)) here)

      at : (k : List ℕ) → value_at more k ≡ None → (p : Bool) → same_key key k ≡ p → MergesAt t (value_at base k) (value_at left k) (value_at right k) (value_at new k)
      at k none true e = subst (λ j. MergesAt t (value_at base j) (value_at left j) (value_at right j) (value_at new j)) (same_key-eq key k e) own
      at k none false e = subst (MergesAt t (value_at base k) (value_at left k) (value_at right k)) (sym (kept k e)) (so_far.values k (others k e ∙ none))

-- a value is set at a key
module _ {V O R Q A : Type 0} (t : Meaning V O R Q A) (key j : List ℕ) (v : V) (both table : List (List ℕ × V)) (set : (k : List ℕ) → value_at table k ≡ cond (same_key j k) (Some v) (value_at both k)) (same : j ≡ key) where
  pub set-here : (base right : Option V) (left : V) → MergesAt t base (Some left) right (Some v) → MergesAt t base (Some left) right (value_at table key)
  set-here base right left made = subst (MergesAt t base (Some left) right) (sym (set key ∙ ap (λ q. cond q (Some v) (value_at both key)) (ap (λ i. same_key i key) same ∙ same_key-refl key))) made

  pub set-others : (k : List ℕ) → same_key key k ≡ false → value_at table k ≡ value_at both k
  set-others k other = set k ∙ ap (λ q. cond q (Some v) (value_at both k)) (ap (λ i. same_key i k) same ∙ other)
