-- Tables that are merged into one another, element by element.
use Rattle.std.proofs.Common.{◌≡◌, ℕ, Bool, true, false, cond, Option, None, Some, is_some, List, [], ◌∷◌, refl, ◌∙◌, ap, sym, subst}
use Rattle.std.specs.List.{AllByRecursion}
use Rattle.std.specs.Map.{keys_of}
use Rattle.std.specs.declared.cmp.Ordering.TheVariants.{Less}
use Rattle.std.specs.Ordering.{is_eq}
use Rattle.std.specs.List.Sorted.{IsStrictlySortedBy}
use Rattle.mrdt_model.proofs.Tables.{cmp, same_bytes-eq, same_bytes-refl, same_bytes-sym}
use Rattle.mrdt_set.specs.Members.{Times, same_element, times_at, IsKept, IsMergedAt, IsRightMerged, AreMerged}
use Rattle.mrdt_set.proofs.Rebuilt.{right-same}

abbrev Entries : Type 0
Entries = List (List ℕ × Times)

-- elements above another are not that one
above-apart : (key k : List ℕ) (more : Entries) → AllByRecursion (λ j. cmp key j ≡ Less) (keys_of more) → is_some (times_at more k) ≡ true → same_element key k ≡ false
above-apart key k [] above found = cc
above-apart key k (e ∷ more) above found = at (same_element k e.0) refl found (above-apart key k more above.1)
  where
    at : (p : Bool) → same_element k e.0 ≡ p → is_some (cond p (Some e.1) (times_at more k)) ≡ true → (is_some (times_at more k) ≡ true → same_element key k ≡ false) → same_element key k ≡ false
    at true is here later = ap (same_element key) (same_bytes-eq k e.0 is) ∙ ap is_eq above.0
    at false is there later = later there

-- What a walk over a side does: what was wanted is done at its elements that are not to come; at those that are to
-- come, and at those that the side has not, all is as at the start.
pub record DoneSoFar (Done : List ℕ → Option Times → Type 0) (start side rest now : Entries) : Type 0 where
  pub done : (k : List ℕ) → is_some (times_at side k) ≡ true → times_at rest k ≡ None → Done k (times_at now k)
  pub still : (k : List ℕ) → is_some (times_at rest k) ≡ true → times_at now k ≡ times_at start k
  pub apart : (k : List ℕ) → times_at side k ≡ None → times_at now k ≡ times_at start k
  pub sorted : IsStrictlySortedBy cmp (keys_of rest)

not_both : (o : Option Times) → is_some o ≡ true → o ≡ None → ⊥
not_both None some none = cc
not_both (Some times) some none = cc

pub done-start : (Done : List ℕ → Option Times → Type 0) (start side rest now : Entries) → rest ≡ side → now ≡ start → IsStrictlySortedBy cmp (keys_of side) → DoneSoFar Done start side rest now
done-start Done start side rest now is are sorted = record {
  done = λ k some none. absurd (not_both (times_at side k) some (ap (λ (es : Entries). times_at es k) (sym is) ∙ none));
  still = λ k some. ap (λ (es : Entries). times_at es k) are;
  apart = λ k none. ap (λ (es : Entries). times_at es k) are;
  sorted = subst (λ (es : Entries). IsStrictlySortedBy cmp (keys_of es)) (sym is) sorted;
}

module _ (Done : List ℕ → Option Times → Type 0) (start side rest more now : Entries) (key : List ℕ) (own : Times) (is : rest ≡ (key, own) ∷ more) (found : times_at side key ≡ Some own) (so_far : DoneSoFar Done start side rest now) where
  first : times_at rest key ≡ Some own
  first = ap (λ (es : Entries). times_at es key) is ∙ ap (λ p. cond p (Some own) (times_at more key)) (same_bytes-refl key)

  -- at the next element all is as at the start
  pub next-start : times_at now key ≡ times_at start key
  next-start = so_far.still key (ap is_some first)

  others : (k : List ℕ) → same_element key k ≡ false → times_at rest k ≡ times_at more k
  others k other = ap (λ (es : Entries). times_at es k) is ∙ ap (λ p. cond p (Some own) (times_at more k)) (same_bytes-sym k key ∙ other)

  tail : AllByRecursion (λ j. cmp key j ≡ Less) (keys_of more) × IsStrictlySortedBy cmp (keys_of more)
  unfolding IsStrictlySortedBy
  tail = subst (λ (es : Entries). IsStrictlySortedBy cmp (keys_of es)) is so_far.sorted

  -- it is done there
  pub done-next : (new : Entries) → Done key (times_at new key) → ((k : List ℕ) → same_element key k ≡ false → times_at new k ≡ times_at now k) → DoneSoFar Done start side more new
  done-next new here kept = record {
    done = λ k some none. at k some none (same_element key k) refl;
    still = λ k some. let other = above-apart key k more tail.0 some in kept k other ∙ so_far.still k (ap is_some (others k other) ∙ some);
    apart = λ k none. away k none (same_element key k) refl;
    sorted = tail.1;
  }
    where
      at : (k : List ℕ) → is_some (times_at side k) ≡ true → times_at more k ≡ None → (p : Bool) → same_element key k ≡ p → Done k (times_at new k)
      at k some none true e = subst (λ j. Done j (times_at new j)) (same_bytes-eq key k e) here
      at k some none false e = subst (Done k) (sym (kept k e)) (so_far.done k some (others k e ∙ none))

      away : (k : List ℕ) → times_at side k ≡ None → (p : Bool) → same_element key k ≡ p → times_at new k ≡ times_at start k
      away k none true e = absurd (not_both (times_at side k) (ap is_some (ap (times_at side) (sym (same_bytes-eq key k e)) ∙ found)) none)
      away k none false e = kept k e ∙ so_far.apart k none

-- what is wanted at an element
abbrev pub IsDone : Entries → Entries → Entries → List ℕ → Option Times → Type 0
IsDone base left right k times = IsKept (times_at left k) → IsMergedAt (times_at base k) (times_at left k) (times_at right k) times

module _ (base left right : Entries) where
  -- the elements of the right side were gone over
  pub right-done : (rest now : Entries) → rest ≡ [] → DoneSoFar (IsDone base left right) left right rest now → IsRightMerged base left right now
  right-done rest now none so_far k = record {
    there = λ some kept. so_far.done k some (ap (λ (es : Entries). times_at es k) none) kept;
    apart = λ gone. so_far.apart k gone;
  }

  -- and then those of the base
  pub base-done : (start rest now : Entries) → rest ≡ [] → IsRightMerged base left right start → DoneSoFar (IsDone base left right) start base rest now → AreMerged base left right now
  base-done start rest now none merged so_far k kept = at (times_at base k) (times_at right k) refl refl
    where
      at : (o r : Option Times) → times_at base k ≡ o → times_at right k ≡ r → IsMergedAt (times_at base k) (times_at left k) (times_at right k) (times_at now k)
      at (Some times) r base_is right_is = so_far.done k (ap is_some base_is) (ap (λ (es : Entries). times_at es k) none) kept
      at None (Some times) base_is right_is =
          subst (IsMergedAt (times_at base k) (times_at left k) (times_at right k)) (sym (so_far.apart k base_is)) ((merged k).there (ap is_some right_is) kept)
      at None None base_is right_is =
          subst (IsMergedAt (times_at base k) (times_at left k) (times_at right k)) (sym (so_far.apart k base_is ∙ (merged k).apart right_is ∙ kept.some))
          (right-same (times_at base k) (times_at left k) (times_at right k) kept.rising (base_is ∙ sym right_is))

  -- at an element of the base: where the right side has it, it was merged before
  pub gone-next : (start now new : Entries) (key : List ℕ) (own : Times) → IsRightMerged base left right start → times_at base key ≡ Some own → times_at now key ≡ times_at start key
      → (times_at right key ≡ None → IsKept (times_at now key) → IsMergedAt (Some own) (times_at now key) None (times_at new key))
      → (is_some (times_at right key) ≡ true → times_at new key ≡ times_at now key) → IsDone base left right key (times_at new key)
  gone-next start now new key own merged found same gone there kept = at (times_at right key) refl
    where
      at : (r : Option Times) → times_at right key ≡ r → IsMergedAt (times_at base key) (times_at left key) (times_at right key) (times_at new key)
      at (Some times) right_is =
          subst (IsMergedAt (times_at base key) (times_at left key) (times_at right key)) (sym (there (ap is_some right_is) ∙ same)) ((merged key).there (ap is_some right_is) kept)
      at None right_is =
          let is_left : times_at now key ≡ times_at left key = same ∙ (merged key).apart right_is in
          let own_kept : IsKept (times_at now key) = subst IsKept (sym is_left) kept in
          subst (λ o. IsMergedAt o (times_at left key) (times_at right key) (times_at new key)) (sym found)
          (subst (λ o. IsMergedAt (Some own) (times_at left key) o (times_at new key)) (sym right_is)
          (subst (λ o. IsMergedAt (Some own) o None (times_at new key)) is_left (gone right_is own_kept)))
