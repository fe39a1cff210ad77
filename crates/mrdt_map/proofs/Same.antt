-- Two tables that are gone over in step.
use Rattle.std.proofs.Common.{◌≡◌, ℕ, ◌^◌, ◌<◌, Bool, true, false, not, Option, None, Some, List, [], ◌∷◌, length, drop, slice_get, refl, ◌∙◌, ap, sym, subst}
use Rattle.std.specs.Prelude.{is_some, ◌↔◌}
use Rattle.std.specs.Option.{option_map}
use Rattle.std.specs.List.{AllByRecursion}
use Rattle.mrdt_model.specs.Laws.{Meaning}
use Rattle.mrdt_map.specs.Keyed.{AreSameEntries, entries_spelling}
use Rattle.mrdt_map.specs.Reading.{as_text}
use Rattle.mrdt_map.proofs.Reading.{AreShort, texts, counted-short, one-texts}
use Rattle.keyed_slots.proofs.Places.{first_is, none_first}

-- What is left of both is the same where both are, and is spelled alike where both are.
pub record SameSoFar {V O R Q A : Type 0} (t : Meaning V O R Q A) (left right rest others : List (List ℕ × V)) : Type 0 where
  pub there : AreSameEntries t.is_same rest others → AreSameEntries t.is_same left right
  pub back : AreSameEntries t.is_same left right → AreSameEntries t.is_same rest others
  pub spelled : AllByRecursion AreShort (texts t left) → texts t left ≡ texts t right → AllByRecursion AreShort (texts t rest) × (texts t rest ≡ texts t others)

module _ {V O R Q A : Type 0} (t : Meaning V O R Q A) (left right : List (List ℕ × V)) where
  pub same-start : SameSoFar t left right left right
  same-start = record { there = λ same. same; back = λ same. same; spelled = λ short alike. (short, alike) }

  -- two entries that are the same have been taken off
  pub same-more : (rest others more left_over : List (List ℕ × V)) (e f : List ℕ × V) → rest ≡ e ∷ more → others ≡ f ∷ left_over → (e.0 ≡ f.0) × t.is_same e.1 f.1 → SameSoFar t left right rest others → SameSoFar t left right more left_over
  same-more rest others more left_over e f is are same so_far =
      let now : SameSoFar t left right (e ∷ more) (f ∷ left_over) = rw (← is, ← are) so_far in
      record {
        there = λ all. now.there (same.0, same.1, all);
        back = λ all. (now.back all).2;
        spelled = λ short alike.
            let both = now.spelled short alike in
            (both.0.1, tail (texts t more) (texts t left_over) (as_text t.state_spelling e) (as_text t.state_spelling f) both.1);
      }
    where
      tail : (xs ys : List (List ℕ × List ℕ)) (x y : List ℕ × List ℕ) → x ∷ xs ≡ y ∷ ys → xs ≡ ys
      tail xs ys x y h = cc

  -- spellings that are alike have alike what is left
  pub left-alike : (rest others : List (List ℕ × V)) → SameSoFar t left right rest others → length (entries_spelling t.state_spelling left) < 2 ^ 64 → entries_spelling t.state_spelling left ≡ entries_spelling t.state_spelling right
      → AllByRecursion AreShort (texts t rest) × (texts t rest ≡ texts t others)
  left-alike rest others so_far short alike = so_far.spelled (counted-short t left short).1 (one-texts t left right short alike)

  none_left : (xs : List (List ℕ × List ℕ)) (x : List ℕ × List ℕ) → x ∷ xs ≡ [] → ⊥
  none_left xs x h = cc

  none_right : (ys : List (List ℕ × List ℕ)) (y : List ℕ × List ℕ) → [] ≡ y ∷ ys → ⊥
  none_right ys y h = cc

  not_false : (b : Bool) → false ≡ not b → b ≡ true
  not_false true h = refl
  not_false false h = h

  pair_parts : (xs ys : List (List ℕ × List ℕ)) (x y : List ℕ × List ℕ) → x ∷ xs ≡ y ∷ ys → (x.0 ≡ y.0) × (x.1 ≡ y.1)
  pair_parts xs ys x y h = let e : x ≡ y = cc in (ap (λ (p : List ℕ × List ℕ). p.0) e, ap (λ (p : List ℕ × List ℕ). p.1) e)

  -- tables that are spelled alike end together
  pub left-longer : (rest others more : List (List ℕ × V)) (e : List ℕ × V) → rest ≡ e ∷ more → others ≡ [] → SameSoFar t left right rest others → length (entries_spelling t.state_spelling left) < 2 ^ 64
      → entries_spelling t.state_spelling left ≡ entries_spelling t.state_spelling right → ⊥
  left-longer rest others more e is are so_far short alike =
      let now : SameSoFar t left right (e ∷ more) [] = rw (← is, ← are) so_far in
      none_left (texts t more) (as_text t.state_spelling e) (left-alike (e ∷ more) [] now short alike).1

  pub ends-together : {A : Type 0} (shows : A → List ℕ × V) (rest others : List (List ℕ × V)) (o : Option A) (ends : Bool) → rest ≡ [] → option_map shows o ≡ slice_get others 0 → is_some o ≡ not ends → SameSoFar t left right rest others
      → length (entries_spelling t.state_spelling left) < 2 ^ 64 → entries_spelling t.state_spelling left ≡ entries_spelling t.state_spelling right → ends ≡ true
  ends-together shows rest others None ends is first ended so_far short alike = not_false ends ended
  ends-together shows rest others (Some x) ends is first ended so_far short alike =
      let are : others ≡ shows x ∷ drop 1 others = first_is others (shows x) (sym first) in
      let now : SameSoFar t left right [] (shows x ∷ drop 1 others) = subst (λ xs. SameSoFar t left right [] xs) are (subst (λ xs. SameSoFar t left right xs others) is so_far) in
      absurd (none_right (texts t (drop 1 others)) (as_text t.state_spelling (shows x)) (left-alike [] (shows x ∷ drop 1 others) now short alike).1)

  -- tables that are the same end together
  pub apart-longer : (rest others more : List (List ℕ × V)) (e : List ℕ × V) → rest ≡ e ∷ more → others ≡ [] → SameSoFar t left right rest others → AreSameEntries t.is_same left right → ⊥
  apart-longer rest others more e is are so_far all =
      let now : SameSoFar t left right (e ∷ more) [] = subst (λ xs. SameSoFar t left right (e ∷ more) xs) are (subst (λ xs. SameSoFar t left right xs others) is so_far) in
      now.back all

  pub first-same : (rest others more left_over : List (List ℕ × V)) (e f : List ℕ × V) → rest ≡ e ∷ more → others ≡ f ∷ left_over → SameSoFar t left right rest others → AreSameEntries t.is_same left right → (e.0 ≡ f.0) × t.is_same e.1 f.1
  first-same rest others more left_over e f is are so_far all =
      let now : SameSoFar t left right (e ∷ more) (f ∷ left_over) = subst (λ xs. SameSoFar t left right (e ∷ more) xs) are (subst (λ xs. SameSoFar t left right xs others) is so_far) in
      let both = now.back all in
      (both.0, both.1)

  pub ends-same : {A : Type 0} (shows : A → List ℕ × V) (rest others : List (List ℕ × V)) (o : Option A) (ends : Bool) → rest ≡ [] → option_map shows o ≡ slice_get others 0 → is_some o ≡ not ends → SameSoFar t left right rest others → (ends ≡ true) ↔ AreSameEntries t.is_same left right
  ends-same shows rest others None ends is first ended so_far =
      let now : SameSoFar t left right [] [] = subst (λ xs. SameSoFar t left right [] xs) (none_first others (sym first)) (subst (λ xs. SameSoFar t left right xs others) is so_far) in
      (λ yes. now.there tt, λ all. not_false ends ended)
  ends-same shows rest others (Some x) ends is first ended so_far =
      let now : SameSoFar t left right [] (shows x ∷ drop 1 others) = subst (λ xs. SameSoFar t left right [] xs) (first_is others (shows x) (sym first)) (subst (λ xs. SameSoFar t left right xs others) is so_far) in
      (λ yes. absurd (apart (ended ∙ ap not yes)), λ all. absurd (now.back all))
    where
      apart : true ≡ false → ⊥
      apart h = cc

  -- and have the same key and a value that is spelled alike at each place
  pub first-alike : (rest others more left_over : List (List ℕ × V)) (e f : List ℕ × V) → rest ≡ e ∷ more → others ≡ f ∷ left_over → SameSoFar t left right rest others → length (entries_spelling t.state_spelling left) < 2 ^ 64
      → entries_spelling t.state_spelling left ≡ entries_spelling t.state_spelling right → (e.0 ≡ f.0) × (length (t.state_spelling e.1) < 2 ^ 64) × (t.state_spelling e.1 ≡ t.state_spelling f.1)
  first-alike rest others more left_over e f is are so_far short alike =
      let now : SameSoFar t left right (e ∷ more) (f ∷ left_over) = rw (← is, ← are) so_far in
      let both = left-alike (e ∷ more) (f ∷ left_over) now short alike in
      let parts = pair_parts (texts t more) (texts t left_over) (as_text t.state_spelling e) (as_text t.state_spelling f) both.1 in
      (parts.0, both.0.0.1, parts.1)
