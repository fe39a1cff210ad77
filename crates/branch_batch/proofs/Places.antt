-- Where the first with a number stands in a list.
use Rattle.std.proofs.Common.{◌≡◌, ℕ, zero, suc, ◌≤◌, ◌<◌, ◌==◌, nat_lt, is_some, Bool, true, false, List, [], ◌∷◌, length, take, drop, ◌++◌, remove, slice_get, Option, Some, None, cond, get_or, IfSome, IsSome, OnSome, refl, ap, sym, ◌∙◌, arith}
use Rattle.std.proofs.lemmas.Bool.Decides.{nat_tests}
use Rattle.std.proofs.lemmas.Option.{slice_get_read}
use Rattle.branch_batch.specs.Lists.{first_of, all_but, place_of}

-- a place behind one more, where the one has the number, or has it not
hit_more : (b : Bool) (place k : ℕ) → suc k ≤ cond b 0 (suc place) → (k ≤ place → place ≡ k) → cond b 0 (suc place) ≡ suc k
hit_more true place k le rest = absurd (omega (arith, le))
hit_more false place k le rest = ap suc (rest (omega (arith, le)))

miss_here : (b : Bool) (place : ℕ) → b ≡ false → 1 ≤ cond b 0 (suc place)
miss_here true place is = absurd cc
miss_here false place is = omega arith

miss_more : (b : Bool) (place k : ℕ) → suc k ≤ cond b 0 (suc place) → (k ≤ place → suc k ≤ place) → suc (suc k) ≤ cond b 0 (suc place)
miss_more true place k le rest = absurd (omega (arith, le))
miss_more false place k le rest = let more = rest (omega (arith, le)) in omega (arith, more)

-- what is taken out of a list stood there
pub removed : {X : Type 0} (taken : Option X) (xs : List X) (k : ℕ) → k < length xs → IsSome taken → IfSome taken (λ x. x ≡ get_or xs k x) → taken ≡ slice_get xs k
removed None xs k inside some is = absurd cc
removed (Some x) xs k inside some is = sym (slice_get_read xs (length xs) k x refl inside is)

-- what holds, holds where there is one
pub on_some : {X P : Type 0} (some : Option X) → P → OnSome some P
on_some None holds = tt
on_some (Some x) holds = holds

module _ {X : Type 0} where
  none_more : (b : Bool) (y : X) (place n : ℕ) (first : Option X) → suc n ≤ cond b 0 (suc place) → (n ≤ place → first ≡ None) → cond b (Some y) first ≡ None
  none_more true y place n first le rest = absurd (omega (arith, le))
  none_more false y place n first le rest = rest (omega (arith, le))

  get_more : (b : Bool) (y : X) (xs : List X) (place : ℕ) (first : Option X) → slice_get xs place ≡ first → slice_get (y ∷ xs) (cond b 0 (suc place)) ≡ cond b (Some y) first
  get_more true y xs place first rest = refl
  get_more false y xs place first rest = rest

  remove_more : (b : Bool) (y : X) (xs : List X) (place : ℕ) (others : List X) → remove xs place ≡ others → remove (y ∷ xs) (cond b 0 (suc place)) ≡ cond b xs (y ∷ others)
  remove_more true y xs place others rest = refl
  remove_more false y xs place others rest = ap (λ ys. y ∷ ys) rest

module _ {X : Type 0} (key : X → ℕ) (number : ℕ) where
  -- one that has the number, where none before has it, is the first
  pub place_hit : (xs : List X) (k : ℕ) (x : X) → slice_get xs k ≡ Some x → k ≤ place_of key number xs → (key x == number) ≡ true → place_of key number xs ≡ k
  place_hit [] k x at le is = absurd cc
  place_hit (y ∷ xs) zero x at le is =
      let same : y ≡ x = cc at in ap (λ b. cond b 0 (suc (place_of key number xs))) (ap (λ z. key z == number) same ∙ is)
  place_hit (y ∷ xs) (suc k) x at le is = hit_more (key y == number) (place_of key number xs) k le (λ l. place_hit xs k x at l is)

  -- where it has it not, the first stands behind it
  pub place_miss : (xs : List X) (k : ℕ) (x : X) → slice_get xs k ≡ Some x → k ≤ place_of key number xs → (key x == number) ≡ false → suc k ≤ place_of key number xs
  place_miss [] k x at le is = absurd cc
  place_miss (y ∷ xs) zero x at le is =
      let same : y ≡ x = cc at in miss_here (key y == number) (place_of key number xs) (ap (λ z. key z == number) same ∙ is)
  place_miss (y ∷ xs) (suc k) x at le is = miss_more (key y == number) (place_of key number xs) k le (λ l. place_miss xs k x at l is)

  -- behind the whole list: none has it
  pub place_none : (xs : List X) → length xs ≤ place_of key number xs → first_of key number xs ≡ None
  place_none [] le = refl
  place_none (y ∷ xs) le = none_more (key y == number) y (place_of key number xs) (length xs) (first_of key number xs) le (place_none xs)

  -- the one at that place is the first
  pub place_get : (xs : List X) → slice_get xs (place_of key number xs) ≡ first_of key number xs
  place_get [] = refl
  place_get (y ∷ xs) = get_more (key y == number) y xs (place_of key number xs) (first_of key number xs) (place_get xs)

  -- without it all but the first are left
  pub place_remove : (xs : List X) → remove xs (place_of key number xs) ≡ all_but key number xs
  place_remove [] = refl
  place_remove (y ∷ xs) = remove_more (key y == number) y xs (place_of key number xs) (all_but key number xs) (place_remove xs)

  but_more : (b : Bool) (y : X) (xs : List X) → (first_of key number xs ≡ None → all_but key number xs ≡ xs) → cond b (Some y) (first_of key number xs) ≡ None → cond b xs (y ∷ all_but key number xs) ≡ y ∷ xs
  but_more true y xs rest none = absurd cc
  but_more false y xs rest none = ap (λ ys. y ∷ ys) (rest none)

  -- where none has it, all are left
  pub but_none : (xs : List X) → first_of key number xs ≡ None → all_but key number xs ≡ xs
  but_none [] none = refl
  but_none (y ∷ xs) none = but_more (key y == number) y xs (but_none xs) none

  has_more : (b : Bool) (y x : X) (first : Option X) → (key y == number) ≡ b → (first ≡ Some x → (key x == number) ≡ true) → cond b (Some y) first ≡ Some x → (key x == number) ≡ true
  has_more true y x first is rest found = let same : y ≡ x = cc found in sym (ap (λ z. key z == number) same) ∙ is
  has_more false y x first is rest found = rest found

  -- the first has the number
  pub first_has : (xs : List X) (x : X) → first_of key number xs ≡ Some x → (key x == number) ≡ true
  first_has [] x found = absurd cc
  first_has (y ∷ xs) x found = has_more (key y == number) y x (first_of key number xs) refl (first_has xs x) found

  pub first_is : (xs : List X) (x : X) → first_of key number xs ≡ Some x → key x ≡ number
  first_is xs x found = let has = first_has xs x found in grind (arith, nat_tests, has)

  if_first : (xs : List X) (first : Option X) → first_of key number xs ≡ first → IfSome first (λ x. key x ≡ number)
  if_first xs None found = tt
  if_first xs (Some x) found = first_is xs x found

  pub first_number : (xs : List X) → IfSome (first_of key number xs) (λ x. key x ≡ number)
  first_number xs = if_first xs (first_of key number xs) refl

module _ {X : Type 0} where
  -- the first ones, with one more from behind them
  pub take_one : (k : ℕ) (xs ys : List X) (x : X) → drop k xs ≡ x ∷ ys → take (suc k) xs ≡ take k xs ++ x ∷ []
  take_one zero [] ys x is = absurd cc
  take_one zero (y ∷ xs) ys x is = let same : y ≡ x = cc is in ap (λ z. z ∷ []) same
  take_one (suc k) [] ys x is = absurd cc
  take_one (suc k) (y ∷ xs) ys x is = ap (λ zs. y ∷ zs) (take_one k xs ys x is)

  pub drop_one : (k : ℕ) (xs ys : List X) (x : X) → drop k xs ≡ x ∷ ys → drop (suc k) xs ≡ ys
  drop_one zero [] ys x is = absurd cc
  drop_one zero (y ∷ xs) ys x is = cc is
  drop_one (suc k) [] ys x is = absurd cc
  drop_one (suc k) (y ∷ xs) ys x is = drop_one k xs ys x is

  -- where none is left behind the first ones
  pub take_all : (k : ℕ) (xs : List X) → drop k xs ≡ [] → take (suc k) xs ≡ take k xs
  take_all zero [] is = refl
  take_all zero (y ∷ xs) is = absurd cc
  take_all (suc k) [] is = refl
  take_all (suc k) (y ∷ xs) is = ap (λ zs. y ∷ zs) (take_all k xs is)

  pub drop_all : (k : ℕ) (xs : List X) → drop k xs ≡ [] → drop (suc k) xs ≡ []
  drop_all zero [] is = refl
  drop_all zero (y ∷ xs) is = absurd cc
  drop_all (suc k) [] is = refl
  drop_all (suc k) (y ∷ xs) is = drop_all k xs is

some_cond : {X : Type 0} (b : Bool) (y : X) (first : Option X) → is_some (cond b (Some y) first) ≡ cond b true (is_some first)
some_cond true y first = refl
some_cond false y first = refl

none_rest : {X : Type 0} (b : Bool) (y : X) (first : Option X) → cond b (Some y) first ≡ None → first ≡ None
none_rest true y first none = absurd cc
none_rest false y first none = none

none_with : {X : Type 0} (b : Bool) (y : X) (first some : Option X) → cond b (Some y) first ≡ None → some ≡ None → cond b (Some y) some ≡ None
none_with true y first some none is = absurd cc
none_with false y first some none is = is

among_both : (b : Bool) (place n k : ℕ) (rest : Bool) → cond b 0 (suc place) < suc n → cond b 0 (suc place) < suc k → (place < n → place < k → rest ≡ true) → cond b true rest ≡ true
among_both true place n k rest le below is = refl
among_both false place n k rest le below is = is (omega (arith, le)) (omega (arith, below))

behind_more : (b : Bool) (place k : ℕ) (rest : Bool) → suc k ≤ cond b 0 (suc place) → (k ≤ place → rest ≡ false) → cond b true rest ≡ false
behind_more true place k rest le is = absurd (omega (arith, le))
behind_more false place k rest le is = is (omega (arith, le))

module _ {X : Type 0} (key : X → ℕ) (number : ℕ) where
  -- the first that has it is among the first k where its place is below k
  pub among_first : (k : ℕ) (xs : List X) → place_of key number xs < length xs → place_of key number xs < k → is_some (first_of key number (take k xs)) ≡ true
  among_first zero xs le below = absurd (omega (arith, below))
  among_first (suc k) [] le below = absurd (omega (arith, le))
  among_first (suc k) (y ∷ xs) le below =
      some_cond (key y == number) y (first_of key number (take k xs))
      ∙ among_both (key y == number) (place_of key number xs) (length xs) k (is_some (first_of key number (take k xs))) le below (among_first k xs)

  -- and it is not where its place is not
  pub behind_first : (k : ℕ) (xs : List X) → k ≤ place_of key number xs → is_some (first_of key number (take k xs)) ≡ false
  behind_first zero xs le = refl
  behind_first (suc k) [] le = refl
  behind_first (suc k) (y ∷ xs) le =
      some_cond (key y == number) y (first_of key number (take k xs))
      ∙ behind_more (key y == number) (place_of key number xs) k (is_some (first_of key number (take k xs))) le (behind_first k xs)

  -- where none has it, none of the first has it
  pub none_among_first : (k : ℕ) (xs : List X) → first_of key number xs ≡ None → first_of key number (take k xs) ≡ None
  none_among_first zero xs none = refl
  none_among_first (suc k) [] none = refl
  none_among_first (suc k) (y ∷ xs) none =
      none_with (key y == number) y (first_of key number xs) (first_of key number (take k xs)) none
      (none_among_first k xs (none_rest (key y == number) y (first_of key number xs) none))

  among : (k : ℕ) (xs : List X) → place_of key number xs < length xs → (b : Bool) → nat_lt (place_of key number xs) k ≡ b → is_some (first_of key number (take k xs)) ≡ b
  among k xs inside true is = among_first k xs inside (grind (arith, nat_tests, is))
  among k xs inside false is = behind_first k xs (grind (arith, nat_tests, is))

  -- so the test of the place says whether it is among the first
  pub place_tests : (k : ℕ) (xs : List X) → place_of key number xs < length xs → nat_lt (place_of key number xs) k ≡ is_some (first_of key number (take k xs))
  place_tests k xs inside = sym (among k xs inside (nat_lt (place_of key number xs) k) refl)
