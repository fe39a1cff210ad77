-- Words on lists of things that have numbers.
use Rattle.std.specs.Prelude.{ℕ, suc, List, [], ◌∷◌, ◌≤◌, ◌==◌, cond, Option, Some, None}

-- the numbers rise, none below the first bound and each below the last
abbrev pub RisesFrom : ℕ → List ℕ → ℕ → Type 0
RisesFrom first [] last = first ≤ last
RisesFrom first (n ∷ ns) last = (first ≤ n) × RisesFrom (suc n) ns last

module _ {X : Type 0} (number_of : X → ℕ) (number : ℕ) where
  -- the first with this number
  abbrev pub first_of : List X → Option X
  first_of [] = None
  first_of (x ∷ xs) = cond (number_of x == number) (Some x) (first_of xs)

  -- all but the first with this number
  abbrev pub all_but : List X → List X
  all_but [] = []
  all_but (x ∷ xs) = cond (number_of x == number) xs (x ∷ all_but xs)

  -- how many stand before the first with this number, or how many there are
  abbrev pub place_of : List X → ℕ
  place_of [] = 0
  place_of (x ∷ xs) = cond (number_of x == number) 0 (suc (place_of xs))
