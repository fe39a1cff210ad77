-- The first commit that has an address, and an index of the first commits.
use Rattle.std.proofs.Common.{zero, suc, ◌≡◌, ℕ, ◌+◌, Bool, true, false, cond, List, [], ◌∷◌, ◌++◌, length, take, slice_get, refl, ap, sym, ◌∙◌, arith, Option, Some, None}
use Rattle.std.specs.List.{position_from}
use Rattle.std.specs.Str.{bytes_eq}
use Rattle.std.proofs.lemmas.Bool.{both_ways}
use Rattle.std.proofs.lemmas.Slice.Eq.{bytes_eq-Decides}
use Rattle.branch_names.proofs.Places.{position-none, position-found}
use Rattle.store_seen.specs.Nodes.{commit_at, FindsCommits, Notes}

module _ {X : Type 0} (f : X → Bool) where
  -- what is found among the first ones is found among all
  position-longer : (first n : ℕ) (xs ys : List X) → position_from f first xs ≡ Some n → position_from f first (xs ++ ys) ≡ Some n
  position-longer first n [] ys is = absurd (cc)
  position-longer first n (x ∷ xs) ys is = step (f x) is (position-longer (first + 1) n xs ys)
    where
      step : (t : Bool) → cond t (Some first) (position_from f (first + 1) xs) ≡ Some n → (position_from f (first + 1) xs ≡ Some n → position_from f (first + 1) (xs ++ ys) ≡ Some n) → cond t (Some first) (position_from f (first + 1) (xs ++ ys)) ≡ Some n
      step true is rest = is
      step false is rest = rest is

  position-first : (count first n : ℕ) (xs : List X) → position_from f first (take count xs) ≡ Some n → position_from f first xs ≡ Some n
  position-first zero first n xs is = absurd (cc)
  position-first (suc count) first n [] is = absurd (cc)
  position-first (suc count) first n (x ∷ xs) is = step (f x) is (position-first count (first + 1) n xs)
    where
      step : (t : Bool) → cond t (Some first) (position_from f (first + 1) (take count xs)) ≡ Some n → (position_from f (first + 1) (take count xs) ≡ Some n → position_from f (first + 1) xs ≡ Some n) → cond t (Some first) (position_from f (first + 1) xs) ≡ Some n
      step true is rest = is
      step false is rest = rest is

  -- what is found only with the last one is that
  position-last : (first n : ℕ) (xs : List X) (y : X) → position_from f first xs ≡ None → position_from f first (xs ++ y ∷ []) ≡ Some n → (n ≡ first + length xs) × (f y ≡ true)
  position-last first n [] y none is = step (f y) refl is
    where
      step : (t : Bool) → f y ≡ t → cond t (Some first) None ≡ Some n → (n ≡ first + 0) × (f y ≡ true)
      step true test is = let e : first ≡ n = cc is in (omega (arith, e), test)
      step false test is = absurd (cc)
  position-last first n (x ∷ xs) y none is = step (f x) none is (position-last (first + 1) n xs y)
    where
      step : (t : Bool) → cond t (Some first) (position_from f (first + 1) xs) ≡ None → cond t (Some first) (position_from f (first + 1) (xs ++ y ∷ [])) ≡ Some n
          → (position_from f (first + 1) xs ≡ None → position_from f (first + 1) (xs ++ y ∷ []) ≡ Some n → (n ≡ first + 1 + length xs) × (f y ≡ true)) → (n ≡ first + length (x ∷ xs)) × (f y ≡ true)
      step true none is rest = absurd (cc)
      step false none is rest = let h = rest none is in let e = h.0 in (omega (arith, e), h.1)

module _ (addresses : List (List ℕ)) where
  -- the commit that is found has the address
  found-is : (address : List ℕ) (n : ℕ) → commit_at addresses address ≡ Some n → slice_get addresses n ≡ Some address
  found-is address n is =
      let zero_n : n ≡ 0 + n = omega arith in
      let found = position-found (bytes_eq address) 0 n n addresses is zero_n in
      found.1 ∙ ap Some (sym ((bytes_eq-Decides address found.0).0 found.2))

  there_is : (address : List ℕ) (n : ℕ) → slice_get addresses n ≡ Some address → commit_at addresses address ≡ None → ⊥
  there_is address n at none = both_ways (bytes_eq address address) (position-none (bytes_eq address) 0 addresses n address none at) ((bytes_eq-Decides address address).1 refl)

  module _ (find : List ℕ → Option ℕ) (finds : FindsCommits addresses find) (address : List ℕ) where
    -- where what is found has the address, it is the first commit that has it
    pub found-first : (n : ℕ) → find address ≡ Some n → slice_get addresses n ≡ Some address → commit_at addresses address ≡ Some n
    found-first n is at = step (commit_at addresses address) refl
      where
        step : (o : Option ℕ) → commit_at addresses address ≡ o → commit_at addresses address ≡ Some n
        step None none = absurd (there_is address n at none)
        step (Some m) first = let both : Some m ≡ Some n = sym (finds address m first) ∙ is in first ∙ both

    -- where what is found has it not, no commit has it
    pub found-none : ((n : ℕ) → find address ≡ Some n → slice_get addresses n ≡ Some address → ⊥) → commit_at addresses address ≡ None
    found-none never = step (commit_at addresses address) refl
      where
        step : (o : Option ℕ) → commit_at addresses address ≡ o → commit_at addresses address ≡ None
        step None none = none
        step (Some m) first = absurd (never m (finds address m first) (found-is address m first))

  -- the index of the first ones
  pub finds-first : (count : ℕ) (find : List ℕ → Option ℕ) → FindsCommits addresses find → FindsCommits (take count addresses) find
  finds-first count find finds address n is = finds address n (position-first (bytes_eq address) count 0 n addresses is)

-- an index that says the same
pub finds-same : (addresses : List (List ℕ)) (before after : List ℕ → Option ℕ) → ((other : List ℕ) → after other ≡ before other) → FindsCommits addresses before → FindsCommits addresses after
finds-same addresses before after same finds address n is = same address ∙ finds address n is

-- the number of the next commit is noted for its address
module _ (addresses : List (List ℕ)) (address : List ℕ) (next : ℕ) (before after : List ℕ → Option ℕ) (finds : FindsCommits addresses before) where
  noted : (earlier : Option ℕ) → earlier ≡ commit_at addresses address → Notes earlier address next before after → FindsCommits addresses after
  noted (Some m) is notes other n first = finds-same addresses before after notes finds other n first
  noted None is notes other n first = step (bytes_eq address other) refl
    where
      step : (t : Bool) → bytes_eq address other ≡ t → after other ≡ Some n
      step true same =
          let e : address ≡ other = (bytes_eq-Decides address other).0 same in
          let both : None ≡ Some n = is ∙ ap (commit_at addresses) e ∙ first in
          absurd (cc)
      step false other_one = notes other ∙ ap (λ t. cond t (Some next) (before other)) other_one ∙ finds other n first

  pub noted-kept : (earlier : Option ℕ) → earlier ≡ commit_at addresses address → Notes earlier address next before after → FindsCommits addresses after
  noted-kept = noted

  -- and then it is the next one's
  pub noted-grown : (earlier : Option ℕ) → earlier ≡ commit_at addresses address → Notes earlier address next before after → next ≡ length addresses → FindsCommits (addresses ++ address ∷ []) after
  noted-grown earlier is notes last other n first = step (commit_at addresses other) refl
    where
      new : (earlier : Option ℕ) → earlier ≡ commit_at addresses address → Notes earlier address next before after → address ≡ other → commit_at addresses other ≡ None → n ≡ length addresses → after other ≡ Some n
      new (Some m) is notes e none at = let both : Some m ≡ None = is ∙ ap (commit_at addresses) e ∙ none in absurd (cc)
      new None is notes e none at =
          notes other ∙ ap (λ t. cond t (Some next) (before other)) ((bytes_eq-Decides address other).1 e) ∙ ap Some (last ∙ sym at)

      step : (o : Option ℕ) → commit_at addresses other ≡ o → after other ≡ Some n
      step (Some m) old =
          let both : Some m ≡ Some n = sym (position-longer (bytes_eq other) 0 m addresses (address ∷ []) old) ∙ first in
          noted earlier is notes other n (old ∙ both)
      step None none =
          let at = position-last (bytes_eq other) 0 n addresses address none first in
          let e : n ≡ 0 + length addresses = at.0 in
          let there : n ≡ length addresses = omega (arith, e) in
          new earlier is notes (sym ((bytes_eq-Decides other address).0 at.1)) none there
