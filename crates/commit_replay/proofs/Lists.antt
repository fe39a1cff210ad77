-- An element of a list, and the parts before and behind it.
use Rattle.std.proofs.Common.{zero, suc, ◌≡◌, ℕ, List, [], ◌∷◌, ◌++◌, take, drop, ap, subst}
use Rattle.std.specs.Prelude.{All, slice_get}
use Rattle.std.specs.declared.option.Option.TheVariants.{Some}
use Rattle.std.proofs.lemmas.List.Elements.{All-head, All-tail}

module _ {X : Type 0} where
  pub drop-at : (xs : List X) (n : ℕ) (x : X) → slice_get xs n ≡ Some x → drop n xs ≡ x ∷ drop (suc n) xs
  drop-at [] n x is = absurd (cc)
  drop-at (y ∷ ys) zero x is = let same : y ≡ x = cc is in ap (λ z. z ∷ ys) same
  drop-at (y ∷ ys) (suc n) x is = drop-at ys n x is

  pub take-at : (xs : List X) (n : ℕ) (x : X) → slice_get xs n ≡ Some x → take (suc n) xs ≡ take n xs ++ x ∷ []
  take-at [] n x is = absurd (cc)
  take-at (y ∷ ys) zero x is = let same : y ≡ x = cc is in ap (λ z. z ∷ []) same
  take-at (y ∷ ys) (suc n) x is = ap (λ l. y ∷ l) (take-at ys n x is)

  pub All-at : (P : X → Type 0) (xs : List X) (n : ℕ) (x : X) → All P xs → slice_get xs n ≡ Some x → P x
  All-at P [] n x all is = absurd (cc)
  All-at P (y ∷ ys) zero x all is = let same : y ≡ x = cc is in subst P same (All-head P y ys all)
  All-at P (y ∷ ys) (suc n) x all is = All-at P ys n x (All-tail P y ys all) is
