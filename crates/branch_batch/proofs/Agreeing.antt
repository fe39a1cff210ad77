-- Two beginnings of one list.
use Rattle.std.proofs.Common.{◌≡◌, ℕ, zero, suc, List, [], ◌∷◌, ◌++◌, length, slice_get, Some, refl, sym, ◌∙◌}
use mathlib.Core.List.{IsPrefix}

-- what stands in a beginning stands in the whole, at the same place
pub prefix_get : {A : Type 0} (xs ys : List A) (k : ℕ) (x : A) → IsPrefix xs ys → slice_get xs k ≡ Some x → slice_get ys k ≡ Some x
prefix_get [] ys k x p h = absurd cc
prefix_get (y ∷ xs) [] k x p h = absurd (cc (p.1))
prefix_get (y ∷ xs) (z ∷ ys) zero x p h = cc (p.1, h)
prefix_get (y ∷ xs) (z ∷ ys) (suc k) x p h = prefix_get xs ys k x (p.0, cc (p.1)) h

-- so two beginnings have the same at one place
pub same_at : {A : Type 0} (xs ys zs : List A) (k : ℕ) (x y : A) → IsPrefix xs zs → IsPrefix ys zs → slice_get xs k ≡ Some x → slice_get ys k ≡ Some y → x ≡ y
same_at xs ys zs k x y p q at there = let e = sym (prefix_get xs zs k x p at) ∙ prefix_get ys zs k y q there in cc e

-- what is put behind a list stands at the place of its length
pub last_at : {A : Type 0} (xs : List A) (x : A) → slice_get (xs ++ x ∷ []) (length xs) ≡ Some x
last_at [] x = refl
last_at (y ∷ xs) x = last_at xs x
