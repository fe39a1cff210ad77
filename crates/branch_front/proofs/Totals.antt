-- What a change of one view does to a total.
use Rattle.std.proofs.Common.{◌≡◌, ℕ, zero, suc, ◌+◌, ◌≤◌, List, [], ◌∷◌, ◌++◌, set, refl, sym, ap, arith}
use mathlib.Core.Option.{some, some-injective, some-ne-none}
use lib.ListN.{get_elem?}
use Rattle.branch_front.specs.Lists.{total}

module _ {V : Type 0} (f : V → ℕ) where
  pub total_set : (views : List V) (i : ℕ) (v w : V) → get_elem? views i ≡ some v → total f (set views i w) + f v ≡ total f views + f w
  total_set [] i v w e = absurd (some-ne-none v (sym e))
  total_set (x ∷ xs) zero v w e = omega (arith, ap f (some-injective x v e))
  total_set (x ∷ xs) (suc i) v w e = omega (arith, total_set xs i v w e)

  pub total_snoc : (views : List V) (w : V) → total f (views ++ w ∷ []) ≡ total f views + f w
  total_snoc [] w = omega arith
  total_snoc (x ∷ xs) w = omega (arith, total_snoc xs w)

  pub total_at : (views : List V) (i : ℕ) (v : V) → get_elem? views i ≡ some v → f v ≤ total f views
  total_at [] i v e = absurd (some-ne-none v (sym e))
  total_at (x ∷ xs) zero v e = omega (arith, ap f (some-injective x v e))
  total_at (x ∷ xs) (suc i) v e = omega (arith, total_at xs i v e)

-- where a view that has none of g has none of f
module _ {V : Type 0} (f g : V → ℕ) where
  total_none : (views : List V) → ((j : ℕ) (u : V) → get_elem? views j ≡ some u → g u ≡ 0 → f u ≡ 0) → total g views ≡ 0 → total f views ≡ 0
  total_none [] idle none = refl
  total_none (x ∷ xs) idle none = omega (arith, idle 0 x refl (omega arith), total_none xs (λ j u at. idle (suc j) u at) (omega arith))

  -- and one view has all of g, that view has all of f
  pub total_alone : (views : List V) (i : ℕ) (v : V) → ((j : ℕ) (u : V) → get_elem? views j ≡ some u → g u ≡ 0 → f u ≡ 0) → get_elem? views i ≡ some v → total g views ≡ g v → total f views ≡ f v
  total_alone [] i v idle e all = absurd (some-ne-none v (sym e))
  total_alone (x ∷ xs) zero v idle e all =
      let same = some-injective x v e in
      let none : total g xs ≡ 0 = omega (arith, ap g same) in
      omega (arith, ap f same, total_none xs (λ j u at. idle (suc j) u at) none)
  total_alone (x ∷ xs) (suc i) v idle e all =
      let least = total_at g xs i v e in
      omega (arith, idle 0 x refl (omega arith), total_alone xs i v (λ j u at. idle (suc j) u at) e (omega arith))
