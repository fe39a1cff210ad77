-- How much the paints of the commits that wait count.
use Rattle.std.proofs.Common.{◌≡◌, ℕ, ◌≤◌, Bool, true, false, cond, ◌||◌, ◌&&◌, List, [], ◌∷◌, length, refl, arith, IsTrue, IfSome, Some}
use Rattle.std.specs.Prelude.{sum_by}
use Rattle.std.specs.Map.{values_of}
use Rattle.std.specs.BTreeMap.{is_at}
use Rattle.std.specs.Ordering.{nat_cmp}
use Rattle.std.proofs.lemmas.List.Sums.{sum_by-cons}
use Rattle.branch_graph.specs.declared.waiting.Paint.{Paint}
use Rattle.branch_graph.specs.Paints.{weight, paint_of}

pub weight-le : (paint : Paint) → weight paint ≤ 1
weight-le paint = by paint.below
  where
    by : (b : Bool) → cond b 0 1 ≤ 1
    by true = omega arith
    by false = omega arith

pub total-le : (es : List (ℕ × Paint)) → sum_by weight (values_of es) ≤ length es
total-le [] = omega arith
total-le (e ∷ es) = let rest = total-le es in omega (arith, sum_by-cons weight e.1 (values_of es), weight-le e.1)

weightless : (paint : Paint) → weight paint ≡ 0 → IsTrue paint.below
weightless paint = by paint.below
  where
    by : (b : Bool) → cond {A = ℕ} b 0 1 ≡ 0 → IsTrue b
    by true none = refl
    by false none = absurd (omega arith)

-- where nothing weighs, each is below a common commit
pub none-weighs : (n : ℕ) (es : List (ℕ × Paint)) → sum_by weight (values_of es) ≡ 0 → IfSome (paint_of es n) (λ paint. IsTrue paint.below)
none-weighs n [] none = tt
none-weighs n (e ∷ es) none =
    let sum = sum_by-cons weight e.1 (values_of es) in
    let first : weight e.1 ≡ 0 = omega arith in
    let rest : sum_by weight (values_of es) ≡ 0 = omega arith in
    by (is_at (nat_cmp n) e.0) (none-weighs n es rest) (weightless e.1 first)
  where
    by : (b : Bool) → IfSome (paint_of es n) (λ paint. IsTrue paint.below) → IsTrue e.1.below → IfSome (cond b (Some e.1) (paint_of es n)) (λ paint. IsTrue paint.below)
    by true rest first = first
    by false rest first = rest

-- a paint given to one more number
pub one-more : (old given among here passes : Bool) → ((old || (given && (among && passes))) || (given && (here && passes))) ≡ (old || (given && ((among || here) && passes)))
one-more true given among here passes = refl
one-more false false among here passes = refl
one-more false true true here true = refl
one-more false true true true false = refl
one-more false true true false false = refl
one-more false true false here passes = refl
