-- Members of lists, and tests over lists by a member at which they are true.
use Rattle.std.proofs.Common.{zero, suc, ◌≡◌, ℕ, ◌+◌, ◌<◌, Bool, true, false, cond, ◌||◌, ◌==◌, List, [], ◌∷◌, length, take, refl, ap, sym, ◌∙◌, subst, arith, IsTrue, filter, ⊎_elim, inl, inr, ◌⊎◌, get_or}
use Rattle.std.specs.List.{list_any, AllByRecursion}
use Rattle.std.proofs.lemmas.Bool.{or_cases, or_left, or_right, eqb-true, eq-eqb}
use Rattle.std.proofs.lemmas.Bool.Decides.{nat_tests}
use Rattle.branch_graph.specs.Graph.{falling}
use Rattle.branch_graph.specs.Paints.{is_among}

-- equal where each is true as the other is
pub same_truth : (p q : Bool) → (IsTrue p → IsTrue q) → (IsTrue q → IsTrue p) → p ≡ q
same_truth true q there back = sym (there refl)
same_truth false true there back = back refl
same_truth false false there back = refl

pub or_false : (b : Bool) → (b || false) ≡ b
or_false true = refl
or_false false = refl

pub or_assoc : (a b c : Bool) → ((a || b) || c) ≡ (a || (b || c))
or_assoc true b c = refl
or_assoc false b c = refl

abbrev pub IsIn : ℕ → List ℕ → Type 0
IsIn x [] = ⊥
IsIn x (y ∷ ys) = (x ≡ y) ⊎ IsIn x ys

pub any_from : (f : ℕ → Bool) (xs : List ℕ) (x : ℕ) → IsIn x xs → IsTrue (f x) → IsTrue (list_any f xs)
any_from f [] x here is = absurd here
any_from f (y ∷ ys) x here is =
    ⊎_elim (λ e. or_left (f y) (list_any f ys) (subst (λ z. IsTrue (f z)) e is)) (λ there. or_right (f y) (list_any f ys) (any_from f ys x there is)) here

pub any_member : (f : ℕ → Bool) (xs : List ℕ) → IsTrue (list_any f xs) → (x : ℕ) × IsIn x xs × IsTrue (f x)
any_member f [] is = absurd (cc)
any_member f (y ∷ ys) is =
    ⊎_elim (λ here. (y, inl refl, here)) (λ rest. let found = any_member f ys rest in (found.0, inr found.1, found.2)) (or_cases (f y) (list_any f ys) is)

pub any_same : (f g : ℕ → Bool) (xs : List ℕ) → ((x : ℕ) → f x ≡ g x) → list_any f xs ≡ list_any g xs
any_same f g [] same = refl
any_same f g (x ∷ xs) same = ap (λ t. t || list_any f xs) (same x) ∙ ap (λ t. g x || t) (any_same f g xs same)

pub of_member : (P : ℕ → Type 0) (xs : List ℕ) (x : ℕ) → AllByRecursion P xs → IsIn x xs → P x
of_member P [] x all here = absurd here
of_member P (y ∷ ys) x all here = ⊎_elim (λ e. subst P (sym e) all.0) (λ there. of_member P ys x all.1 there) here

pub among-member : (ns : List ℕ) (m : ℕ) → IsIn m ns → IsTrue (is_among ns m)
among-member ns m here = any_from (λ n. n == m) ns m here (eq-eqb m m refl)

pub member-among : (ns : List ℕ) (m : ℕ) → IsTrue (is_among ns m) → IsIn m ns
member-among ns m is = let found = any_member (λ n. n == m) ns is in subst (λ (n : ℕ). IsIn n ns) (eqb-true found.0 m found.2) found.1

-- the numbers below one
pub in_falling : (n m : ℕ) → m < n → IsIn m (falling n)
in_falling zero m lt = absurd (omega arith)
in_falling (suc n) m lt = elim (m == n) as (λ t. (m == n) ≡ t → (m ≡ n) ⊎ IsIn m (falling n)) [
  | true ↦ λ is. inl (eqb-true m n is)
  | false ↦ λ is. inr (in_falling n m (grind (arith, nat_tests, is, lt)))
] refl

pub below-in_falling : (n m : ℕ) → IsIn m (falling n) → m < n
below-in_falling zero m here = absurd here
below-in_falling (suc n) m here = ⊎_elim (λ e. omega (arith, e)) (λ there. let lt = below-in_falling n m there in omega (arith, lt)) here

-- the first items and one more
pub any-take : (f : ℕ → Bool) (xs : List ℕ) (i : ℕ) → i < length xs → list_any f (take (i + 1) xs) ≡ (list_any f (take i xs) || f (get_or xs i 0))
any-take f xs i lt = let more : i + 1 ≡ suc i = omega arith in rw more (by f xs i lt)
  where
    by : (f : ℕ → Bool) (xs : List ℕ) (i : ℕ) → i < length xs → list_any f (take (suc i) xs) ≡ (list_any f (take i xs) || f (get_or xs i 0))
    by f [] i lt = absurd (omega arith)
    by f (x ∷ xs) zero lt = or_false (f x)
    by f (x ∷ xs) (suc i) lt = ap (λ t. f x || t) (by f xs i (omega arith)) ∙ sym (or_assoc (f x) (list_any f (take i xs)) (f (get_or xs i 0)))

pub filter_same : (f g : ℕ → Bool) (xs : List ℕ) → ((x : ℕ) → f x ≡ g x) → filter f xs ≡ filter g xs
filter_same f g [] same = refl
filter_same f g (x ∷ xs) same = ap (λ t. cond t (x ∷ filter f xs) (filter f xs)) (same x) ∙ ap (λ rest. cond (g x) (x ∷ rest) rest) (filter_same f g xs same)
