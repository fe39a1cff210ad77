-- What a commit reaches: itself, and what its parents reach.
use Rattle.std.proofs.Common.{zero, suc, ◌≡◌, ℕ, ◌<◌, ◌≤◌, Bool, true, false, ◌||◌, ◌==◌, List, [], ◌∷◌, refl, ap, sym, ◌∙◌, subst, arith, IsTrue, ⊎_elim}
use Rattle.std.specs.List.{list_any, AllByRecursion}
use Rattle.std.proofs.lemmas.Bool.{or_cases, or_left, or_right, eqb-true, eqb-false, eq-eqb}
use Rattle.branch_graph.specs.Graph.{parents_of, IsRanked, leads, reaches, any_reaches}
use Rattle.branch_graph.proofs.Members.{or_false, IsIn, any_from, any_member, of_member}

any_below : (P : ℕ → Type 0) (f g : ℕ → Bool) (xs : List ℕ) → AllByRecursion P xs → ((x : ℕ) → P x → f x ≡ g x) → list_any f xs ≡ list_any g xs
any_below P f g [] all same = refl
any_below P f g (x ∷ xs) all same = ap (λ t. t || list_any f xs) (same x all.0) ∙ ap (λ t. g x || t) (any_below P f g xs all.1 same)

none_below_zero : (xs : List ℕ) → AllByRecursion (λ p. p < 0) xs → xs ≡ []
none_below_zero [] all = refl
none_below_zero (x ∷ xs) all = absurd (omega (arith, all.0))

module _ (graph : List (List ℕ)) (ranked : IsRanked graph) where
  leads_zero : (k n m : ℕ) → n ≡ 0 → leads k graph n m ≡ (n == m)
  leads_zero zero n m z = refl
  leads_zero (suc k) n m z =
      let none : parents_of graph n ≡ [] = ap (parents_of graph) z ∙ none_below_zero (parents_of graph 0) (ranked 0) in
      ap (λ ps. (n == m) || list_any (λ p. leads k graph p m) ps) none ∙ or_false (n == m)

  -- n steps from n are as good as any larger number
  leads_enough : (j k n m : ℕ) → n ≤ j → n ≤ k → leads j graph n m ≡ leads k graph n m
  leads_enough zero k n m a b = let z : n ≡ 0 = omega arith in sym (leads_zero k n m z)
  leads_enough (suc j) zero n m a b = let z : n ≡ 0 = omega arith in leads_zero (suc j) n m z
  leads_enough (suc j) (suc k) n m a b =
      ap (λ t. (n == m) || t) (any_below (λ p. p < n) (λ p. leads j graph p m) (λ p. leads k graph p m) (parents_of graph n) (ranked n)
      (λ p lt. leads_enough j k p m (omega arith) (omega arith)))

  -- a commit reaches itself, and what its parents reach
  pub reaches-step : (n m : ℕ) → reaches graph n m ≡ ((n == m) || any_reaches graph (parents_of graph n) m)
  unfolding reaches
  reaches-step zero m = sym (ap (λ ps. (zero == m) || list_any (λ p. leads p graph p m) ps) (none_below_zero (parents_of graph 0) (ranked 0)) ∙ or_false (zero == m))
  reaches-step (suc n) m =
      ap (λ t. (suc n == m) || t) (any_below (λ p. p < suc n) (λ p. leads n graph p m) (λ p. leads p graph p m) (parents_of graph (suc n)) (ranked (suc n))
      (λ p lt. leads_enough n p p m (omega arith) (omega arith)))

  pub reaches-self : (n : ℕ) → IsTrue (reaches graph n n)
  reaches-self n = reaches-step n n ∙ or_left (n == n) (any_reaches graph (parents_of graph n) n) (eq-eqb n n refl)

  pub reaches-through : (n p m : ℕ) → IsIn p (parents_of graph n) → IsTrue (reaches graph p m) → IsTrue (reaches graph n m)
  reaches-through n p m parent is =
      reaches-step n m ∙ or_right (n == m) (any_reaches graph (parents_of graph n) m) (any_from (λ k. reaches graph k m) (parents_of graph n) p parent is)

  pub parent-below : (n p : ℕ) → IsIn p (parents_of graph n) → p < n
  parent-below n p parent = of_member (λ k. k < n) (parents_of graph n) p (ranked n) parent

  -- what is reached is the commit itself, or is reached from a parent
  pub reaches-cases : (Goal : Type 0) (n m : ℕ) → IsTrue (reaches graph n m) → (n ≡ m → Goal) → ((p : ℕ) → IsIn p (parents_of graph n) → IsTrue (reaches graph p m) → Goal) → Goal
  reaches-cases Goal n m is same below =
      ⊎_elim
      (λ e. same (eqb-true n m e))
      (λ any. let found = any_member (λ p. reaches graph p m) (parents_of graph n) any in below found.0 found.1 found.2)
      (or_cases (n == m) (any_reaches graph (parents_of graph n) m) (sym (reaches-step n m) ∙ is))

  trans_below : (b n k m : ℕ) → n < b → IsTrue (reaches graph n k) → IsTrue (reaches graph k m) → IsTrue (reaches graph n m)
  trans_below zero n k m lt first second = absurd (omega arith)
  trans_below (suc b) n k m lt first second =
      reaches-cases (IsTrue (reaches graph n m)) n k first
      (λ e. subst (λ (j : ℕ). IsTrue (reaches graph j m)) (sym e) second)
      (λ p parent is. let less = parent-below n p parent in reaches-through n p m parent (trans_below b p k m (omega arith) is second))

  pub reaches-trans : (n k m : ℕ) → IsTrue (reaches graph n k) → IsTrue (reaches graph k m) → IsTrue (reaches graph n m)
  reaches-trans n k m first second = trans_below (suc n) n k m (omega arith) first second

  at_most_below : (b n m : ℕ) → n < b → IsTrue (reaches graph n m) → m ≤ n
  at_most_below zero n m lt is = absurd (omega arith)
  at_most_below (suc b) n m lt is =
      reaches-cases (m ≤ n) n m is (λ e. omega arith) (λ p parent there. let less = parent-below n p parent in let h = at_most_below b p m (omega arith) there in omega arith)

  -- what is reached has no greater number
  pub reaches-at_most : (n m : ℕ) → IsTrue (reaches graph n m) → m ≤ n
  reaches-at_most n m is = at_most_below (suc n) n m (omega arith) is

  -- the last step of a path
  last_below : (b n m : ℕ) → n < b → IsTrue (reaches graph n m) → (n ≡ m → ⊥) → (k : ℕ) × IsIn m (parents_of graph k) × IsTrue (reaches graph n k)
  last_below zero n m lt is other = absurd (omega arith)
  last_below (suc b) n m lt is other =
      reaches-cases ((k : ℕ) × IsIn m (parents_of graph k) × IsTrue (reaches graph n k)) n m is
      (λ e. absurd (other e))
      (λ p parent there.
      let less = parent-below n p parent in
      elim (p == m) as (λ t. (p == m) ≡ t → (k : ℕ) × IsIn m (parents_of graph k) × IsTrue (reaches graph n k)) [
        | true ↦ λ same. (n, subst (λ (q : ℕ). IsIn q (parents_of graph n)) (eqb-true p m same) parent, reaches-self n)
        | false ↦ λ differ.
            let found = last_below b p m (omega arith) there (eqb-false p m differ) in
            (found.0, found.1, reaches-through n p found.0 parent found.2)
      ] refl)

  pub reaches-last : (n m : ℕ) → IsTrue (reaches graph n m) → (n ≡ m → ⊥) → (k : ℕ) × IsIn m (parents_of graph k) × IsTrue (reaches graph n k)
  reaches-last n m is other = last_below (suc n) n m (omega arith) is other
