-- Rising commits none of which lies below another are all of them maximal.
use Rattle.std.proofs.Common.{zero, suc, ◌≡◌, ℕ, ◌<◌, Bool, true, false, ◌||◌, ◌==◌, List, [], ◌∷◌, ◌++◌, length, reverse, refl, ap, ◌∙◌, sym, subst, arith, filter, cond}
use Rattle.std.specs.Prelude.{not}
use Rattle.std.specs.List.{list_any, AllByRecursion}
use Rattle.std.proofs.lemmas.Bool.{and_parts, and_from, or_left, eqb-true, eq-eqb, not_from_false}
use Rattle.std.proofs.lemmas.List.{reverse-append, reverse-reverse}
use Rattle.std.proofs.lemmas.List.Folds.{list_any-append}
use Rattle.branch_graph.specs.Graph.{falling}
use Rattle.branch_graph.proofs.Members.{same_truth, any_member, of_member}
use Rattle.branch_graph.proofs.Turns.{false_from}
use Rattle.branch_history.specs.Laws.{IsRising}
use Rattle.branch_history.specs.Merging.{is_below}
use Rattle.branch_history.proofs.Lists.{AllByRecursion-more, place, old, new, past}
use Rattle.virtual_base.specs.Maximal.{is_maximal_of, maximal_of, KeepsMaximal}

-- lists in reverse
all_append : (P : ℕ → Type 0) (xs ys : List ℕ) → AllByRecursion P xs → AllByRecursion P ys → AllByRecursion P (xs ++ ys)
all_append P [] ys all more = more
all_append P (x ∷ xs) ys all more = (all.0, all_append P xs ys all.1 more)

all_reverse : (P : ℕ → Type 0) (xs : List ℕ) → AllByRecursion P xs → AllByRecursion P (reverse xs)
all_reverse P [] all = tt
all_reverse P (x ∷ xs) all = subst (AllByRecursion P) (sym (reverse-append (x ∷ []) xs)) (all_append P (reverse xs) (x ∷ []) (all_reverse P xs all.1) (all.0, tt))

or_swap : (p q : Bool) → (p || (q || false)) ≡ (q || p)
or_swap true true = refl
or_swap true false = refl
or_swap false true = refl
or_swap false false = refl

any_reverse : (f : ℕ → Bool) (xs : List ℕ) → list_any f (reverse xs) ≡ list_any f xs
any_reverse f [] = refl
any_reverse f (x ∷ xs) = ap (list_any f) (reverse-append (x ∷ []) xs) ∙ list_any-append f (reverse xs) (x ∷ []) ∙ or_swap (list_any f (reverse xs)) (f x) ∙ ap (λ t. f x || t) (any_reverse f xs)

-- each number is greater than all behind it
abbrev IsFalling : List ℕ → Type 0
IsFalling [] = Unit {0}
IsFalling (n ∷ ns) = AllByRecursion (λ k. k < n) ns × IsFalling ns

falling_append : (ys : List ℕ) (x : ℕ) → IsFalling ys → AllByRecursion (λ k. x < k) ys → IsFalling (ys ++ x ∷ [])
falling_append [] x falls all = (tt, tt)
falling_append (y ∷ ys) x falls all = (all_append (λ k. k < y) ys (x ∷ []) falls.0 (all.0, tt), falling_append ys x falls.1 all.1)

falling_reverse : (xs : List ℕ) → IsRising xs → IsFalling (reverse xs)
falling_reverse [] rising = tt
falling_reverse (x ∷ xs) rising = subst IsFalling (sym (reverse-append (x ∷ []) xs)) (falling_append (reverse xs) x (falling_reverse xs rising.1) (all_reverse (λ k. x < k) xs rising.0))

-- numbers below n are other ones
other : (k n : ℕ) → k < n → (k == n) ≡ false
other k n lt = false_from (k == n) (λ is. let e = eqb-true k n is in absurd (omega (arith, e, lt)))

other_back : (k n : ℕ) → n < k → (k == n) ≡ false
other_back k n lt = false_from (k == n) (λ is. let e = eqb-true k n is in absurd (omega (arith, e, lt)))

none_is : (ks : List ℕ) (n : ℕ) → AllByRecursion (λ k. k < n) ks → list_any (λ k. k == n) ks ≡ false
none_is [] n all = refl
none_is (k ∷ ks) n all = ap (λ t. t || list_any (λ j. j == n) ks) (other k n all.0) ∙ none_is ks n all.1

-- a falling list is what is kept of the numbers below n, where those of the list are kept
kept_falling : (keep : ℕ → Bool) (ys : List ℕ) (n : ℕ) → IsFalling ys → AllByRecursion (λ k. k < n) ys → ((m : ℕ) → m < n → keep m ≡ list_any (λ k. k == m) ys) → filter keep (falling n) ≡ ys
kept_falling keep [] zero falls below same = refl
kept_falling keep (y ∷ ys) zero falls below same = absurd (omega (arith, below.0))
kept_falling keep [] (suc n) falls below same =
    ap (λ t. cond t (n ∷ filter keep (falling n)) (filter keep (falling n))) (same n (omega arith))
    ∙ kept_falling keep [] n tt tt (λ m lt. same m (omega (arith, lt)))
kept_falling keep (y ∷ ys) (suc n) falls below same =
    elim (place y n) [
      | old lt ↦
          let less : AllByRecursion (λ k. k < n) ys = AllByRecursion-more (λ k. k < y) (λ k. k < n) ys (λ k le. omega (arith, le, lt)) falls.0 in
          ap (λ t. cond t (n ∷ filter keep (falling n)) (filter keep (falling n))) (same n (omega arith) ∙ none_is (y ∷ ys) n (lt, less))
          ∙ kept_falling keep (y ∷ ys) n falls (lt, less) (λ m le. same m (omega (arith, le)))
      | new e ↦
          ap (λ t. cond t (n ∷ filter keep (falling n)) (filter keep (falling n))) (same n (omega arith) ∙ or_left (y == n) (list_any (λ k. k == n) ys) (eq-eqb y n e))
          ∙ ap (λ k. k ∷ filter keep (falling n)) (sym e)
          ∙ ap (λ rest. y ∷ rest)
          (kept_falling keep ys n falls.1 (subst (λ (k : ℕ). AllByRecursion (λ j. j < k) ys) e falls.0)
          (λ m lt. same m (omega (arith, lt)) ∙ ap (λ t. t || list_any (λ k. k == m) ys) (other_back y m (omega (arith, lt, e)))))
      | past gt ↦ absurd (let lt = below.0 in omega (arith, lt, gt))
    ]

-- where no commit of the list lies below another, to be one of them is to be maximal
alone_same : (graph : List (List ℕ)) (ns : List ℕ) (m : ℕ) → AllByRecursion (λ n. is_below graph ns n ≡ false) ns → is_maximal_of graph ns m ≡ list_any (λ k. k == m) ns
alone_same graph ns m alone =
    same_truth (is_maximal_of graph ns m) (list_any (λ k. k == m) ns)
    (λ is. (and_parts (list_any (λ k. k == m) ns) (not (is_below graph ns m)) is).0)
    (λ is.
    let found = any_member (λ k. k == m) ns is in
    let none : is_below graph ns m ≡ false = subst (λ (k : ℕ). is_below graph ns k ≡ false) (eqb-true found.0 m found.2) (of_member (λ n. is_below graph ns n ≡ false) ns found.0 alone found.1) in
    and_from (list_any (λ k. k == m) ns) (not (is_below graph ns m)) is (not_from_false (is_below graph ns m) none))

pub kept-maximal : KeepsMaximal
unfolding maximal_of
kept-maximal graph ns rising there alone =
    ap reverse
    (kept_falling (is_maximal_of graph ns) (reverse ns) (length graph) (falling_reverse ns rising) (all_reverse (λ n. n < length graph) ns there)
    (λ m lt. alone_same graph ns m alone ∙ sym (any_reverse (λ k. k == m) ns)))
    ∙ reverse-reverse ns
