-- Graphs whose commits have parents of smaller numbers.
use Rattle.std.proofs.Common.{zero, suc, ◌≡◌, ℕ, ◌-◌, ◌<◌, ◌≤◌, List, [], ◌∷◌, ◌++◌, length, take, refl, ap, sym, ◌∙◌, subst, arith, All, length-append}
use Rattle.std.specs.List.{AllByRecursion}
use Rattle.std.proofs.lemmas.List.{length-take}
use Rattle.branch_graph.specs.Graph.{parents_of, IsRanked, IsWithin}

-- a fact of each item, from the fact at each place
pub AllByRecursion-from_All : (P : ℕ → Type 0) (xs : List ℕ) → All P xs → AllByRecursion P xs
AllByRecursion-from_All P [] all = tt
AllByRecursion-from_All P (x ∷ xs) all = (all 0 0 (omega arith), AllByRecursion-from_All P xs (λ k d lt. all (suc k) d (omega arith)))

pub All-from_AllByRecursion : (P : ℕ → Type 0) (xs : List ℕ) → AllByRecursion P xs → All P xs
All-from_AllByRecursion P [] all k d lt = absurd (omega arith)
All-from_AllByRecursion P (x ∷ xs) all zero d lt = all.0
All-from_AllByRecursion P (x ∷ xs) all (suc k) d lt = All-from_AllByRecursion P xs all.1 k d (omega arith)

-- a commit's place is an old one, the new one, or past it
pub data Place (n count : ℕ) : Type 0 where
  old : n < count → Place n count
  new : n ≡ count → Place n count
  past : count < n → Place n count

pub place : (n count : ℕ) → Place n count
place zero zero = new refl
place zero (suc k) = old (omega arith)
place (suc n) zero = past (omega arith)
place (suc n) (suc k) = elim (place n k) [ old h ↦ old (omega arith) | new h ↦ new (ap suc h) | past h ↦ past (omega arith) ]

pub parents_of-old : (graph : List (List ℕ)) (more : List ℕ) (n : ℕ) → n < length graph → parents_of (graph ++ more ∷ []) n ≡ parents_of graph n
parents_of-old [] more n lt = absurd (omega arith)
parents_of-old (ps ∷ graph) more zero lt = refl
parents_of-old (ps ∷ graph) more (suc n) lt = parents_of-old graph more n (omega arith)

pub parents_of-new : (graph : List (List ℕ)) (more : List ℕ) → parents_of (graph ++ more ∷ []) (length graph) ≡ more
parents_of-new [] more = refl
parents_of-new (ps ∷ graph) more = parents_of-new graph more

pub parents_of-past : (graph : List (List ℕ)) (n : ℕ) → length graph ≤ n → parents_of graph n ≡ []
parents_of-past [] n le = refl
parents_of-past (ps ∷ graph) zero le = absurd (omega arith)
parents_of-past (ps ∷ graph) (suc n) le = parents_of-past graph n (omega arith)

pub IsRanked-append : (graph : List (List ℕ)) (more : List ℕ) → IsRanked graph → AllByRecursion (λ p. p < length graph) more → IsRanked (graph ++ more ∷ [])
IsRanked-append graph more ranked below n =
    let all : List ℕ → Type 0 = λ ps. AllByRecursion (λ p. p < n) ps in
    let at : ℕ → Type 0 = λ count. AllByRecursion (λ p. p < count) more in
    elim (place n (length graph)) [
      | old lt ↦ subst all (sym (parents_of-old graph more n lt)) (ranked n)
      | new is ↦ subst all (sym (ap (parents_of (graph ++ more ∷ [])) is ∙ parents_of-new graph more)) (subst at (sym is) below)
      | past gt ↦ subst all (sym (parents_of-past (graph ++ more ∷ []) n (let len = length-append graph (more ∷ []) in omega arith))) tt
    ]

pub IsWithin-append : (limit : ℕ) (commits : List (List ℕ)) (more : List ℕ) → IsWithin limit commits → length commits < limit → All (λ p. p < length commits) more
    → IsWithin limit (commits ++ more ∷ [])
IsWithin-append limit commits more within room below = record {
  ranked = IsRanked-append commits more within.ranked (AllByRecursion-from_All (λ p. p < length commits) more below);
  at_most = omega (arith, length-append commits (more ∷ []));
  fits = within.fits;
}

pub IsWithin-pop : (limit : ℕ) (commits : List (List ℕ)) → IsWithin limit commits → IsWithin limit (take (length commits - 1) commits)
IsWithin-pop limit commits within = record {
  ranked = IsRanked-take (length commits - 1) commits within.ranked;
  at_most = let most = within.at_most in omega (arith, length-take (length commits - 1) commits);
  fits = within.fits;
}
  where
    parents_of-take : (count n : ℕ) (graph : List (List ℕ)) → n < count → parents_of (take count graph) n ≡ parents_of graph n
    parents_of-take zero n graph lt = absurd (omega arith)
    parents_of-take (suc count) n [] lt = refl
    parents_of-take (suc count) zero (ps ∷ graph) lt = refl
    parents_of-take (suc count) (suc n) (ps ∷ graph) lt = parents_of-take count n graph (omega arith)

    IsRanked-take : (count : ℕ) (graph : List (List ℕ)) → IsRanked graph → IsRanked (take count graph)
    IsRanked-take count graph ranked n =
        let all : List ℕ → Type 0 = λ ps. AllByRecursion (λ p. p < n) ps in
        elim (place n count) [
          | old lt ↦ subst all (sym (parents_of-take count n graph lt)) (ranked n)
          | new is ↦ subst all (sym (parents_of-past (take count graph) n (omega (arith, length-take count graph)))) tt
          | past gt ↦ subst all (sym (parents_of-past (take count graph) n (omega (arith, length-take count graph)))) tt
        ]
