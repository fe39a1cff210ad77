-- When a merge may have some parents.
use Rattle.std.proofs.Common.{◌≡◌, ℕ, ◌-◌, ◌<◌, ◌≤◌, ◌^◌, Bool, true, false, List, [], ◌∷◌, length, take, drop, get_or, nat_eq, All, refl, ap, sym, ◌∙◌, arith, IsTrue, subst}
use Rattle.std.specs.Prelude.{not}
use Rattle.std.specs.Cmp.Lexicographic.{pointwise}
use Rattle.std.proofs.lemmas.Bool.Decides.{Decides-eqb}
use Rattle.std.proofs.lemmas.List.{take_all}
use Rattle.std.proofs.lemmas.List.Elements.{All-head, All-tail}
use Rattle.std.proofs.lemmas.Slice.Eq.{slice_eq-Decides}
use Rattle.mrdt_model.specs.Laws.{Meaning}
use Rattle.branch_graph.specs.Graph.{reaches}
use Rattle.branch_graph.proofs.Ranked.{AllByRecursion-from_All}
use Rattle.branch_history.specs.Commits.{graph_of}
use Rattle.branch_history.specs.History.{Store}
use Rattle.branch_history.specs.Merging.{brought, AreApart}
use Rattle.branch_history.specs.Validity.{IsStep}
use Rattle.store_seen.specs.Arrivals.{receive_merge}

module _ (graph : List (List ℕ)) (h : ℕ) (ms : List ℕ) where
  -- either says that the parents are apart
  abbrev pub Tells : Bool → Type 0
  Tells are = (IsTrue are → AreApart graph h ms) × (AreApart graph h ms → IsTrue are)

  -- something else is brought
  pub apart-other : (found : List ℕ) → found ≡ brought graph h ms → (found ≡ ms → ⊥) → Tells false
  apart-other found is ne = (λ t. absurd (cc), λ apart. absurd (ne (is ∙ apart.brought)))

  -- one other, which is brought
  pub apart-one : (n : ℕ) (up : Bool) → ms ≡ n ∷ [] → brought graph h ms ≡ ms → up ≡ reaches graph n h → Tells (not up)
  apart-one n true e all is = (λ t. absurd (cc), λ apart. absurd (let none = is ∙ apart.alone n e in cc))
  apart-one n false e all is = (
    λ t. record {
      brought = all;
      alone = λ k e_k. let same : n ≡ k = let both : n ∷ [] ≡ k ∷ [] = sym e ∙ e_k in cc in subst (λ (j : ℕ). reaches graph j h ≡ false) same (sym is);
    },
    λ apart. refl,
  )

  -- several others, or none, all of which are brought
  pub apart-several : brought graph h ms ≡ ms → (length ms ≡ 1 → ⊥) → Tells true
  apart-several all ne = (λ t. record { brought = all; alone = λ n e. absurd (ne (ap length e)) }, λ apart. refl)

-- the parents behind the first one
abbrev pub rest_of : List ℕ → List ℕ
rest_of parents = take (length parents - 1) (drop 1 parents)

rest-is : (h : ℕ) (ms : List ℕ) → rest_of (h ∷ ms) ≡ ms
rest-is h ms = take_all (length (h ∷ ms) - 1) ms (omega arith)

one-alone : (l : List ℕ) → 1 ≤ length l → length l < 2 → l ≡ get_or l 0 0 ∷ []
one-alone [] some few = absurd (omega (arith, some))
one-alone (x ∷ []) some few = refl
one-alone (x ∷ y ∷ l) some few = absurd (omega (arith, few))

-- what a comparison of two lists says
pub unequal : (xs ys : List ℕ) (r : Bool) → r ≡ not (pointwise nat_eq xs ys) → r ≡ true → xs ≡ ys → ⊥
unequal xs ys r is t e =
    let same = (slice_eq-Decides Decides-eqb xs ys (pointwise nat_eq xs ys) refl).1 e in
    absurd (let both = sym t ∙ is ∙ ap not same in cc)

pub equal : (xs ys : List ℕ) (r : Bool) → r ≡ not (pointwise nat_eq xs ys) → r ≡ false → xs ≡ ys
equal xs ys r is f = go (pointwise nat_eq xs ys) refl
  where
    go : (b : Bool) → pointwise nat_eq xs ys ≡ b → xs ≡ ys
    go true p = (slice_eq-Decides Decides-eqb xs ys (pointwise nat_eq xs ys) refl).0 p
    go false p = absurd (let both = sym f ∙ is ∙ ap not p in cc)

-- of parents in one list, by the graph that is kept
module _ (graph kept : List (List ℕ)) (same : kept ≡ graph) (parents : List ℕ) (found : List ℕ) (is : found ≡ brought kept (get_or parents 0 0) (rest_of parents)) (h : ℕ) (ms : List ℕ) (e : parents ≡ h ∷ ms) where
  rest : rest_of parents ≡ ms
  rest = ap rest_of e ∙ rest-is h ms

  first : get_or parents 0 0 ≡ h
  first = ap (λ l. get_or l 0 0) e

  found-is : found ≡ brought graph h ms
  found-is =
      is
      ∙ ap (λ k. brought k (get_or parents 0 0) (rest_of parents)) same
      ∙ ap (λ n. brought graph n (rest_of parents)) first
      ∙ ap (brought graph h) rest

  pub told-other : (found ≡ rest_of parents → ⊥) → Tells graph h ms false
  told-other ne = apart-other graph h ms found found-is (λ x. ne (x ∙ sym rest))

  module _ (all : found ≡ rest_of parents) where
    pub told-one : (up : Bool) → 1 ≤ length (rest_of parents) → length (rest_of parents) < 2 → up ≡ reaches kept (get_or (rest_of parents) 0 0) (get_or parents 0 0) → Tells graph h ms (not up)
    told-one up some few up_is =
        apart-one graph h ms (get_or ms 0 0) up
        (one-alone ms (subst (λ l. 1 ≤ length l) rest some) (subst (λ l. length l < 2) rest few))
        (sym found-is ∙ all ∙ rest)
        (up_is
        ∙ ap (λ k. reaches k (get_or (rest_of parents) 0 0) (get_or parents 0 0)) same
        ∙ ap (λ l. reaches graph (get_or l 0 0) (get_or parents 0 0)) rest
        ∙ ap (reaches graph (get_or ms 0 0)) first)

    pub told-several : (length (rest_of parents) ≡ 1 → ⊥) → Tells graph h ms true
    told-several ne = apart-several graph h ms (sym found-is ∙ all ∙ rest) (λ one. ne (ap length rest ∙ one))

-- commits that are apart may be the parents of a merge that is received
pub receive-step : {S O R Q A : Type 0} (meaning : Meaning S O R Q A) (s : Store O R) (origin : ℕ) → origin < 2 ^ 32 → (parents : List ℕ) → All (λ n. n < length s.commits) parents → 2 ≤ length parents → length parents ≤ 9
    → (are : Bool) → IsTrue are → ((h : ℕ) (ms : List ℕ) → parents ≡ h ∷ ms → IsTrue are → AreApart (graph_of s.commits) h ms) → IsStep meaning s (receive_merge origin parents)
receive-step meaning s origin small [] there several few are is apart = absurd (omega (arith, several))
receive-step meaning s origin small (h ∷ ms) there several few are is apart = (
  small,
  All-head (λ n. n < length s.commits) h ms there,
  AllByRecursion-from_All (λ n. n < length s.commits) ms (All-tail (λ n. n < length s.commits) h ms there),
  record { some = omega (arith, several); few = omega (arith, few) },
  apart h ms refl is,
)
