-- What a merge brings to a head that lies above another.
use Rattle.std.proofs.Common.{◌≡◌, ℕ, Bool, true, false, cond, ◌&&◌, List, [], ◌∷◌, filter, refl, ap, ◌∙◌, IsTrue}
use Rattle.std.specs.Prelude.{not}
use Rattle.std.proofs.lemmas.Bool.{and_parts, not-true, false_from_ne_true, both_ways}
use Rattle.branch_graph.specs.Graph.{IsRanked, reaches}
use Rattle.branch_history.specs.Merging.{each_once, is_below, brought}
use Rattle.branch_history.proofs.Reach.{reaches-trans}

-- where nothing passes a test, nothing passes a stronger one
filter-fewer : (f g : ℕ → Bool) → ((n : ℕ) → IsTrue (g n) → IsTrue (f n)) → (ns : List ℕ) → filter f ns ≡ [] → filter g ns ≡ []
filter-fewer f g fewer [] none = refl
filter-fewer f g fewer (n ∷ ns) none = by (f n) (g n) refl refl (filter-fewer f g fewer ns) none
  where
    by : (a b : Bool) → f n ≡ a → g n ≡ b → (filter f ns ≡ [] → filter g ns ≡ []) → cond a (n ∷ filter f ns) (filter f ns) ≡ [] → cond b (n ∷ filter g ns) (filter g ns) ≡ []
    by true b first second rest is = absurd (let never : ⊥ = cc in never)
    by false true first second rest is = absurd (both_ways (f n) first (fewer n second))
    by false false first second rest is = rest is

-- a merge that brings nothing to a commit brings nothing to one that reaches it
pub brings-nothing : (graph : List (List ℕ)) → IsRanked graph → (h k : ℕ) (ns : List ℕ) → IsTrue (reaches graph k h) → brought graph h ns ≡ [] → brought graph k ns ≡ []
unfolding brought
brings-nothing graph ranked h k ns above =
    filter-fewer (λ n. not (reaches graph h n) && not (is_below graph ns n)) (λ n. not (reaches graph k n) && not (is_below graph ns n))
    (λ n is.
    let parts = and_parts (not (reaches graph k n)) (not (is_below graph ns n)) is in
    let none : reaches graph h n ≡ false =
    false_from_ne_true (reaches graph h n) (λ there. both_ways (reaches graph k n) (not-true (reaches graph k n) parts.0) (reaches-trans graph ranked k h n above there)) in
    ap (λ t. not t && not (is_below graph ns n)) none ∙ parts.1)
    (each_once ns)
