-- The maximal commits of a list are the maximal common ancestors of the list and itself.
use Rattle.std.proofs.Common.{◌≡◌, ℕ, ◌<◌, Bool, true, false, ◌&&◌, ◌==◌, List, [], ◌∷◌, length, reverse, refl, ap, ◌∙◌, subst, arith, IsTrue, cond}
use Rattle.std.specs.Prelude.{not}
use Rattle.std.specs.List.{list_any, AllByRecursion}
use Rattle.std.proofs.lemmas.Bool.{and_parts, and_from, not-true, eqb-true, eqb-false}
use Rattle.mrdt_model.specs.Times.{both}
use Rattle.mrdt_model.specs.declared.time.Time.{Time}
use Rattle.mrdt_model.specs.Executions.{Event, restrict}
use Rattle.branch_graph.specs.Graph.{IsRanked, reaches, any_reaches, both_reach, falling, is_maximal_common, maximal_common}
use Rattle.branch_graph.proofs.Members.{same_truth, IsIn, any_from, any_member, of_member, in_falling, filter_same}
use Rattle.branch_graph.proofs.Reach.{reaches-self, reaches-trans, reaches-at_most}
use Rattle.branch_graph.proofs.Turns.{not_from, false-not_true}
use Rattle.branch_history.specs.Merging.{is_below}
use Rattle.virtual_base.specs.Maximal.{is_maximal_of, maximal_of}

module _ (graph : List (List ℕ)) (ranked : IsRanked graph) (ns : List ℕ) (there : AllByRecursion (λ n. n < length graph) ns) where
  -- a commit of the reach lies above m
  abbrev above : ℕ → ℕ → Bool
  above m n = both_reach graph ns ns n && not (n == m) && reaches graph n m

  -- a commit of the list does
  abbrev lies_above : ℕ → ℕ → Bool
  lies_above m k = not (k == m) && reaches graph k m

  both_of : (n k : ℕ) → IsIn k ns → IsTrue (reaches graph k n) → IsTrue (both_reach graph ns ns n)
  both_of n k here is =
      let any = any_from (λ j. reaches graph j n) ns k here is in
      and_from (any_reaches graph ns n) (any_reaches graph ns n) any any

  reached : (n : ℕ) → IsTrue (both_reach graph ns ns n) → (k : ℕ) × IsIn k ns × IsTrue (reaches graph k n)
  reached n is = any_member (λ j. reaches graph j n) ns (and_parts (any_reaches graph ns n) (any_reaches graph ns n) is).0

  below-same : (m : ℕ) → list_any (above m) (falling (length graph)) ≡ is_below graph ns m
  below-same m =
      same_truth (list_any (above m) (falling (length graph))) (is_below graph ns m)
      (λ is.
      let found = any_member (above m) (falling (length graph)) is in
      let n : ℕ = found.0 in
      let parts = and_parts (both_reach graph ns ns n && not (n == m)) (reaches graph n m) found.2 in
      let first = and_parts (both_reach graph ns ns n) (not (n == m)) parts.0 in
      let up = reached n first.0 in
      let k : ℕ = up.0 in
      let other = eqb-false n m (not-true (n == m) first.1) in
      let low = reaches-at_most graph ranked n m parts.1 in
      let high = reaches-at_most graph ranked k n up.2 in
      let apart = not_from (k == m) (λ same. let e = eqb-true k m same in other (omega (arith, low, high, e))) in
      any_from (lies_above m) ns k up.1 (and_from (not (k == m)) (reaches graph k m) apart (reaches-trans graph ranked k n m up.2 parts.1)))
      (λ is.
      let found = any_member (lies_above m) ns is in
      let k : ℕ = found.0 in
      let parts = and_parts (not (k == m)) (reaches graph k m) found.2 in
      any_from (above m) (falling (length graph)) k (in_falling (length graph) k (of_member (λ n. n < length graph) ns k there found.1))
      (and_from (both_reach graph ns ns k && not (k == m)) (reaches graph k m)
      (and_from (both_reach graph ns ns k) (not (k == m)) (both_of k k found.1 (reaches-self graph ranked k)) parts.0) parts.1))

  -- what some commit of the list reaches is one of the list, where none of the list lies above it
  is_one : (m k : ℕ) → IsIn k ns → IsTrue (reaches graph k m) → IsTrue (not (is_below graph ns m)) → IsTrue (list_any (λ j. j == m) ns)
  is_one m k here is none =
      elim (k == m) as (λ b. (k == m) ≡ b → IsTrue (list_any (λ j. j == m) ns)) [
        | true ↦ λ same. any_from (λ j. j == m) ns k here same
        | false ↦ λ other.
            false-not_true (IsTrue (list_any (λ j. j == m) ns)) (is_below graph ns m) (not-true (is_below graph ns m) none)
            (any_from (lies_above m) ns k here (and_from (not (k == m)) (reaches graph k m) (ap not other) is))
      ] refl

  is_maximal-same : (m : ℕ) → is_maximal_common graph ns ns m ≡ is_maximal_of graph ns m
  is_maximal-same m =
      ap (λ t. both_reach graph ns ns m && not t) (below-same m)
      ∙ same_truth (both_reach graph ns ns m && not (is_below graph ns m)) (is_maximal_of graph ns m)
      (λ is.
      let parts = and_parts (both_reach graph ns ns m) (not (is_below graph ns m)) is in
      let up = reached m parts.0 in
      and_from (list_any (λ k. k == m) ns) (not (is_below graph ns m)) (is_one m up.0 up.1 up.2 parts.1) parts.1)
      (λ is.
      let parts = and_parts (list_any (λ k. k == m) ns) (not (is_below graph ns m)) is in
      let found = any_member (λ k. k == m) ns parts.0 in
      let here = subst (λ (k : ℕ). IsIn k ns) (eqb-true found.0 m found.2) found.1 in
      and_from (both_reach graph ns ns m) (not (is_below graph ns m)) (both_of m m here (reaches-self graph ranked m)) parts.1)

  pub maximal-common : maximal_common graph ns ns ≡ maximal_of graph ns
  unfolding maximal_common maximal_of
  maximal-common = ap reverse (filter_same (is_maximal_common graph ns ns) (is_maximal_of graph ns) (falling (length graph)) is_maximal-same)

-- what is kept by a test twice is kept by it once
and_same : (b : Bool) → (b && b) ≡ b
and_same true = refl
and_same false = refl

pub restrict-both : {O R : Type 0} (keep : Time → Bool) (x : List (Event O R)) → restrict (both keep keep) x ≡ restrict keep x
restrict-both keep [] = refl
restrict-both keep (e ∷ x) =
    ap (λ t. cond t (e ∷ restrict (both keep keep) x) (restrict (both keep keep) x)) (and_same (keep e.time))
    ∙ ap (λ rest. cond (keep e.time) (e ∷ rest) rest) (restrict-both keep x)
