-- Which commits are live.
use Rattle.std.proofs.Common.{zero, suc, ◌≡◌, ℕ, ◌<◌, Bool, false, ◌&&◌, ◌==◌, List, [], ◌∷◌, length, refl, ap, sym, ◌∙◌, arith, IsTrue, Some, ⊎_elim}
use Rattle.std.specs.Prelude.{slice_get, not}
use Rattle.std.specs.Option.{option_map_or}
use Rattle.std.specs.List.{list_any, AllByRecursion}
use Rattle.std.proofs.lemmas.Bool.{or_left, or_right, or_cases, and_parts, and_from, not-true}
use Rattle.std.proofs.lemmas.Option.{slice_get_within}
use Rattle.branch_graph.specs.Graph.{parents_of, IsRanked, reaches, any_reaches}
use Rattle.branch_names.specs.declared.terms.Terms.{Terms}
use Rattle.branch_names.specs.declared.branch.Branch.{Branch}
use Rattle.branch_names.specs.Heads.{head_of}
use Rattle.branch_history.specs.Commits.{graph_of}
use Rattle.branch_history.specs.History.{Store}
use Rattle.branch_names.specs.Heads.{IsKeptBranch}
use Rattle.branch_history.specs.Laws.{IsOrdered}
use Rattle.branch_history.proofs.Reach.{reaches-step, reaches-self, reaches-trans, reaches-at_most}
use Rattle.branch_history.proofs.Stores.{there-get}
use Rattle.branch_compact.specs.Compact.{is_live}
use Rattle.branch_compact.proofs.Thinned.{IsDownward}

-- a test over a list, by places
module _ {X : Type 0} (f : X → Bool) where
  pub any-at : (xs : List X) (i : ℕ) (x : X) → slice_get xs i ≡ Some x → IsTrue (f x) → IsTrue (list_any f xs)
  any-at [] i x at is = absurd (cc)
  any-at (y ∷ xs) zero x at is = let same : y ≡ x = cc at in or_left (f y) (list_any f xs) (ap f same ∙ is)
  any-at (y ∷ xs) (suc i) x at is = or_right (f y) (list_any f xs) (any-at xs i x at is)

  pub any-found : (xs : List X) → IsTrue (list_any f xs) → (i : ℕ) × (x : X) × (slice_get xs i ≡ Some x) × IsTrue (f x)
  any-found [] is = absurd (cc)
  any-found (y ∷ xs) is = ⊎_elim (λ here. (zero, y, refl, here)) (λ there. let rest = any-found xs there in (suc rest.0, rest.1, rest.2, rest.3)) (or_cases (f y) (list_any f xs) is)

-- each commit reaches commit 0
module _ (graph : List (List ℕ)) (ranked : IsRanked graph) (rooted : (n : ℕ) → 0 < n → n < length graph → ¬ (parents_of graph n ≡ [])) where
  root-below : (b n : ℕ) → n < b → n < length graph → IsTrue (reaches graph n 0)
  root-below zero n lt there = absurd (omega arith)
  root-below (suc b) zero lt there = reaches-self graph ranked 0
  root-below (suc b) (suc n) lt there = reaches-step graph ranked (suc n) 0 ∙ or_right (suc n == 0) (any_reaches graph (parents_of graph (suc n)) 0) (some (parents_of graph (suc n)) refl (ranked (suc n)) (λ p less. root-below b p (omega arith) (omega arith)))
    where
      some : (ps : List ℕ) → parents_of graph (suc n) ≡ ps → AllByRecursion (λ p. p < suc n) ps → ((p : ℕ) → p < suc n → IsTrue (reaches graph p 0)) → IsTrue (any_reaches graph ps 0)
      some [] is below each = absurd (rooted (suc n) (omega arith) there is)
      some (p ∷ ps) is below each = or_left (reaches graph p 0) (any_reaches graph ps 0) (each p below.0)

  pub reaches-root : (n : ℕ) → n < length graph → IsTrue (reaches graph n 0)
  reaches-root n = root-below (suc n) n (omega arith)

module _ {O R : Type 0} (s : Store O R) where
  abbrev g : List (List ℕ)
  g = graph_of s.commits

  -- what a branch that was not dropped reaches
  pub live-from : (r n : ℕ) → IsKeptBranch s.branches r → IsTrue (reaches g (head_of s.branches r) n) → IsTrue (is_live s n)
  unfolding is_live
  live-from r n kept reached =
      let at = there-get s.branches r kept.0 in
      let b : Branch = at.0 in
      let here : b.dropped ≡ false = sym (ap (λ o. option_map_or (λ b. b.dropped) o false) at.1) ∙ kept.1 in
      let head : head_of s.branches r ≡ b.head = ap (λ o. option_map_or (λ b. b.head) o 0) at.1 in
      any-at (λ b. not b.dropped && reaches g b.head n) s.branches r b at.1 (and_from (not b.dropped) (reaches g b.head n) (ap not here) (ap (λ h. reaches g h n) (sym head) ∙ reached))

  pub live-found : (n : ℕ) → IsTrue (is_live s n) → (r : ℕ) × IsKeptBranch s.branches r × IsTrue (reaches g (head_of s.branches r) n)
  unfolding is_live
  live-found n is =
      let found = any-found (λ b. not b.dropped && reaches g b.head n) s.branches is in
      let r : ℕ = found.0 in
      let b : Branch = found.1 in
      let parts = and_parts (not b.dropped) (reaches g b.head n) found.3 in
      let head : head_of s.branches r ≡ b.head = ap (λ o. option_map_or (λ b. b.head) o 0) found.2 in (
        r,
        (slice_get_within s.branches r b found.2, ap (λ o. option_map_or (λ b. b.dropped) o false) found.2 ∙ not-true b.dropped parts.0),
        ap (λ h. reaches g h n) head ∙ parts.1,
      )

  module _ (terms : Terms) (ordered : IsOrdered terms s) where
    pub live-head : (r : ℕ) → IsKeptBranch s.branches r → IsTrue (is_live s (head_of s.branches r))
    live-head r kept = live-from r (head_of s.branches r) kept (reaches-self g ordered.ranked (head_of s.branches r))

    pub live-down : IsDownward (is_live s) g
    live-down n m lt is reached =
        let found = live-found n is in
        live-from found.0 m found.1 (reaches-trans g ordered.ranked (head_of s.branches found.0) n m found.2 reached)

    pub live-within : (n : ℕ) → IsTrue (is_live s n) → n < length s.commits
    live-within n is =
        let found = live-found n is in
        let head = ordered.heads found.0 found.1.0 in
        let low = reaches-at_most g ordered.ranked (head_of s.branches found.0) n found.2 in
        omega (arith, head, low)
