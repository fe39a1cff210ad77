-- Marks of commits: on the heads of branches, and on what those with marks reach.
use Rattle.std.proofs.Common.{zero, suc, ◌≡◌, ℕ, ◌+◌, ◌<◌, ◌≤◌, Bool, true, false, ◌||◌, ◌&&◌, ◌==◌, List, [], ◌∷◌, length, refl, ap, sym, ◌∙◌, subst, arith, ⊎_elim, IsTrue}
use Rattle.std.specs.Prelude.{not}
use Rattle.std.proofs.lemmas.Bool.{cases_Bool, cases_eq, eq-eqb, eqb-true, both_ways, or_left, or_right, or_cases, and_parts, and_from}
use Rattle.branch_names.specs.declared.branch.Branch.{Branch}
use Rattle.branch_graph.specs.Graph.{parents_of, IsRanked, reaches}
use Rattle.branch_graph.specs.Paints.{is_among}
use Rattle.branch_graph.proofs.Members.{same_truth, IsIn, among-member, member-among}
use Rattle.branch_graph.proofs.Reach.{reaches-self, reaches-through, reaches-trans, reaches-cases, parent-below}
use Rattle.branch_compact.specs.Marks.{is_marked, is_kept_head, is_reached, AreMarkedBelow}
use Rattle.branch_compact.proofs.Live.{any-at, any-found}

-- a marked commit is one that has a mark
pub marked-within : (marks : List Bool) (n : ℕ) → is_marked marks n ≡ true → n < length marks
marked-within [] n is = absurd (cc)
marked-within (b ∷ marks) zero is = omega arith
marked-within (b ∷ marks) (suc n) is = let lt = marked-within marks n is in omega (arith, lt)

-- from the last commit down to this one, those with marks have marked their parents
pub record AreMarkedFrom (graph : List (List ℕ)) (old new : List Bool) (from : ℕ) : Type 0 where
  pub stays : (n : ℕ) → is_marked old n ≡ true → is_marked new n ≡ true
  pub parents : (k p : ℕ) → from ≤ k → is_marked new k ≡ true → IsIn p (parents_of graph k) → is_marked new p ≡ true
  pub only : (m : ℕ) → is_marked new m ≡ true → (n : ℕ) × (is_marked old n ≡ true) × (reaches graph n m ≡ true)

module _ (graph : List (List ℕ)) (ranked : IsRanked graph) (old : List Bool) where
  pub below-start : (count : ℕ) → length old ≡ count → AreMarkedFrom graph old old count
  below-start count is = record {
    stays = λ n yes. yes;
    parents = λ k p le yes there. let lt = marked-within old k yes in absurd (omega (arith, lt, is));
    only = λ m yes. (m, yes, reaches-self graph ranked m);
  }

  -- the next commit has a mark, and its parents are marked
  below-marked : (before after : List Bool) (from n : ℕ) → from ≡ n + 1 → AreMarkedFrom graph old before from → is_marked before n ≡ true
      → ((k : ℕ) → is_marked after k ≡ (is_marked before k || is_among (parents_of graph n) k)) → AreMarkedFrom graph old after n
  below-marked before after from n next are here gives = record {
    stays = λ k yes. more k (are.stays k yes);
    parents = λ k p le yes there. ⊎_elim
        (λ was. ⊎_elim
        (λ (same : k ≡ n). new p (among-member (parents_of graph n) p (subst (λ (j : ℕ). IsIn p (parents_of graph j)) same there)))
        (λ other. more p (are.parents k p (omega (arith, other, le, next)) was there))
        (cases_eq k n))
        (λ held. let lt = parent-below graph ranked n k (member-among (parents_of graph n) k held) in absurd (omega (arith, lt, le)))
        (or_cases (is_marked before k) (is_among (parents_of graph n) k) (sym (gives k) ∙ yes));
    only = λ m yes. ⊎_elim
        (λ was. are.only m was)
        (λ held.
        let up = are.only n here in
        (up.0, up.1, reaches-trans graph ranked up.0 n m up.2 (reaches-through graph ranked n m m (member-among (parents_of graph n) m held) (reaches-self graph ranked m))))
        (or_cases (is_marked before m) (is_among (parents_of graph n) m) (sym (gives m) ∙ yes));
  }
    where
      more : (k : ℕ) → is_marked before k ≡ true → is_marked after k ≡ true
      more k was = gives k ∙ or_left (is_marked before k) (is_among (parents_of graph n) k) was

      new : (k : ℕ) → is_among (parents_of graph n) k ≡ true → is_marked after k ≡ true
      new k held = gives k ∙ or_right (is_marked before k) (is_among (parents_of graph n) k) held

  -- the next commit has no mark
  below-plain : (marks : List Bool) (from n : ℕ) → from ≡ n + 1 → AreMarkedFrom graph old marks from → is_marked marks n ≡ false → AreMarkedFrom graph old marks n
  below-plain marks from n next are here = record {
    stays = are.stays;
    parents = λ k p le yes there. ⊎_elim
        (λ (same : k ≡ n). absurd (both_ways (is_marked marks n) here (ap (is_marked marks) (sym same) ∙ yes)))
        (λ other. are.parents k p (omega (arith, other, le, next)) yes there)
        (cases_eq k n);
    only = are.only;
  }

  pub below-next : (before after : List Bool) (from n : ℕ) → from ≡ n + 1 → AreMarkedFrom graph old before from
      → (is_marked before n ≡ true → (k : ℕ) → is_marked after k ≡ (is_marked before k || is_among (parents_of graph n) k))
      → (is_marked before n ≡ false → after ≡ before) → AreMarkedFrom graph old after n
  below-next before after from n next are marked plain = ⊎_elim
      (λ yes. below-marked before after from n next are yes (marked yes))
      (λ no. subst (λ (ms : List Bool). AreMarkedFrom graph old ms n) (sym (plain no)) (below-plain before from n next are no))
      (cases_Bool (is_marked before n))

  below-reached : (marks : List Bool) → AreMarkedFrom graph old marks 0 → (b n m : ℕ) → n < b → is_marked marks n ≡ true → reaches graph n m ≡ true → is_marked marks m ≡ true
  below-reached marks are zero n m lt here reached = absurd (omega arith)
  below-reached marks are (suc b) n m lt here reached =
      reaches-cases graph ranked (is_marked marks m ≡ true) n m reached
      (λ same. ap (is_marked marks) (sym same) ∙ here)
      (λ p there on.
      let less = parent-below graph ranked n p there in
      below-reached marks are b p m (omega (arith, less, lt)) (are.parents n p (omega arith) here there) on)

  pub below-end : (marks : List Bool) (from : ℕ) → from ≡ 0 → AreMarkedFrom graph old marks from → AreMarkedBelow graph old marks
  below-end marks from none are =
      let all : AreMarkedFrom graph old marks 0 = subst (λ (k : ℕ). AreMarkedFrom graph old marks k) none are in
      record {
        reached = λ n m here reached. below-reached marks all (suc n) n m (omega arith) (all.stays n here) reached;
        only = all.only;
      }

-- the marks that began on the heads of the branches that were not dropped
module _ (graph : List (List ℕ)) (ranked : IsRanked graph) (branches : List Branch) (heads marks : List Bool) where
  pub live-marked : ((n : ℕ) → is_marked heads n ≡ is_kept_head branches n) → AreMarkedBelow graph heads marks → (m : ℕ) → is_marked marks m ≡ is_reached graph branches m
  live-marked begin below m = same_truth (is_marked marks m) (is_reached graph branches m) forth back
    where
      forth : IsTrue (is_marked marks m) → IsTrue (is_reached graph branches m)
      forth is =
          let from = below.only m is in
          let found = any-found (λ b. not b.dropped && (b.head == from.0)) branches (sym (begin from.0) ∙ from.1) in
          let b : Branch = found.1 in
          let parts = and_parts (not b.dropped) (b.head == from.0) found.3 in
          any-at (λ b. not b.dropped && reaches graph b.head m) branches found.0 b found.2
          (and_from (not b.dropped) (reaches graph b.head m) parts.0 (ap (λ h. reaches graph h m) (eqb-true b.head from.0 parts.1) ∙ from.2))

      back : IsTrue (is_reached graph branches m) → IsTrue (is_marked marks m)
      back is =
          let found = any-found (λ b. not b.dropped && reaches graph b.head m) branches is in
          let b : Branch = found.1 in
          let parts = and_parts (not b.dropped) (reaches graph b.head m) found.3 in
          below.reached b.head m
          (begin b.head ∙ any-at (λ c. not c.dropped && (c.head == b.head)) branches found.0 b found.2 (and_from (not b.dropped) (b.head == b.head) parts.0 (eq-eqb b.head b.head refl)))
          parts.1
