-- The walk that finds the maximal common ancestors.
use Rattle.std.proofs.Common.{zero, suc, ◌≡◌, ℕ, ◌+◌, ◌<◌, ◌≤◌, Bool, true, false, All, IfSome, cond, nat_lt, append_assoc, ◌||◌, ◌&&◌, ◌==◌, not, List, [], ◌∷◌, ◌++◌, length, filter, refl, ap, sym, ◌∙◌, subst, arith, IsTrue, ⊎_elim}
use Rattle.std.specs.List.{list_any, AllByRecursion}
use Rattle.std.proofs.lemmas.Bool.{or_cases, or_left, or_right, and_parts, and_from, not-true, eqb-true, eqb-false, ltb-true, ltb-false}
use Rattle.branch_graph.specs.declared.waiting.Paint.{Paint}
use Rattle.branch_graph.specs.Graph.{parents_of, IsRanked, reaches, any_reaches, both_reach, falling, is_maximal_common}
use Rattle.branch_graph.specs.Paints.{Colour, from_left, from_right, covered, has, for_parents, is_member, paint_of, is_painted, is_among, WaitsBelow, Takes}
use Rattle.branch_graph.proofs.Members.{same_truth, or_false, IsIn, any_from, any_member, among-member, member-among, in_falling, of_member}
use Rattle.branch_graph.proofs.Ranked.{AllByRecursion-from_All}
use Rattle.branch_graph.proofs.Reach.{reaches-self, reaches-through, reaches-trans, reaches-at_most, parent-below}
use Rattle.branch_graph.proofs.Turns.{IsTurn, turn-made, IsCounted, counted-on, covered-painted, waits-below, takes-below, Leads, leads-on, leads-through, leads-here, leads-at_most, not_below, not_from, false_from, false-not_true}

-- a commit that both lists reach lies above n
abbrev pub IsCovered : List (List ℕ) → List ℕ → List ℕ → ℕ → Type 0
IsCovered graph ls rs n = (c : ℕ) × (n < c) × (c < length graph) × IsTrue (both_reach graph ls rs c) × IsTrue (reaches graph c n)

-- below `end`, what each list reaches is reached from what waits with its colour, and what lies below a common commit
-- from `end` on is reached from what waits as covered
pub record IsWalk (graph : List (List ℕ)) (ls rs : List ℕ) (waiting : List (ℕ × Paint)) (end : ℕ) : Type 0 where
  pub left_is : (k : ℕ) → IsTrue (is_painted waiting from_left k) → IsTrue (any_reaches graph ls k)
  pub left_from : (m : ℕ) → m < end → IsTrue (any_reaches graph ls m) → Leads graph waiting from_left m
  pub right_is : (k : ℕ) → IsTrue (is_painted waiting from_right k) → IsTrue (any_reaches graph rs k)
  pub right_from : (m : ℕ) → m < end → IsTrue (any_reaches graph rs m) → Leads graph waiting from_right m
  pub covered_is : (k : ℕ) → IsTrue (is_painted waiting covered k) → IsCovered graph ls rs k
  pub covered_from : (m c : ℕ) → m < end → end ≤ c → IsTrue (both_reach graph ls rs c) → IsTrue (reaches graph c m) → Leads graph waiting covered m

-- the walk below `end`, and the members that it found from `end` on
pub record IsAt (graph : List (List ℕ)) (ls rs : List ℕ) (waiting : List (ℕ × Paint)) (end : ℕ) (found : List ℕ) (steps start : ℕ) : Type 0 where
  pub walk : IsWalk graph ls rs waiting end
  pub so_far : found ++ filter (is_maximal_common graph ls rs) (falling end) ≡ filter (is_maximal_common graph ls rs) (falling (length graph))
  pub bound : WaitsBelow waiting end
  pub within : end ≤ length graph
  pub counted : (most : ℕ) → All (λ n. n ≤ most) ls → All (λ n. n ≤ most) rs → IsCounted waiting end most steps start

module _ (graph : List (List ℕ)) (ranked : IsRanked graph) (ls rs : List ℕ) where
  any_closed : (ns : List ℕ) (n m : ℕ) → IsTrue (any_reaches graph ns n) → IsTrue (reaches graph n m) → IsTrue (any_reaches graph ns m)
  any_closed ns n m any is =
      let found = any_member (λ k. reaches graph k n) ns any in
      any_from (λ k. reaches graph k m) ns found.0 found.1 (reaches-trans graph ranked found.0 n m found.2 is)

  to_parent : (n p : ℕ) → IsIn p (parents_of graph n) → IsTrue (reaches graph n p)
  to_parent n p parent = reaches-through graph ranked n p p parent (reaches-self graph ranked p)

  both_parts : (n : ℕ) → IsTrue (both_reach graph ls rs n) → IsTrue (any_reaches graph ls n) × IsTrue (any_reaches graph rs n)
  both_parts n both = and_parts (any_reaches graph ls n) (any_reaches graph rs n) both

  module _ (n end : ℕ) (old new : List (ℕ × Paint)) (paint : Paint) (within : n < end) (there : n < length graph) (walk : IsWalk graph ls rs old end) (turn : IsTurn graph 0 old new n paint (for_parents paint)) where
    is_left : IsTrue (any_reaches graph ls n) → IsTrue paint.left
    is_left any = leads-here graph ranked 0 n old new paint (for_parents paint) turn from_left (walk.left_from n within any)

    is_right : IsTrue (any_reaches graph rs n) → IsTrue paint.right
    is_right any = leads-here graph ranked 0 n old new paint (for_parents paint) turn from_right (walk.right_from n within any)

    from_is_left : IsTrue paint.left → IsTrue (any_reaches graph ls n)
    from_is_left is = walk.left_is n (turn.here from_left ∙ is)

    from_is_right : IsTrue paint.right → IsTrue (any_reaches graph rs n)
    from_is_right is = walk.right_is n (turn.here from_right ∙ is)

    is_both : IsTrue (both_reach graph ls rs n) → IsTrue (paint.left && paint.right)
    is_both both = let parts = both_parts n both in and_from paint.left paint.right (is_left parts.0) (is_right parts.1)

    from_is_both : IsTrue (paint.left && paint.right) → IsTrue (both_reach graph ls rs n)
    from_is_both is = let parts = and_parts paint.left paint.right is in and_from (any_reaches graph ls n) (any_reaches graph rs n) (from_is_left parts.0) (from_is_right parts.1)

    -- no commit between is common
    at_most_n : (c : ℕ) → c < end → IsTrue (both_reach graph ls rs c) → c ≤ n
    at_most_n c lt both = leads-at_most graph ranked 0 n old new paint (for_parents paint) turn from_left c (walk.left_from c lt (both_parts c both).0)

    new_covered_is : (k : ℕ) → IsTrue (is_painted new covered k) → IsCovered graph ls rs k
    new_covered_is k is =
        ⊎_elim (λ here. walk.covered_is k here.1)
        (λ parent.
        let less = parent-below graph ranked n k parent.1 in
        ⊎_elim
        (λ below.
        let found = walk.covered_is n (turn.here covered ∙ below) in
        let above = found.1 in
        (found.0, omega (arith, above, less), found.2, found.3, reaches-trans graph ranked found.0 n k found.4 (to_parent n k parent.1)))
        (λ both. let common = from_is_both both in (n, less, there, common, to_parent n k parent.1))
        (or_cases paint.below (paint.left && paint.right) parent.0))
        (turn.from covered k is)

    new_covered_from : (m c : ℕ) → m < n → n ≤ c → IsTrue (both_reach graph ls rs c) → IsTrue (reaches graph c m) → Leads graph new covered m
    new_covered_from m c lt le both is =
        elim (nat_lt c end) as (λ b. nat_lt c end ≡ b → Leads graph new covered m) [
          | true ↦ λ inside.
              let less = ltb-true c end inside in
              let most = at_most_n c less both in
              let same : c ≡ n = omega (arith, most, le) in
              let both_n : IsTrue (both_reach graph ls rs n) = subst (λ (k : ℕ). IsTrue (both_reach graph ls rs k)) same both in
              leads-through graph ranked 0 n old new paint (for_parents paint) turn covered m lt (omega arith) (or_right paint.below (paint.left && paint.right) (is_both both_n))
              (subst (λ (k : ℕ). IsTrue (reaches graph k m)) same is)
          | false ↦ λ outside.
              let more = ltb-false c end outside in
              leads-on graph ranked 0 n old new paint (for_parents paint) turn covered m lt (omega arith) (or_left paint.below (paint.left && paint.right)) (walk.covered_from m c (omega arith) (omega (arith, more)) both is)
        ] refl

    -- the walk goes on below the commit that was taken
    pub walk-on : IsWalk graph ls rs new n
    walk-on = record {
      left_is = λ k is. ⊎_elim (λ here. walk.left_is k here.1) (λ parent. any_closed ls n k (from_is_left parent.0) (to_parent n k parent.1)) (turn.from from_left k is);
      left_from = λ m lt any. leads-on graph ranked 0 n old new paint (for_parents paint) turn from_left m lt (omega arith) (λ has_it. has_it) (walk.left_from m (omega arith) any);
      right_is = λ k is. ⊎_elim (λ here. walk.right_is k here.1) (λ parent. any_closed rs n k (from_is_right parent.0) (to_parent n k parent.1)) (turn.from from_right k is);
      right_from = λ m lt any. leads-on graph ranked 0 n old new paint (for_parents paint) turn from_right m lt (omega arith) (λ has_it. has_it) (walk.right_from m (omega arith) any);
      covered_is = new_covered_is;
      covered_from = new_covered_from;
    }

    -- the commit that was taken is a member as its paint says
    pub member-here : is_maximal_common graph ls rs n ≡ is_member paint
    member-here =
        let lies_below : ℕ → Bool = λ c. both_reach graph ls rs c && not (c == n) && reaches graph c n in
        same_truth (is_maximal_common graph ls rs n) (is_member paint)
        (λ is.
        let parts = and_parts (both_reach graph ls rs n) (not (list_any lies_below (falling (length graph)))) is in
        and_from (paint.left && paint.right) (not paint.below) (is_both parts.0)
        (not_from paint.below
        (λ below.
        let found = walk.covered_is n (turn.here covered ∙ below) in
        let above = found.1 in
        let other : IsTrue (not (found.0 == n)) = not_from (found.0 == n) (λ same. let e = eqb-true found.0 n same in absurd (omega (arith, above, e))) in
        let any : IsTrue (list_any lies_below (falling (length graph))) =
        any_from lies_below (falling (length graph)) found.0 (in_falling (length graph) found.0 found.2)
        (and_from (both_reach graph ls rs found.0 && not (found.0 == n)) (reaches graph found.0 n) (and_from (both_reach graph ls rs found.0) (not (found.0 == n)) found.3 other) found.4) in
        false-not_true ⊥ (list_any lies_below (falling (length graph))) (not-true (list_any lies_below (falling (length graph))) parts.1) any)))
        (λ is.
        let parts = and_parts (paint.left && paint.right) (not paint.below) is in
        and_from (both_reach graph ls rs n) (not (list_any lies_below (falling (length graph)))) (from_is_both parts.0)
        (not_from (list_any lies_below (falling (length graph)))
        (λ any.
        let found = any_member lies_below (falling (length graph)) any in
        let whole = and_parts (both_reach graph ls rs found.0 && not (found.0 == n)) (reaches graph found.0 n) found.2 in
        let both = and_parts (both_reach graph ls rs found.0) (not (found.0 == n)) whole.0 in
        let other = eqb-false found.0 n (not-true (found.0 == n) both.1) in
        let up = reaches-at_most graph ranked found.0 n whole.1 in
        elim (nat_lt found.0 end) as (λ b. nat_lt found.0 end ≡ b → ⊥) [
          | true ↦ λ inside. let most = at_most_n found.0 (ltb-true found.0 end inside) both.0 in other (omega (arith, most, up))
          | false ↦ λ outside.
              let more = ltb-false found.0 end outside in
              false-not_true ⊥ paint.below (not-true paint.below parts.1)
              (leads-here graph ranked 0 n old new paint (for_parents paint) turn covered (walk.covered_from n found.0 within (omega (arith, more)) both.0 whole.1))
        ] refl)))

    no_member : (m : ℕ) → n < m → m < end → is_maximal_common graph ls rs m ≡ false
    no_member m above lt =
        false_from (is_maximal_common graph ls rs m)
        (λ is.
        let both = (and_parts (both_reach graph ls rs m) (not (list_any (λ c. both_reach graph ls rs c && not (c == m) && reaches graph c m) (falling (length graph)))) is).0 in
        let most = at_most_n m lt both in
        absurd (omega (arith, most, above)))

    -- the members from the commit that was taken on
    pub found-here : (found : List ℕ) → found ++ filter (is_maximal_common graph ls rs) (falling end) ≡ filter (is_maximal_common graph ls rs) (falling (length graph))
        → (found ++ cond (is_member paint) (n ∷ []) []) ++ filter (is_maximal_common graph ls rs) (falling n) ≡ filter (is_maximal_common graph ls rs) (falling (length graph))
    found-here found so_far =
        append_assoc found (cond (is_member paint) (n ∷ []) []) (filter (is_maximal_common graph ls rs) (falling n))
        ∙ ap (λ rest. found ++ rest) (sym (skip end within no_member ∙ split (is_maximal_common graph ls rs n) (is_member paint) member-here))
        ∙ so_far
      where
        skip : (e : ℕ) → n < e → ((m : ℕ) → n < m → m < e → is_maximal_common graph ls rs m ≡ false)
            → filter (is_maximal_common graph ls rs) (falling e) ≡ filter (is_maximal_common graph ls rs) (falling (suc n))
        skip zero lt none = absurd (omega arith)
        skip (suc e) lt none =
            elim (e == n) as (λ b. (e == n) ≡ b → filter (is_maximal_common graph ls rs) (falling (suc e)) ≡ filter (is_maximal_common graph ls rs) (falling (suc n))) [
              | true ↦ λ same. ap (λ k. filter (is_maximal_common graph ls rs) (falling (suc k))) (eqb-true e n same)
              | false ↦ λ other.
                  let apart = eqb-false e n other in
                  let above : n < e = omega arith in
                  ap (λ b. cond b (e ∷ filter (is_maximal_common graph ls rs) (falling e)) (filter (is_maximal_common graph ls rs) (falling e))) (none e above (omega arith))
                  ∙ skip e above (λ m more less. none m more (omega arith))
            ] refl

        split : (a b : Bool) → a ≡ b → cond a (n ∷ filter (is_maximal_common graph ls rs) (falling n)) (filter (is_maximal_common graph ls rs) (falling n))
            ≡ cond b (n ∷ []) [] ++ filter (is_maximal_common graph ls rs) (falling n)
        split a true same = ap (λ c. cond c (n ∷ filter (is_maximal_common graph ls rs) (falling n)) (filter (is_maximal_common graph ls rs) (falling n))) same
        split a false same = ap (λ c. cond c (n ∷ filter (is_maximal_common graph ls rs) (falling n)) (filter (is_maximal_common graph ls rs) (falling n))) same

  -- the members below `end`, once each commit that waits is covered: none
  pub walk-ends : (waiting : List (ℕ × Paint)) (end : ℕ) → IsWalk graph ls rs waiting end → ((k : ℕ) → IsTrue (is_painted waiting from_left k) → IsTrue (is_painted waiting covered k))
      → filter (is_maximal_common graph ls rs) (falling end) ≡ []
  walk-ends waiting end walk all = none end (λ m lt. at m lt)
    where
      at : (m : ℕ) → m < end → is_maximal_common graph ls rs m ≡ false
      at m lt =
          let lies_below : ℕ → Bool = λ c. both_reach graph ls rs c && not (c == m) && reaches graph c m in
          false_from (is_maximal_common graph ls rs m)
          (λ is.
          let parts = and_parts (both_reach graph ls rs m) (not (list_any lies_below (falling (length graph)))) is in
          let lead = walk.left_from m lt (both_parts m parts.0).0 in
          let found = walk.covered_is lead.0 (all lead.0 lead.1) in
          let above = found.1 in
          let under = reaches-at_most graph ranked lead.0 m lead.2 in
          let other : IsTrue (not (found.0 == m)) = not_from (found.0 == m) (λ same. let e = eqb-true found.0 m same in absurd (omega (arith, above, under, e))) in
          let any : IsTrue (list_any lies_below (falling (length graph))) =
          any_from lies_below (falling (length graph)) found.0 (in_falling (length graph) found.0 found.2)
          (and_from (both_reach graph ls rs found.0 && not (found.0 == m)) (reaches graph found.0 m) (and_from (both_reach graph ls rs found.0) (not (found.0 == m)) found.3 other)
          (reaches-trans graph ranked found.0 lead.0 m found.4 lead.2)) in
          false-not_true ⊥ (list_any lies_below (falling (length graph))) (not-true (list_any lies_below (falling (length graph))) parts.1) any)

      none : (e : ℕ) → ((m : ℕ) → m < e → is_maximal_common graph ls rs m ≡ false) → filter (is_maximal_common graph ls rs) (falling e) ≡ []
      none zero is = refl
      none (suc e) is =
          ap (λ b. cond b (e ∷ filter (is_maximal_common graph ls rs) (falling e)) (filter (is_maximal_common graph ls rs) (falling e))) (is e (omega arith))
          ∙ none e (λ m lt. is m (omega arith))

  any_below : (ns : List ℕ) (m : ℕ) → AllByRecursion (λ k. k < length graph) ns → IsTrue (any_reaches graph ns m) → m < length graph
  any_below ns m below any =
      let found = any_member (λ k. reaches graph k m) ns any in
      let lt = of_member (λ k. k < length graph) ns found.0 below found.1 in
      let most = reaches-at_most graph ranked found.0 m found.2 in
      omega (arith, lt, most)

  -- at the start the lists' commits wait
  pub walk-starts : (waiting : List (ℕ × Paint)) → AllByRecursion (λ k. k < length graph) ls
      → ((k : ℕ) → is_painted waiting from_left k ≡ is_among ls k) → ((k : ℕ) → is_painted waiting from_right k ≡ is_among rs k) → ((k : ℕ) → is_painted waiting covered k ≡ false)
      → IsWalk graph ls rs waiting (length graph)
  walk-starts waiting below left right none = record {
    left_is = λ k is. start-is ls k (sym (left k) ∙ is);
    left_from = λ m lt any. let found = start-from ls m any in (found.0, left found.0 ∙ found.1, found.2);
    right_is = λ k is. start-is rs k (sym (right k) ∙ is);
    right_from = λ m lt any. let found = start-from rs m any in (found.0, right found.0 ∙ found.1, found.2);
    covered_is = λ k is. false-not_true (IsCovered graph ls rs k) (is_painted waiting covered k) (none k) is;
    covered_from = λ m c lt le both is. let inside = any_below ls c below (both_parts c both).0 in absurd (omega (arith, inside, le));
  }
    where
      start-is : (ns : List ℕ) (k : ℕ) → IsTrue (is_among ns k) → IsTrue (any_reaches graph ns k)
      start-is ns k is = any_from (λ n. reaches graph n k) ns k (member-among ns k is) (reaches-self graph ranked k)

      start-from : (ns : List ℕ) (m : ℕ) → IsTrue (any_reaches graph ns m) → (k : ℕ) × IsTrue (is_among ns k) × IsTrue (reaches graph k m)
      start-from ns m any = let found = any_member (λ n. reaches graph n m) ns any in (found.0, among-member ns found.0 found.1, found.2)

  pub at-start : (waiting : List (ℕ × Paint)) (steps : ℕ) → All (λ k. k < length graph) ls → All (λ k. k < length graph) rs
      → ((c : Colour) (k : ℕ) → is_painted waiting c k ≡ ((has c (record { left = true; right = false; below = false }) && is_among ls k) || (has c (record { left = false; right = true; below = false }) && is_among rs k)))
      → ((end : ℕ) → All (λ n. n < end) ls → All (λ n. n < end) rs → WaitsBelow waiting end) → IsAt graph ls rs waiting (length graph) [] steps steps
  at-start waiting steps left right painted below = record {
    walk = walk-starts waiting (AllByRecursion-from_All (λ k. k < length graph) ls left) (λ k. painted from_left k ∙ or_false (is_among ls k)) (λ k. painted from_right k) (λ k. painted covered k);
    so_far = refl;
    bound = below (length graph) left right;
    within = omega arith;
    counted = λ most left_most right_most.
        let inside : (ns : List ℕ) → All (λ n. n ≤ most) ns → All (λ n. n < most + 1) ns = λ ns all k d lt. let le = all k d lt in omega (arith, le) in
        record {
          low = below (most + 1) (inside ls left_most) (inside rs right_most);
          few = λ le. omega arith;
          none = λ lt. refl;
        };
  }

  pub at-turn : (old rest new : List (ℕ × Paint)) (end n : ℕ) (paint : Paint) (found : List ℕ) (steps start : ℕ) → IsAt graph ls rs old end found steps start → Takes old n paint rest
      → ((c : Colour) (k : ℕ) → is_painted new c k ≡ (is_painted rest c k || (has c (for_parents paint) && is_among (parents_of graph n) k)))
      → ((e : ℕ) → n ≤ e → WaitsBelow rest e → WaitsBelow new e) → IsAt graph ls rs new n (found ++ cond (is_member paint) (n ∷ []) []) (steps + 1) start
  at-turn old rest new end n paint found steps start at takes painted below =
      let lt : n < end = waits-below old end n paint at.bound takes.was in
      let inside : n < length graph = let within = at.within in omega (arith, lt, within) in
      let turn = turn-made graph 0 old rest new n paint (for_parents paint) takes
      (λ c k. painted c k ∙ ap (λ (b : Bool). is_painted rest c k || (has c (for_parents paint) && b)) (and_when (is_among (parents_of graph n) k) (not (nat_lt k 0)) (not_below k 0 (omega arith)))) in
      let new_below : (e : ℕ) → n ≤ e → WaitsBelow new e = λ e le. below e le (takes-below old n paint rest takes e le) in
      record {
        walk = walk-on n end old new paint lt inside at.walk turn;
        so_far = found-here n end old new paint lt inside at.walk turn found at.so_far;
        bound = new_below n (omega arith);
        within = omega (arith, inside);
        counted = λ most left right.
            let counted = at.counted most left right in
            let le : n < most + 1 = waits-below old (most + 1) n paint counted.low takes.was in
            counted-on old new end n most steps start lt (omega (arith, le)) (new_below (most + 1) (omega (arith, le))) counted;
      }
    where
      and_when : (b t : Bool) → IsTrue t → b ≡ (b && t)
      and_when true t is = sym is
      and_when false t is = refl

  pub at-end : (waiting : List (ℕ × Paint)) (end : ℕ) (found : List ℕ) (steps start : ℕ) → IsAt graph ls rs waiting end found steps start
      → ((k : ℕ) → IfSome (paint_of waiting k) (λ paint. IsTrue paint.below)) → found ≡ filter (is_maximal_common graph ls rs) (falling (length graph))
  at-end waiting end found steps start at all =
      sym (append_nil found) ∙ ap (λ rest. found ++ rest) (sym (walk-ends waiting end at.walk (λ k is. covered-painted from_left (paint_of waiting k) (all k) is))) ∙ at.so_far
    where
      append_nil : (xs : List ℕ) → xs ++ [] ≡ xs
      append_nil [] = refl
      append_nil (x ∷ xs) = ap (λ rest. x ∷ rest) (append_nil xs)
