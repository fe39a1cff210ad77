-- The walk that answers whether a commit reaches another.
use Rattle.std.proofs.Common.{◌≡◌, ℕ, ◌+◌, ◌-◌, ◌<◌, ◌≤◌, not, nat_lt, length, ap, Some, true, false, ◌||◌, ◌&&◌, ◌==◌, List, refl, sym, ◌∙◌, subst, arith, IsTrue, IfSome, ⊎_elim}
use Rattle.std.proofs.lemmas.Bool.{eqb-true, eq-eqb, ltb-true, ltb-false}
use Rattle.std.specs.Option.{option_map_or}
use Rattle.branch_graph.specs.declared.waiting.Paint.{Paint}
use Rattle.branch_graph.specs.Graph.{parents_of, IsRanked, reaches}
use Rattle.branch_graph.specs.Paints.{Colour, any, from_left, covered, has, paint_of, is_painted, is_among, WaitsBelow, Takes}
use Rattle.branch_graph.proofs.Reach.{reaches-self, reaches-through, reaches-trans}
use Rattle.branch_graph.proofs.Turns.{IsTurn, turn-made, IsCounted, counted-on, counted-taken, waits-below, takes-below, Leads, leads-on, false-not_true, false_from, covered-painted}

-- the paint of each commit of the walk
abbrev pub alone : Paint
alone = record { left = true; right = false; below = false }

-- what waits is reached from above and not below the target, which is reached from above only through it
pub record IsReaching (graph : List (List ℕ)) (above below : ℕ) (waiting : List (ℕ × Paint)) : Type 0 where
  pub back : (k : ℕ) → IsTrue (is_painted waiting from_left k) → IsTrue (reaches graph above k)
  pub there : IsTrue (reaches graph above below) → Leads graph waiting from_left below
  pub low : (k : ℕ) → IsTrue (is_painted waiting any k) → below ≤ k
  pub plain : (k : ℕ) → IsTrue (is_painted waiting any k) → IsTrue (is_painted waiting from_left k)
  pub bare : (k : ℕ) → is_painted waiting covered k ≡ false

-- the walk below `end`
pub record IsReachingAt (graph : List (List ℕ)) (above below : ℕ) (waiting : List (ℕ × Paint)) (end steps start : ℕ) : Type 0 where
  pub walk : IsReaching graph above below waiting
  pub bound : WaitsBelow waiting end
  pub within : end ≤ length graph
  pub least : below ≤ end
  pub counted : IsCounted waiting end above steps start

module _ (graph : List (List ℕ)) (ranked : IsRanked graph) (above below : ℕ) where
  pub reaching-starts : (waiting : List (ℕ × Paint)) → below ≤ above → ((c : Colour) (k : ℕ) → is_painted waiting c k ≡ (false || (has c alone && (above == k)))) → IsReaching graph above below waiting
  reaching-starts waiting le painted = record {
    back = λ k is. let same : above ≡ k = eqb-true above k (sym (painted from_left k) ∙ is) in subst (λ (j : ℕ). IsTrue (reaches graph above j)) same (reaches-self graph ranked above);
    there = λ is. (above, painted from_left above ∙ eq-eqb above above refl, is);
    low = λ k is. let same : above ≡ k = eqb-true above k (sym (painted any k) ∙ is) in omega (arith, same);
    plain = λ k is. painted from_left k ∙ (sym (painted any k) ∙ is);
    bare = λ k. painted covered k;
  }

  -- each commit that waits is above the target or is it
  pub reaching-on : (n : ℕ) (old new : List (ℕ × Paint)) (paint : Paint) → IsTurn graph below old new n paint alone → (n ≡ below → ⊥) → IsReaching graph above below old → IsReaching graph above below new
  reaching-on n old new paint turn apart walk =
      let here : IsTrue (is_painted old any n) = turn.here any in
      let low = walk.low n here in
      record {
        back = λ k is.
            ⊎_elim (λ old_one. walk.back k old_one.1)
            (λ parent. reaches-trans graph ranked above n k (walk.back n (walk.plain n here)) (reaches-through graph ranked n k k parent.1 (reaches-self graph ranked k)))
            (turn.from from_left k is);
        there = λ is. leads-on graph ranked below n old new paint alone turn from_left below (omega (arith, low)) (omega arith) (λ has_it. refl) (walk.there is);
        low = λ k is. ⊎_elim (λ old_one. walk.low k old_one.1) (λ parent. parent.2) (turn.from any k is);
        plain = λ k is.
            ⊎_elim (λ old_one. turn.stays from_left k old_one.0 (walk.plain k old_one.1)) (λ parent. turn.gives from_left k refl parent.1 parent.2) (turn.from any k is);
        bare = λ k.
            false_from (is_painted new covered k)
            (λ is. ⊎_elim (λ old_one. false-not_true ⊥ (is_painted old covered k) (walk.bare k) old_one.1) (λ parent. false-not_true ⊥ false refl parent.0) (turn.from covered k is));
      }

  pub reaching-here : (n : ℕ) (old : List (ℕ × Paint)) → IsReaching graph above below old → IsTrue (is_painted old any n) → n ≡ below → reaches graph above below ≡ true
  reaching-here n old walk here same = subst (λ (k : ℕ). IsTrue (reaches graph above k)) same (walk.back n (walk.plain n here))

  pub reaching-ends : (waiting : List (ℕ × Paint)) → IsReaching graph above below waiting → ((k : ℕ) → IfSome (paint_of waiting k) (λ paint. IsTrue paint.below)) → reaches graph above below ≡ false
  reaching-ends waiting walk all =
      false_from (reaches graph above below)
      (λ is.
      let lead = walk.there is in
      false-not_true ⊥ (is_painted waiting covered lead.0) (walk.bare lead.0) (covered-painted from_left (paint_of waiting lead.0) (all lead.0) lead.1))

  pub at-start : (waiting : List (ℕ × Paint)) (steps : ℕ) → above < length graph → below ≤ above → ((c : Colour) (k : ℕ) → is_painted waiting c k ≡ (false || (has c alone && (above == k))))
      → ((end : ℕ) → above < end → WaitsBelow waiting end) → IsReachingAt graph above below waiting (length graph) steps steps
  at-start waiting steps lt le painted low = record {
    walk = reaching-starts waiting le painted;
    bound = low (length graph) lt;
    within = omega arith;
    least = omega (arith, lt, le);
    counted = record { low = low (above + 1) (omega arith); few = λ within. omega arith; none = λ past. refl };
  }

  any-waits : (waiting : List (ℕ × Paint)) (n : ℕ) (paint : Paint) → paint_of waiting n ≡ Some paint → IsTrue (is_painted waiting any n)
  any-waits waiting n paint is = ap (λ o. option_map_or (has any) o false) is

  pub at-turn : (old rest new : List (ℕ × Paint)) (end n : ℕ) (paint : Paint) (steps start : ℕ) → IsReachingAt graph above below old end steps start → Takes old n paint rest → (n ≡ below → ⊥)
      → ((c : Colour) (k : ℕ) → is_painted new c k ≡ (is_painted rest c k || (has c alone && (is_among (parents_of graph n) k && not (nat_lt k below)))))
      → ((e : ℕ) → n ≤ e → WaitsBelow rest e → WaitsBelow new e) → IsReachingAt graph above below new n (steps + 1) start
  at-turn old rest new end n paint steps start at takes apart painted low =
      let lt : n < end = waits-below old end n paint at.bound takes.was in
      let counted = at.counted in
      let le : n < above + 1 = waits-below old (above + 1) n paint counted.low takes.was in
      let walk = at.walk in
      let new_low : (e : ℕ) → n ≤ e → WaitsBelow new e = λ e from. low e from (takes-below old n paint rest takes e from) in
      record {
        walk = reaching-on n old new paint (turn-made graph below old rest new n paint alone takes painted) apart at.walk;
        bound = new_low n (omega arith);
        within = let within = at.within in omega (arith, lt, within);
        least = walk.low n (any-waits old n paint takes.was);
        counted = counted-on old new end n above steps start lt (omega (arith, le)) (new_low (above + 1) (omega (arith, le))) at.counted;
      }

  pub at-here : (waiting rest : List (ℕ × Paint)) (end n : ℕ) (paint : Paint) (steps start : ℕ) → IsReachingAt graph above below waiting end steps start → Takes waiting n paint rest → n ≡ below → reaches graph above below ≡ true
  at-here waiting rest end n paint steps start at takes same = reaching-here n waiting at.walk (any-waits waiting n paint takes.was) same

  pub at-end : (waiting : List (ℕ × Paint)) (end steps start : ℕ) → IsReachingAt graph above below waiting end steps start → ((k : ℕ) → IfSome (paint_of waiting k) (λ paint. IsTrue paint.below)) → reaches graph above below ≡ false
  at-end waiting end steps start at all = reaching-ends waiting at.walk all

  pub at-most : (waiting : List (ℕ × Paint)) (end steps start : ℕ) → IsReachingAt graph above below waiting end steps start → below ≤ above → steps ≤ start + (above - below + 1)
  at-most waiting end steps start at le =
      let least = at.least in
      let counted = at.counted in
      elim (nat_lt (above + 1) end) as (λ b. nat_lt (above + 1) end ≡ b → steps ≤ start + (above - below + 1)) [
        | true ↦ λ past. let same = counted.none (ltb-true (above + 1) end past) in omega (arith, same)
        | false ↦ λ within. let more = ltb-false (above + 1) end within in let sum = counted.few (omega (arith, more)) in omega (arith, sum, least, le)
      ] refl

  -- a step that is taken is within the bound too
  pub at-most-taken : (waiting rest : List (ℕ × Paint)) (end n : ℕ) (paint : Paint) (steps start : ℕ) → IsReachingAt graph above below waiting end steps start → Takes waiting n paint rest → below ≤ above → steps + 1 ≤ start + (above - below + 1)
  at-most-taken waiting rest end n paint steps start at takes le =
      let counted = at.counted in
      let walk = at.walk in
      let lt : n < end = waits-below waiting end n paint at.bound takes.was in
      let most : n < above + 1 = waits-below waiting (above + 1) n paint counted.low takes.was in
      let least = walk.low n (any-waits waiting n paint takes.was) in
      let sum = counted-taken waiting end n above steps start lt (omega (arith, most)) at.counted in
      omega (arith, sum, least, le)
