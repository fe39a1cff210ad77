-- A walk from greater numbers to smaller ones: what the commits that wait reach, and what one turn changes.
use Rattle.std.proofs.Common.{◌≡◌, ℕ, ◌+◌, ◌<◌, ◌≤◌, Bool, true, false, ◌||◌, ◌&&◌, ◌==◌, not, List, Some, None, refl, ap, sym, ◌∙◌, subst, arith, nat_lt, IsTrue, IfSome, ⊎_elim, inl, inr, ◌⊎◌}
use Rattle.std.specs.declared.option.Option.{Option}
use Rattle.std.specs.Option.{option_map_or}
use Rattle.std.proofs.lemmas.Bool.{or_cases, or_left, or_right, and_parts, and_from, not-true, eqb-true, eqb-false, ltb-true, ltb-false}
use Rattle.branch_graph.specs.declared.waiting.Paint.{Paint}
use Rattle.branch_graph.specs.Graph.{parents_of, IsRanked, reaches}
use Rattle.branch_graph.specs.Paints.{Colour, covered, has, paint_of, is_painted, is_among, WaitsBelow, Takes}
use Rattle.branch_graph.proofs.Members.{IsIn, among-member, member-among}
use Rattle.branch_graph.proofs.Reach.{reaches-cases, reaches-at_most}

pub false-not_true : (Goal : Type 0) (b : Bool) → b ≡ false → IsTrue b → Goal
false-not_true Goal true none is = absurd (cc none)
false-not_true Goal false none is = absurd (cc is)

pub not_from : (b : Bool) → (IsTrue b → ⊥) → IsTrue (not b)
not_from true none = absurd (none refl)
not_from false none = refl

pub false_from : (b : Bool) → (IsTrue b → ⊥) → b ≡ false
false_from true none = absurd (none refl)
false_from false none = refl

-- what one turn does: the commit with the greatest number goes, and its parents from a number on are painted
pub record IsTurn (graph : List (List ℕ)) (least : ℕ) (old new : List (ℕ × Paint)) (n : ℕ) (paint given : Paint) : Type 0 where
  pub here : (c : Colour) → is_painted old c n ≡ has c paint
  pub greatest : (c : Colour) (k : ℕ) → IsTrue (is_painted old c k) → k ≤ n
  pub stays : (c : Colour) (k : ℕ) → (k ≡ n → ⊥) → IsTrue (is_painted old c k) → IsTrue (is_painted new c k)
  pub gives : (c : Colour) (k : ℕ) → IsTrue (has c given) → IsIn k (parents_of graph n) → least ≤ k → IsTrue (is_painted new c k)
  pub from : (c : Colour) (k : ℕ) → IsTrue (is_painted new c k) → ((k ≡ n → ⊥) × IsTrue (is_painted old c k)) ⊎ (IsTrue (has c given) × IsIn k (parents_of graph n) × (least ≤ k))

painted-none : (c : Colour) (o : Option Paint) → o ≡ None → option_map_or (has c) o false ≡ false
painted-none c o is = ap (λ p. option_map_or (has c) p false) is

pub not_below : (k least : ℕ) → least ≤ k → IsTrue (not (nat_lt k least))
not_below k least le = not_from (nat_lt k least) (λ lt. absurd (omega (arith, ltb-true k least lt)))

pub turn-made : (graph : List (List ℕ)) (least : ℕ) (old rest new : List (ℕ × Paint)) (n : ℕ) (paint given : Paint) → Takes old n paint rest
    → ((c : Colour) (k : ℕ) → is_painted new c k ≡ (is_painted rest c k || (has c given && (is_among (parents_of graph n) k && not (nat_lt k least)))))
    → IsTurn graph least old new n paint given
turn-made graph least old rest new n paint given takes painted = record {
  here = λ c. ap (λ o. option_map_or (has c) o false) takes.was;
  greatest = λ c k is. elim (nat_lt k (n + 1)) as (λ b. nat_lt k (n + 1) ≡ b → k ≤ n) [
    | true ↦ λ lt. let less = ltb-true k (n + 1) lt in omega (arith, less)
    | false ↦ λ ge. false-not_true (k ≤ n) (is_painted old c k) (painted-none c (paint_of old k) (takes.greatest k (let more = ltb-false k (n + 1) ge in omega (arith, more)))) is
  ] refl;
  stays = λ c k other is.
      painted c k
      ∙ or_left (is_painted rest c k) (has c given && (is_among (parents_of graph n) k && not (nat_lt k least)))
      (ap (λ o. option_map_or (has c) o false) (takes.others k other) ∙ is);
  gives = λ c k has_it parent le.
      painted c k
      ∙ or_right (is_painted rest c k) (has c given && (is_among (parents_of graph n) k && not (nat_lt k least)))
      (and_from (has c given) (is_among (parents_of graph n) k && not (nat_lt k least)) has_it
      (and_from (is_among (parents_of graph n) k) (not (nat_lt k least)) (among-member (parents_of graph n) k parent) (not_below k least le)));
  from = λ c k is.
      let Parts : Type 0 = ((k ≡ n → ⊥) × IsTrue (is_painted old c k)) ⊎ (IsTrue (has c given) × IsIn k (parents_of graph n) × (least ≤ k)) in
      ⊎_elim
      (λ here. elim (k == n) as (λ b. (k == n) ≡ b → Parts) [
        | true ↦ λ same. false-not_true Parts (is_painted rest c k) (painted-none c (paint_of rest k) (ap (paint_of rest) (eqb-true k n same) ∙ takes.gone)) here
        | false ↦ λ other. inl (eqb-false k n other, sym (ap (λ o. option_map_or (has c) o false) (takes.others k (eqb-false k n other))) ∙ here)
      ] refl)
      (λ both.
      let parts = and_parts (has c given) (is_among (parents_of graph n) k && not (nat_lt k least)) both in
      let more = and_parts (is_among (parents_of graph n) k) (not (nat_lt k least)) parts.1 in
      let le = ltb-false k least (not-true (nat_lt k least) more.1) in
      inr (parts.0, member-among (parents_of graph n) k more.0, omega (arith, le)))
      (or_cases (is_painted rest c k) (has c given && (is_among (parents_of graph n) k && not (nat_lt k least))) (sym (painted c k) ∙ is));
}

-- where what waits is below a common commit, each colour of it is
pub covered-painted : (c : Colour) (o : Option Paint) → IfSome o (λ paint. IsTrue paint.below) → IsTrue (option_map_or (has c) o false) → IsTrue (option_map_or (has covered) o false)
covered-painted c None below is = false-not_true (IsTrue (option_map_or (has covered) None false)) false refl is
covered-painted c (Some paint) below is = below

-- how many steps were taken, where nothing above a number ever waited
pub record IsCounted (waiting : List (ℕ × Paint)) (end most steps start : ℕ) : Type 0 where
  pub low : WaitsBelow waiting (most + 1)
  pub few : end ≤ most + 1 → steps + end ≤ start + (most + 1)
  pub none : most + 1 < end → steps ≡ start

-- what waits is below a bound
pub waits-below : (waiting : List (ℕ × Paint)) (end n : ℕ) (paint : Paint) → WaitsBelow waiting end → paint_of waiting n ≡ Some paint → n < end
waits-below waiting end n paint below is =
    elim (nat_lt n end) as (λ b. nat_lt n end ≡ b → n < end) [
      | true ↦ λ lt. ltb-true n end lt
      | false ↦ λ ge. let more = ltb-false n end ge in absurd (cc (below n (omega (arith, more)), is))
    ] refl

-- what is left is below the commit that goes
pub takes-below : (waiting : List (ℕ × Paint)) (n : ℕ) (paint : Paint) (rest : List (ℕ × Paint)) → Takes waiting n paint rest → (end : ℕ) → n ≤ end → WaitsBelow rest end
takes-below waiting n paint rest takes end le k from =
    elim (k == n) as (λ b. (k == n) ≡ b → paint_of rest k ≡ None) [
      | true ↦ λ same. ap (paint_of rest) (eqb-true k n same) ∙ takes.gone
      | false ↦ λ other.
          let apart = eqb-false k n other in
          let above : n + 1 ≤ k = omega arith in
          takes.others k apart ∙ takes.greatest k above
    ] refl

pub counted-taken : (old : List (ℕ × Paint)) (end n most steps start : ℕ) → n < end → n ≤ most → IsCounted old end most steps start → steps + 1 + n ≤ start + (most + 1)
counted-taken old end n most steps start lt le counted =
    elim (nat_lt (most + 1) end) as (λ b. nat_lt (most + 1) end ≡ b → steps + 1 + n ≤ start + (most + 1)) [
      | true ↦ λ above. let same = counted.none (ltb-true (most + 1) end above) in omega (arith, same)
      | false ↦ λ within. let more = ltb-false (most + 1) end within in let sum = counted.few (omega (arith, more)) in omega (arith, sum)
    ] refl

pub counted-on : (old new : List (ℕ × Paint)) (end n most steps start : ℕ) → n < end → n ≤ most → WaitsBelow new (most + 1) → IsCounted old end most steps start → IsCounted new n most (steps + 1) start
counted-on old new end n most steps start lt le low counted = record {
  low = low;
  few = λ inside. counted-taken old end n most steps start lt le counted;
  none = λ above. absurd (omega (arith, above));
}

pub counted-most : (waiting : List (ℕ × Paint)) (end most steps start : ℕ) → IsCounted waiting end most steps start → steps ≤ start + (most + 1)
counted-most waiting end most steps start counted =
    elim (nat_lt (most + 1) end) as (λ b. nat_lt (most + 1) end ≡ b → steps ≤ start + (most + 1)) [
      | true ↦ λ above. let same = counted.none (ltb-true (most + 1) end above) in omega (arith, same)
      | false ↦ λ within. let more = ltb-false (most + 1) end within in let sum = counted.few (omega (arith, more)) in omega (arith, sum)
    ] refl

-- some commit that waits with a colour reaches m
abbrev pub Leads : List (List ℕ) → List (ℕ × Paint) → Colour → ℕ → Type 0
Leads graph waiting c m = (k : ℕ) × IsTrue (is_painted waiting c k) × IsTrue (reaches graph k m)

module _ (graph : List (List ℕ)) (ranked : IsRanked graph) where
  module _ (least n : ℕ) (old new : List (ℕ × Paint)) (paint given : Paint) (turn : IsTurn graph least old new n paint given) where
    -- through the parents that are painted
    pub leads-through : (c : Colour) (m : ℕ) → m < n → least ≤ m → IsTrue (has c given) → IsTrue (reaches graph n m) → Leads graph new c m
    leads-through c m lt le has_it is =
        reaches-cases graph ranked (Leads graph new c m) n m is
        (λ same. absurd (omega (arith, same)))
        (λ p parent reached. let most = reaches-at_most graph ranked p m reached in (p, turn.gives c p has_it parent (omega (arith, most)), reached))

    -- what was reached below the commit that goes is reached yet
    pub leads-on : (c : Colour) (m : ℕ) → m < n → least ≤ m → (IsTrue (has c paint) → IsTrue (has c given)) → Leads graph old c m → Leads graph new c m
    leads-on c m lt le keeps lead =
        elim (lead.0 == n) as (λ b. (lead.0 == n) ≡ b → Leads graph new c m) [
          | true ↦ λ same.
              let is : lead.0 ≡ n = eqb-true lead.0 n same in
              leads-through c m lt le (keeps (sym (turn.here c) ∙ subst (λ (k : ℕ). IsTrue (is_painted old c k)) is lead.1)) (subst (λ (k : ℕ). IsTrue (reaches graph k m)) is lead.2)
          | false ↦ λ other. (lead.0, turn.stays c lead.0 (eqb-false lead.0 n other) lead.1, lead.2)
        ] refl

    -- the commit that goes is reached by no other that waits
    pub leads-here : (c : Colour) → Leads graph old c n → IsTrue (has c paint)
    leads-here c lead =
        let most = turn.greatest c lead.0 lead.1 in
        let least_of = reaches-at_most graph ranked lead.0 n lead.2 in
        let is : lead.0 ≡ n = omega (arith, most, least_of) in
        sym (turn.here c) ∙ subst (λ (k : ℕ). IsTrue (is_painted old c k)) is lead.1

    -- and none above it is
    pub leads-at_most : (c : Colour) (m : ℕ) → Leads graph old c m → m ≤ n
    leads-at_most c m lead =
        let most = turn.greatest c lead.0 lead.1 in
        let under = reaches-at_most graph ranked lead.0 m lead.2 in
        omega (arith, most, under)
