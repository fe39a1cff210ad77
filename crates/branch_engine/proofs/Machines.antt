-- The machine that keeps objects, beside the one that keeps none.
use Rattle.std.proofs.Common.{◌≡◌, ◌∙◌, ℕ, List, [], ◌∷◌, refl, ap, sym, None, Some}
use Rattle.std.specs.Prelude.{Option}
use Rattle.branch_history.specs.declared.moves.Move.{Move}
use Rattle.branch_history.specs.Steps.{Step, Outcome, Refused, Refusal, Turn}
use Rattle.branch_history.specs.Machine.{turn, answers, makes}
use Rattle.branch_machine.specs.Fixed.{Fixed}
use Rattle.branch_machine.specs.Machine.{collision_refusal, commit_here, unless_here, unless_made, full_turn}

-- a turn that makes a move and was not refused
made-unless : {O R A : Type 0} (refusal : Move O R → Option Refusal) (t : Turn O R A) (made : Move O R) (outcome : Outcome A R) → unless_made refusal t.made t ≡ makes made outcome → t ≡ makes made outcome
made-unless {O} {R} {A} refusal t made outcome is = by-made t.made is
  where
    by-refusal : (why : Option Refusal) → (m : Move O R) (ms : List (Move O R)) → refusal m ≡ why → unless_made refusal (m ∷ ms) t ≡ makes made outcome → t ≡ makes made outcome
    by-refusal None m ms none is = rw none at is
    by-refusal (Some r) m ms some is =
        let bad : answers {O = O} {R = R} {A = A} (Refused r) ≡ makes made outcome = rw some at is in
        let no : [] ≡ made ∷ [] = ap (λ (u : Turn O R A). u.made) bad in absurd (let never : ⊥ = cc in never)

    by-made : (ms : List (Move O R)) → unless_made refusal ms t ≡ makes made outcome → t ≡ makes made outcome
    by-made [] is = is
    by-made (m ∷ ms) is = by-refusal (refusal m) m ms refl is

-- no turn makes a move where what it receives is here
made-not_here : {O R A : Type 0} (o : Option ℕ) (t : Turn O R A) (made : Move O R) (outcome : Outcome A R) → unless_here o t ≡ makes made outcome → t ≡ makes made outcome
made-not_here None t made outcome is = is
made-not_here {O} {R} {A} (Some n) t made outcome is = let bad : [] ≡ made ∷ [] = ap (λ (u : Turn O R A). u.made) is in absurd (let never : ⊥ = cc in never)

module _ {S O R Q A : Type 0} (fixed : Fixed S O R Q A) (moves : List (Move O R)) (step : Step O Q) where
  -- where no move is made, and no commit received, both answer the same
  pub full-answers : (outcome : Outcome A R) → commit_here fixed moves step ≡ None → turn fixed.meaning fixed.terms moves step ≡ answers outcome → full_turn fixed moves step ≡ answers outcome
  unfolding full_turn
  full-answers outcome other is =
      let t = turn fixed.meaning fixed.terms moves step in
      ap (λ o. unless_here o (unless_made (collision_refusal fixed moves) t.made t)) other
      ∙ ap (λ (t : Turn O R A). unless_made (collision_refusal fixed moves) t.made t) is

  -- and a move that the one makes the other makes
  pub full-turned : (made : Move O R) (outcome : Outcome A R) → full_turn fixed moves step ≡ makes made outcome → turn fixed.meaning fixed.terms moves step ≡ makes made outcome
  unfolding full_turn
  full-turned made outcome is =
      let t = turn fixed.meaning fixed.terms moves step in
      made-unless (collision_refusal fixed moves) t made outcome (made-not_here (commit_here fixed moves step) (unless_made (collision_refusal fixed moves) t.made t) made outcome is)

  -- a step with the same turn, where neither receives a commit, has the same
  pub full-same : (other : Step O Q) → commit_here fixed moves step ≡ None → commit_here fixed moves other ≡ None → turn fixed.meaning fixed.terms moves step ≡ turn fixed.meaning fixed.terms moves other
      → full_turn fixed moves step ≡ full_turn fixed moves other
  unfolding full_turn
  full-same other none_here none_there is =
      let t = turn fixed.meaning fixed.terms moves step in
      let u = turn fixed.meaning fixed.terms moves other in
      ap (λ o. unless_here o (unless_made (collision_refusal fixed moves) t.made t)) none_here
      ∙ ap (λ (t : Turn O R A). unless_made (collision_refusal fixed moves) t.made t) is
      ∙ sym (ap (λ o. unless_here o (unless_made (collision_refusal fixed moves) u.made u)) none_there)
