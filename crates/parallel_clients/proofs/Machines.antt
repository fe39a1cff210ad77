-- The machine that keeps objects, beside the one that keeps none.
use Rattle.std.proofs.Common.{◌≡◌, ◌∙◌, ℕ, List, [], ◌∷◌, refl, ap, sym, Option, None, Some}
use Rattle.std.specs.Option.{option_map}
use Rattle.branch_wire.specs.StoredObjects.{collision}
use Rattle.branch_history.specs.declared.moves.Move.{Move}
use Rattle.branch_history.specs.Steps.{Step, Outcome, Refused, Refusal, Collision, Here, Turn}
use Rattle.branch_history.specs.Machine.{turn, answers, makes, unless}
use Rattle.branch_machine.specs.Fixed.{Fixed}
use Rattle.branch_machine.specs.Objects.{objects_of, new_objects}
use Rattle.branch_machine.specs.Machine.{collision_refusal, commit_here, unless_here, unless_made, full_turn}

-- a turn that makes a move, and was not refused
made-unless : {O R A : Type 0} (refusal : Move O R → Option Refusal) (t : Turn O R A) (made : Move O R) (outcome : Outcome A R) → unless_made refusal t.made t ≡ makes made outcome → t ≡ makes made outcome
made-unless {O} {R} {A} refusal t made outcome is = by-made t.made is
  where
    by-refusal : (why : Option Refusal) → (m : Move O R) (ms : List (Move O R)) → refusal m ≡ why → unless_made refusal (m ∷ ms) t ≡ makes made outcome → t ≡ makes made outcome
    by-refusal None m ms none is = rw none at is
    by-refusal (Some r) m ms some is =
        let bad : answers {O = O} {R = R} {A = A} (Refused r) ≡ makes made outcome = rw some at is in
        let no : [] ≡ made ∷ [] = ap (λ (u : Turn O R A). u.made) bad in absurd (let never : ⊥ = cc in never)

    by-made : (ms : List (Move O R)) → unless_made refusal ms t ≡ makes made outcome → t ≡ makes made outcome
    by-made [] is = is
    by-made (m ∷ ms) is = by-refusal (refusal m) m ms refl is

-- a turn that was refused, but for another reason than its move
module _ {O R A C : Type 0} (because : C → Refusal) (t : Turn O R A) (why : Refusal) (other : (c : C) → because c ≡ why → ⊥) where
  abbrev told : Refusal → Outcome A R
  told refusal = Refused refusal

  refused-before : (found : Option C) → unless (option_map because found) t ≡ answers (Refused why) → t ≡ answers (Refused why)
  refused-before None is = is
  refused-before (Some c) is =
      let e : told (because c) ≡ told why = ap (λ (u : Turn O R A). u.outcome) is in
      let same : because c ≡ why = cc e in absurd (other c same)

  refused-unless : (found : Move O R → Option C) (ms : List (Move O R)) → unless_made (λ m. option_map because (found m)) ms t ≡ answers (Refused why) → t ≡ answers (Refused why)
  refused-unless found [] is = is
  refused-unless found (m ∷ ms) is = refused-before (found m) is

-- a turn that is not of a commit that is here
module _ {O R A : Type 0} (t : Turn O R A) where
  here-makes : (made : Move O R) (outcome : Outcome A R) (o : Option ℕ) → unless_here o t ≡ makes made outcome → t ≡ makes made outcome
  here-makes made outcome None is = is
  here-makes made outcome (Some n) is = let no : [] ≡ made ∷ [] = ap (λ (u : Turn O R A). u.made) is in absurd (let never : ⊥ = cc in never)

  here-refuses : (why : Refusal) (o : Option ℕ) → unless_here o t ≡ answers (Refused why) → t ≡ answers (Refused why)
  here-refuses why None is = is
  here-refuses why (Some n) is = let e : ◌≡◌ {A = Outcome A R} (Here n) (Refused why) = ap (λ (u : Turn O R A). u.outcome) is in absurd (let never : ⊥ = cc in never)

module _ {S O R Q A : Type 0} (fixed : Fixed S O R Q A) (moves : List (Move O R)) (step : Step O Q) where
  abbrev plain : Turn O R A
  plain = turn fixed.meaning fixed.terms moves step

  abbrev kept : Turn O R A
  kept = unless_made (collision_refusal fixed moves) plain.made plain

  -- where no move is made, and no commit is received, both answer the same
  pub full-answers : (outcome : Outcome A R) → commit_here fixed moves step ≡ None → turn fixed.meaning fixed.terms moves step ≡ answers outcome → full_turn fixed moves step ≡ answers outcome
  unfolding full_turn
  full-answers outcome own is = ap (λ o. unless_here o kept) own ∙ ap (λ (t : Turn O R A). unless_made (collision_refusal fixed moves) t.made t) is

  -- a move that the one makes the other makes
  pub full-turned : (made : Move O R) (outcome : Outcome A R) → full_turn fixed moves step ≡ makes made outcome → turn fixed.meaning fixed.terms moves step ≡ makes made outcome
  unfolding full_turn
  full-turned made outcome is = made-unless (collision_refusal fixed moves) plain made outcome (here-makes kept made outcome (commit_here fixed moves step) is)

  -- what the one refuses for another reason than a collision, the other refuses
  pub full-refused : (why : Refusal) → ((address stored fresh : List ℕ) → Collision address stored fresh ≡ why → ⊥) → full_turn fixed moves step ≡ answers (Refused why) → turn fixed.meaning fixed.terms moves step ≡ answers (Refused why)
  unfolding full_turn collision_refusal
  full-refused why other is =
      refused-unless (λ c. Collision (fixed.address c.1) c.0 c.1) plain why (λ c e. other (fixed.address c.1) c.0 c.1 e) (λ made. collision fixed.address (objects_of fixed moves) (new_objects fixed moves made)) plain.made
      (here-refuses kept why (commit_here fixed moves step) is)

-- two steps that receive no commit, and have one turn, have one where objects are kept
pub full-same : {S O R Q A : Type 0} (fixed : Fixed S O R Q A) (moves : List (Move O R)) (step other : Step O Q) → commit_here fixed moves step ≡ None → commit_here fixed moves other ≡ None
    → turn fixed.meaning fixed.terms moves step ≡ turn fixed.meaning fixed.terms moves other → full_turn fixed moves step ≡ full_turn fixed moves other
unfolding full_turn
full-same {S} {O} {R} {Q} {A} fixed moves step other one two is =
    let first : Turn O R A = turn fixed.meaning fixed.terms moves step in
    let second : Turn O R A = turn fixed.meaning fixed.terms moves other in
    ap (λ o. unless_here o (unless_made (collision_refusal fixed moves) first.made first)) one
    ∙ ap (λ (t : Turn O R A). unless_made (collision_refusal fixed moves) t.made t) is
    ∙ sym (ap (λ o. unless_here o (unless_made (collision_refusal fixed moves) second.made second)) two)
