-- Steps that are refused, that find no memory, and that are made.
use Rattle.std.proofs.Common.{◌≡◌, ℕ, ◌≤◌, ◌^◌, [], ◌∷◌, ◌++◌, length, refl, ap, sym, ◌∙◌, subst}
use Rattle.mrdt_model.specs.Laws.{Meaning}
use Rattle.branch_history.specs.declared.moves.Move.{Move}
use Rattle.branch_history.specs.Machine.{turn, makes}
use Rattle.branch_history.specs.Steps as machine
use Rattle.machine_answers.specs.Answers.{Made, Refused, Short}
use Rattle.store_seen.specs.Turns.{Refuses, Steps}
use Rattle.store_seen.specs.Views.{CoreView, VersionsView}

module _ {S O R Q A : Type 0} (meaning : Meaning S O R Q A) (step : machine.Step O Q) (old new : VersionsView (Move O R)) where
  -- nothing has changed
  module _ (same : new ≡ old) where
    pub step-refused : (refusal : machine.Refusal) → Refuses meaning old.core.terms old.core.history step refusal → Steps meaning step old new old.addresses (Refused refusal)
    step-refused refusal is =
        subst (λ (v : VersionsView (Move O R)). Steps meaning step old v old.addresses (Refused refusal)) (sym same)
        (record { takes = record { turns = is; history = refl; counted = tt }; rest = refl })

    pub step-short : Steps meaning step old new old.addresses Short
    step-short =
        subst (λ (v : VersionsView (Move O R)). Steps meaning step old v old.addresses Short) (sym same)
        (record { takes = record { turns = tt; history = refl; counted = tt }; rest = refl })

  -- the history goes on by the move
  pub step-made : (made : Move O R) (outcome : machine.Outcome A R) (moves : ℕ) → turn meaning old.core.terms old.core.history step ≡ makes made outcome → new.core ≡ record old.core { history = old.core.history ++ made ∷ [] }
      → new.addresses ≡ old.addresses → moves ≡ length new.core.history → length new.core.history ≤ 2 ^ 48 → Steps meaning step old new old.addresses (Made outcome moves)
  step-made made outcome moves turn_is grown addressed counted few = record {
    takes = record {
      turns = (made, turn_is);
      history = ap (λ (c : CoreView (Move O R)). c.history) grown ∙ ap (λ (t : machine.Turn O R A). old.core.history ++ t.made) (sym turn_is);
      counted = (counted, few);
    };
    rest =
        ap (λ (c : CoreView (Move O R)). let v : VersionsView (Move O R) = record { core = record { history = new.core.history; terms = c.terms }; addresses = new.addresses } in v) grown
        ∙ ap (λ a. let v : VersionsView (Move O R) = record { core = record { history = new.core.history; terms = old.core.terms }; addresses = a } in v) addressed;
  }
