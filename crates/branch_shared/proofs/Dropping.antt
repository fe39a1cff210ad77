-- What a store becomes when a branch of it is dropped.
use Rattle.std.proofs.Common.{◌≡◌, ℕ, true, List, [], ◌∷◌, ◌++◌, ap, ◌∙◌}
use Rattle.std.specs.Prelude.{Result, Ok, Err, is_ok}
use Rattle.mrdt_model.specs.Laws.{Meaning}
use Rattle.branch_history.specs.declared.moves.Move.{Move}
use Rattle.branch_history.specs.Steps.{Turn}
use Rattle.branch_history.specs.Steps as machine
use Rattle.machine_answers.specs.Answers.{Takes}
use Rattle.store_seen.specs.Views.{SeenView}
use Rattle.store_core.specs.declared.answers.DropRefused.{DropRefused}
use Rattle.store_core.specs.Answers.{drop_answer, turn_of}
use Rattle.store_core.specs.Views.{StoreView}

module _ {D S O R Q A : Type 0} (meaning : Meaning S O R Q A) (address : List ℕ → List ℕ) (seen : SeenView (Move O R)) (old new : StoreView (Move O R) D) where
  -- the history is longer by one move
  pub record IsLonger : Type 0 where
    pub made : Move O R
    pub history : new.history ≡ old.history ++ made ∷ []
    pub one : (turn_of meaning address old (machine.Drop seen.branch seen.head)).made ≡ made ∷ []

  pub drop-made : (result : Result ℕ DropRefused) → Takes (turn_of meaning address old (machine.Drop seen.branch seen.head)) old.history new.history (drop_answer seen result) → is_ok result ≡ true → IsLonger
  drop-made (Ok moves) takes ok = record {
    made = takes.turns.0;
    history = takes.history ∙ ap (λ (t : Turn O R A). old.history ++ t.made) takes.turns.1;
    one = ap (λ (t : Turn O R A). t.made) takes.turns.1;
  }
  drop-made (Err refused) takes ok = absurd (let never : ⊥ = cc in never)
