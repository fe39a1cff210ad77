-- The move that the machine makes where it places a branch, or drops one, and its record, which waits.
use Rattle.std.proofs.Common.{◌≡◌, ℕ, List, [], ◌∷◌, ◌++◌, length, sym, ◌∙◌, ap, arith, length-append}
use Rattle.mrdt_model.specs.Laws.{Meaning}
use Rattle.branch_history.specs.declared.moves.Move.{Move}
use Rattle.branch_history.specs.Steps.{Step, Outcome, Turn}
use Rattle.heads_journal.specs.declared.record.Record.{Record}
use Rattle.branch_machine.specs.Fixed.{fix}
use Rattle.branch_machine.specs.Machine.{full_turn}
use Rattle.branch_files.specs.Records.{record_of}
use Rattle.machine_answers.specs.Answers.{Made}
use Rattle.recorded_history.specs.Machine.{Makes, Steps, IsRecordOf}
use Rattle.recorded_history.specs.Views.{RecordedView}
use Rattle.store_core.specs.Keeps.{Waits}
use Rattle.store_core.proofs.Landings.{waits_so}

-- a step that was made in memory, and the record of what is pending then
module _ {S O R Q A : Type 0} (meaning : Meaning S O R Q A) (address : List ℕ → List ℕ) (r0 r1 : RecordedView (Move O R)) (step : Step O Q)
    (outcome : Outcome A R) (moves : ℕ) (r : Record) (settled : r0.pending ≡ []) (steps : Steps (fix meaning r0.terms address) step r0 r1 (Made outcome moves))
    (recorded : IsRecordOf (fix meaning r0.terms address) r1 r) where
  turned : (full_turn (fix meaning r0.terms address) r0.written step).made ≡ steps.turns.0 ∷ []
  turned = ap (λ (t : Turn O R A). t.made) steps.turns.1

  pends : r1 ≡ record r0 { pending = steps.turns.0 ∷ [] }
  pends = steps.pending ∙ ap (λ (ms : List (Move O R)). record r0 { pending = ms }) turned

  -- the machine makes the move
  pub makes_so : Makes (fix meaning r0.terms address) r0 r1 step steps.turns.0 outcome moves r
  makes_so =
      let long : length (r1.written ++ r1.pending) ≡ length (r0.written ++ steps.turns.0 ∷ []) = ap (λ (x : RecordedView (Move O R)). length (x.written ++ x.pending)) pends in
      let written : r1.written ≡ r0.written = ap (λ (x : RecordedView (Move O R)). x.written) pends in
      let first : recorded.0 ∷ [] ≡ steps.turns.0 ∷ [] = sym recorded.1 ∙ ap (λ (x : RecordedView (Move O R)). x.pending) pends in
      let same : recorded.0 ≡ steps.turns.0 = cc first in
      record {
        turn_is = steps.turns.1;
        pending = pends;
        counted = omega (arith, steps.counted.0, long, length-append r0.written (steps.turns.0 ∷ []));
        recorded = recorded.2 ∙ ap (λ (ms : List (Move O R)). record_of (fix meaning r0.terms address) ms recorded.0) written
            ∙ ap (λ (m : Move O R). record_of (fix meaning r0.terms address) r0.written m) same;
      }

  -- and it waits
  pub waits_step : Waits (fix meaning r1.terms address) r1 (r ∷ [])
  waits_step = waits_so meaning address r0 r1 step steps.turns.0 outcome moves r makes_so
