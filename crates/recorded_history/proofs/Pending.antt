-- Landing behind no pending moves.
use Rattle.std.proofs.Common.{◌≡◌, ℕ, ◌+◌, List, [], ◌∷◌, ◌++◌, length, sym, ◌∙◌, ap, subst, append-nil}
use Rattle.branch_history.specs.declared.moves.Move.{Move}
use Rattle.branch_history.specs.Steps as machine
use Rattle.heads_journal.specs.declared.record.Record.{Record}
use Rattle.branch_machine.specs.Fixed.{Fixed}
use Rattle.branch_machine.specs.Machine.{full_turn}
use Rattle.branch_files.specs.Records.{record_of}
use Rattle.recorded_history.specs.declared.answers.LandRefused.{LandRefused}
use Rattle.recorded_history.specs.declared.answers.LandRefused.TheVariants as refusal
use Rattle.recorded_history.specs.Machine.{Makes, MakesMore}
use Rattle.recorded_history.specs.Refusals.{LeavesPending}
use Rattle.recorded_history.specs.Views.{RecordedView}

module _ {M : Type 0} (old : RecordedView M) (none : old.pending ≡ []) where
  pub written-alone : old.written ++ old.pending ≡ old.written
  written-alone = ap (λ (l : List M). old.written ++ l) none ∙ append-nil old.written

  same-old : record old { pending = [] } ≡ old
  same-old = ap (λ (l : List M). let r : RecordedView M = record { written = old.written; pending = l; terms = old.terms } in r) (sym none)

  pub leaves-same : (new : RecordedView M) (refused : LandRefused) → LeavesPending old new refused → new ≡ old
  leaves-same new (refusal.Dropped branch) leaves = leaves
  leaves-same new (refusal.Stale newest) leaves = leaves
  leaves-same new (refusal.FullCommits count) leaves = leaves
  leaves-same new (refusal.FullMoves count) leaves = leaves
  leaves-same new (refusal.Collision address stored fresh) leaves = leaves
  leaves-same new refusal.Memory leaves = leaves ∙ same-old

pub makes-alone : {S O R Q A : Type 0} (fixed : Fixed S O R Q A) (old new : RecordedView (Move O R)) (step : machine.Step O Q) (made : Move O R) (outcome : machine.Outcome A R) (moves : ℕ) (r : Record) → old.pending ≡ []
    → MakesMore fixed old new step made outcome moves r → Makes fixed old new step made outcome moves r
makes-alone {S} {O} {R} {Q} {A} fixed old new step made outcome moves r none more =
    let alone = written-alone old none in
    record {
      turn_is = subst (λ (l : List (Move O R)). full_turn fixed l step ≡ record { outcome = outcome; made = made ∷ [] }) alone more.turn_is;
      pending = more.pending ∙ ap (λ (l : List (Move O R)). let v : RecordedView (Move O R) = record { written = old.written; pending = l ++ made ∷ []; terms = old.terms } in v) none;
      counted = subst (λ (l : List (Move O R)). moves ≡ length l + 1) alone more.counted;
      recorded = subst (λ (l : List (Move O R)). r ≡ record_of fixed l made) alone more.recorded;
    }
