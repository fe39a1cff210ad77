-- A move that was made anew, and kept where it is the one that stands in the files.
use Rattle.std.proofs.Common.{◌≡◌, ℕ, Bool, true, false, List, [], ◌∷◌, ◌++◌, refl, sym, ◌∙◌, ap, subst}
use Rattle.mrdt_model.specs.Laws.{Meaning}
use Rattle.branch_history.specs.declared.moves.Move.{Move}
use Rattle.branch_history.specs.Steps.{Step}
use Rattle.heads_journal.specs.declared.record.Record.{Record}
use Rattle.branch_machine.specs.Fixed.{Fixed, fix}
use Rattle.branch_machine.specs.Machine.{full_turn}
use Rattle.branch_machine.specs.Validity.{IsFullyValid}
use Rattle.branch_machine.proofs.Valid.{valid-second}
use Rattle.branch_files.specs.Records.{record_of}
use Rattle.recorded_history.specs.Views.{RecordedView}
use Rattle.commit_replay.specs.Walk.{Remade, IsKeptIfSame}
use Rattle.commit_replay.proofs.Steps.{other-remade}

module _ {S O R Q A : Type 0} (m : Meaning S O R Q A) (address : List ℕ → List ℕ) (old new : RecordedView (Move O R)) (step : Step O Q) (made : Move O R) (r : Record) (bytes : List ℕ) where
  abbrev fixed : Fixed S O R Q A
  fixed = fix m old.terms address

  abbrev pending : RecordedView (Move O R)
  pending = record old { pending = made ∷ [] }

  kept : old.pending ≡ [] → (full_turn fixed old.written step).made ≡ made ∷ [] → IsFullyValid fixed (old.written ++ made ∷ []) → (same : Bool) → IsKeptIfSame fixed pending new made r bytes same → Remade fixed old new step r bytes same
  kept settled makes valid true is = record { made = made; full = (valid-second fixed old.written (made ∷ []) valid).0; recorded = is.0; stored = is.1; grown = is.2 }
  kept settled makes valid false is =
      let back : record pending { pending = [] } ≡ old = ap (λ (p : List (Move O R)). record old { pending = p }) (sym settled) in
      (is.0 ∙ back, other-remade fixed old.written step made r bytes makes is.1)

  -- after a landing or a fork
  pub kept-made : old.pending ≡ [] → (full_turn fixed old.written step).made ≡ made ∷ [] → (mid : RecordedView (Move O R)) → mid ≡ pending → (own : Record) → own ≡ record_of fixed old.written made → IsFullyValid (fix m mid.terms address) (mid.written ++ mid.pending)
      → (same : Bool) → ((n : Move O R) → mid.pending ≡ n ∷ [] → own ≡ record_of (fix m mid.terms address) mid.written n → IsKeptIfSame (fix m mid.terms address) mid new n r bytes same) → Remade fixed old new step r bytes same
  kept-made settled makes mid is own own_is valid same keeps =
      kept settled makes (subst (λ (x : RecordedView (Move O R)). IsFullyValid (fix m x.terms address) (x.written ++ x.pending)) is valid) same
      (subst
      (λ (x : RecordedView (Move O R)). (n : Move O R) → x.pending ≡ n ∷ [] → own ≡ record_of (fix m x.terms address) x.written n → IsKeptIfSame (fix m x.terms address) x new n r bytes same) is
      keeps made refl own_is)
