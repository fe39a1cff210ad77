-- What lies under the lock of a store that has just got its name.
use Rattle.std.proofs.Common.{◌≡◌, ℕ, List, [], ◌++◌, ap, sym, subst, ◌∙◌}
use Rattle.std.specs.List.{AllByRecursion}
use Rattle.std.proofs.lemmas.List.{append-nil}
use Rattle.atomic_table.specs.Seated.{TableId}
use Rattle.branch_disk.specs.Disk.{Files}
use Rattle.branch_disk.specs.declared.disk.Disk.{Ghosts}
use Rattle.branch_names.specs.declared.terms.Terms.{Terms}
use Rattle.branch_front.specs.Views.{View}
use Rattle.branch_history.specs.declared.moves.Move.{Move}
use Rattle.branch_machine.specs.Fixed.{Fixed}
use Rattle.store_core.specs.Views.{StoreView}
use Rattle.branch_shared.specs.declared.name.Entry.{Entry}
use Rattle.branch_shared.specs.Crashes.{IsSafe}
use Rattle.branch_shared.specs.Entries.{moves_of, moments_of}
use Rattle.branch_shared.specs.Keeps.{IsKept, faults_since, first_writer}
use Rattle.branch_shared.proofs.Surely.{sure-first}

-- the writer has given over all that it held, and knows of no move yet
pub kept-first : {D S O R Q A : Type 0} (disk : Ghosts D) (fixed : Fixed S O R Q A) (table : TableId) (begun : List (Move O R)) (terms : Terms) (opened : ℕ) (allows : Move O R → Type 0) (since : ℕ) (left : ℕ → Files → Type 0)
    (core : StoreView (Move O R) D) (parts : ℕ) (front : TableId) (writer : View (Entry O R))
    → front ≡ table → core.history ≡ begun → core.terms ≡ terms → disk.faults core.opened ≡ opened
    → writer ≡ record (first_writer front parts (faults_since disk.faults core)) { mine = []; others = []; parts = 0; receipts = 0 } → IsSafe disk fixed since left begun allows core
    → IsKept disk fixed table begun terms opened allows since left core writer
kept-first {D} {S} {O} {R} disk fixed table begun terms opened allows since left core parts front writer named history limited opening is safe = record {
  table_is = ap (λ w. w.table) is ∙ named;
  history_is = history ∙ sym (ap (λ w. begun ++ moves_of w.moves) is ∙ append-nil begun);
  terms_are = limited;
  opened_is = opening;
  faults_are = ap (λ w. w.faults) is;
  idle = (ap (λ w. w.mine) is, ap (λ w. w.others) is, ap (λ w. w.parts) is, ap (λ w. w.receipts) is);
  allowed = subst (AllByRecursion allows) (sym (ap (λ (w : View (Entry O R)). moves_of w.moves) is)) tt;
  safe = safe;
  sure = sure-first disk fixed begun core.history (moments_of writer.moves) core.disk history (ap (λ (w : View (Entry O R)). moments_of w.moves) is);
}
