-- What lies under the lock goes on from call to call.
use Rattle.std.proofs.Common.{◌≡◌, ℕ, true, false, List, ◌++◌, ap, sym, subst, ◌∙◌, Result, Ok, Err, IfErr}
use Rattle.std.specs.Prelude.{is_ok}
use Rattle.std.specs.List.{AllByRecursion}
use Rattle.atomic_table.specs.Seated.{TableId}
use Rattle.branch_disk.specs.Disk.{Files}
use Rattle.branch_disk.specs.declared.disk.Disk.{Ghosts}
use Rattle.branch_front.specs.Views.{View, IsIdle}
use Rattle.branch_names.specs.declared.terms.Terms.{Terms}
use Rattle.branch_history.specs.declared.moves.Move.{Move}
use Rattle.branch_machine.specs.Fixed.{Fixed}
use Rattle.store_seen.specs.Views.{SeenView}
use Rattle.store_core.specs.declared.answers.LandRefused.{LandRefused}
use Rattle.store_core.specs.declared.answers.LandRefused.TheVariants as land_refusal
use Rattle.store_core.specs.declared.answers.ForkRefused.{ForkRefused}
use Rattle.store_core.specs.declared.answers.ForkRefused.TheVariants as fork_refusal
use Rattle.store_core.specs.declared.answers.DropRefused.{DropRefused}
use Rattle.store_core.specs.declared.answers.DropRefused.TheVariants as drop_refusal
use Rattle.store_core.specs.Answers.{Keeps, drop_answer}
use Rattle.store_core.specs.Turns.{LandLeaves, ForkLeaves}
use Rattle.store_core.specs.Views.{StoreView}
use Rattle.branch_shared.specs.declared.name.Entry.{Entry}
use Rattle.branch_shared.specs.Crashes.{IsSafe, AreSure}
use Rattle.branch_shared.specs.Entries.{moves_of, moments_of}
use Rattle.branch_shared.specs.Keeps.{IsKept, faults_since}

-- the same store: under the same terms, and opened at the same disk
pub record IsSameStore {M D : Type 0} (old new : StoreView M D) : Type 0 where
  pub terms : new.terms ≡ old.terms
  pub opened : new.opened ≡ old.opened

-- and it has the same history
pub record HasStayed {M D : Type 0} (old new : StoreView M D) : Type 0 where
  pub history : new.history ≡ old.history
  pub same : IsSameStore old new

module _ {O R D : Type 0} (old new : StoreView (Move O R) D) where
  abbrev View' : Type 0
  View' = StoreView (Move O R) D

  -- the history has grown
  pub same-grown : (history : List (Move O R)) → new ≡ record old { history = history; disk = new.disk } → IsSameStore old new
  same-grown history is = record { terms = ap (λ (s : View'). s.terms) is; opened = ap (λ (s : View'). s.opened) is }

  unchanged : new ≡ old → HasStayed old new
  unchanged is = record { history = ap (λ (s : View'). s.history) is; same = record { terms = ap (λ (s : View'). s.terms) is; opened = ap (λ (s : View'). s.opened) is } }

  fails : new ≡ record old { failed = true; disk = new.disk } → HasStayed old new
  fails is = record { history = ap (λ (s : View'). s.history) is; same = record { terms = ap (λ (s : View'). s.terms) is; opened = ap (λ (s : View'). s.opened) is } }

  pub land-stayed : {L : Type 0} (result : Result L LandRefused) → IfErr result (LandLeaves old new) → is_ok result ≡ false → HasStayed old new
  land-stayed (Ok landed) kept is = absurd (let never : ⊥ = cc in never)
  land-stayed (Err (land_refusal.Dropped branch)) kept is = unchanged kept
  land-stayed (Err (land_refusal.Stale newest)) kept is = unchanged kept
  land-stayed (Err (land_refusal.FullCommits count)) kept is = unchanged kept
  land-stayed (Err (land_refusal.FullMoves count)) kept is = unchanged kept
  land-stayed (Err (land_refusal.Collision at stored fresh)) kept is = unchanged kept
  land-stayed (Err land_refusal.DiskFault) kept is = fails kept
  land-stayed (Err (land_refusal.Failed moves)) kept is = unchanged kept
  land-stayed (Err land_refusal.Memory) kept is = unchanged kept

  pub fork-stayed : {L : Type 0} (result : Result L ForkRefused) → IfErr result (ForkLeaves old new) → is_ok result ≡ false → HasStayed old new
  fork-stayed (Ok forked) kept is = absurd (let never : ⊥ = cc in never)
  fork-stayed (Err (fork_refusal.UnknownBranch named)) kept is = unchanged kept
  fork-stayed (Err (fork_refusal.NameTaken number)) kept is = unchanged kept
  fork-stayed (Err (fork_refusal.FullBranches count)) kept is = unchanged kept
  fork-stayed (Err (fork_refusal.FullMoves count)) kept is = unchanged kept
  fork-stayed (Err fork_refusal.DiskFault) kept is = fails kept
  fork-stayed (Err (fork_refusal.Failed moves)) kept is = unchanged kept
  fork-stayed (Err fork_refusal.Memory) kept is = unchanged kept

  pub drop-stayed : (A : Type 0) (seen : SeenView (Move O R)) (result : Result ℕ DropRefused) → Keeps {A = A} {R = R} (drop_answer seen result) old new → is_ok result ≡ false → HasStayed old new
  drop-stayed A seen (Ok moves) kept is = absurd (let never : ⊥ = cc in never)
  drop-stayed A seen (Err (drop_refusal.Dropped branch)) kept is = unchanged kept
  drop-stayed A seen (Err drop_refusal.KeepsMain) kept is = unchanged kept
  drop-stayed A seen (Err (drop_refusal.Stale newest)) kept is = unchanged kept
  drop-stayed A seen (Err (drop_refusal.FullMoves count)) kept is = unchanged kept
  drop-stayed A seen (Err drop_refusal.DiskFault) kept is = fails kept
  drop-stayed A seen (Err (drop_refusal.Failed moves)) kept is = unchanged kept
  drop-stayed A seen (Err drop_refusal.Memory) kept is = unchanged kept

  pub drop-same : (A : Type 0) (seen : SeenView (Move O R)) (result : Result ℕ DropRefused) → Keeps {A = A} {R = R} (drop_answer seen result) old new → is_ok result ≡ true → IsSameStore old new
  drop-same A seen (Ok moves) kept is = same-grown new.history kept
  drop-same A seen (Err refused) kept is = absurd (let never : ⊥ = cc in never)

module _ {D S O R Q A : Type 0} (disk : Ghosts D) (fixed : Fixed S O R Q A) (table : TableId) (begun : List (Move O R)) (terms : Terms) (opened : ℕ) (allows : Move O R → Type 0) (since : ℕ) (left : ℕ → Files → Type 0)
    (old new : StoreView (Move O R) D) (was is : View (Entry O R)) (kept : IsKept disk fixed table begun terms opened allows since left old was)
    (safe : IsSafe disk fixed since left begun allows new × AreSure disk fixed begun new.history (moments_of is.moves) new.disk) where
  -- the writer knows what the core has now
  pub kept-on : IsSameStore old new → is.table ≡ was.table → new.history ≡ begun ++ moves_of is.moves → is.faults ≡ faults_since disk.faults new → IsIdle is → AllByRecursion allows (moves_of is.moves)
      → IsKept disk fixed table begun terms opened allows since left new is
  kept-on same named history counted idle may = record {
    table_is = named ∙ kept.table_is;
    history_is = history;
    terms_are = same.terms ∙ kept.terms_are;
    opened_is = ap disk.faults same.opened ∙ kept.opened_is;
    faults_are = counted;
    idle = idle;
    allowed = may;
    safe = safe.0;
    sure = safe.1;
  }

  -- it has learnt of faults alone
  pub kept-still : HasStayed old new → is ≡ record was { faults = faults_since disk.faults new } → IsKept disk fixed table begun terms opened allows since left new is
  kept-still stays told =
      let moves : is.moves ≡ was.moves = ap (λ (w : View (Entry O R)). w.moves) told in
      let idle = kept.idle in
      kept-on stays.same (ap (λ (w : View (Entry O R)). w.table) told) (stays.history ∙ (kept.history_is ∙ ap (λ (l : List (Entry O R)). begun ++ moves_of l) (sym moves))) (ap (λ (w : View (Entry O R)). w.faults) told)
      (ap (λ (w : View (Entry O R)). w.mine) told ∙ idle.0, ap (λ (w : View (Entry O R)). w.others) told ∙ idle.1, ap (λ (w : View (Entry O R)). w.parts) told ∙ idle.2, ap (λ (w : View (Entry O R)). w.receipts) told ∙ idle.3)
      (subst (λ (l : List (Entry O R)). AllByRecursion allows (moves_of l)) (sym moves) kept.allowed)
