-- What lies behind a shared store, and what its type keeps.
use Rattle.std.specs.Prelude.{◌≡◌, ℕ, ◌-◌, List, [], ◌++◌, length}
use Rattle.std.specs.List.{AllByRecursion}
use Rattle.atomic_table.specs.Seated.{TableId}
use Rattle.branch_disk.specs.Disk.{Files}
use Rattle.branch_disk.specs.declared.disk.Disk.{Ghosts}
use Rattle.branch_names.specs.declared.terms.Terms.{Terms}
use Rattle.branch_front.specs.Views.{Opening, View, IsIdle}
use Rattle.branch_history.specs.declared.moves.Move.{Move}
use Rattle.branch_machine.specs.Fixed.{Fixed}
use Rattle.store_core.specs.Views.{StoreView}
use Rattle.branch_shared.specs.declared.name.Entry.{Entry}
use Rattle.branch_shared.specs.Crashes.{IsSafe, AreSure}
use Rattle.branch_shared.specs.Entries.{moves_of, moments_of}

-- the faults that a store's disk has had since the store was made or opened
abbrev pub faults_since : {M D : Type 0} → (D → ℕ) → StoreView M D → ℕ
faults_since faults store = faults store.disk - faults store.opened

-- the front of a store that began with a history
abbrev pub front_of : {M : Type 0} → TableId → List M → ℕ → Opening
front_of table begun parts = record { table = table; begun = length begun; parts = parts }

-- the first writer of a front, which holds all parts and knows of so many faults
abbrev pub first_writer : {M : Type 0} → TableId → ℕ → ℕ → View M
first_writer table parts faults = record { table = table; moves = []; mine = []; others = []; faults = faults; parts = parts; receipts = 0 }

-- Under the lock lie the core that was named and the front's writer, which is idle and knows the core's history and how
-- often its disk has failed. The store's name allows each move behind the history that it began with.
-- At each moment since the store was shared, a crash leaves no less than it began with, and at each moment since a move was
-- acknowledged, no less than that move and those before it.
pub record IsKept {D S O R Q A : Type 0} (disk : Ghosts D) (fixed : Fixed S O R Q A) (table : TableId) (begun : List (Move O R)) (terms : Terms) (opened : ℕ) (allows : Move O R → Type 0)
    (since : ℕ) (left : ℕ → Files → Type 0) (core : StoreView (Move O R) D) (writer : View (Entry O R)) : Type 0 where
  pub table_is : writer.table ≡ table
  pub history_is : core.history ≡ begun ++ moves_of writer.moves
  pub terms_are : core.terms ≡ terms
  pub opened_is : disk.faults core.opened ≡ opened
  pub faults_are : writer.faults ≡ faults_since disk.faults core
  pub idle : IsIdle writer
  pub allowed : AllByRecursion allows (moves_of writer.moves)
  pub safe : IsSafe disk fixed since left begun allows core
  pub sure : AreSure disk fixed begun core.history (moments_of writer.moves) core.disk
