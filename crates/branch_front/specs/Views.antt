-- What a front, a writer and a pass are to a contract.
use Rattle.std.specs.Prelude.{◌≡◌, ℕ, false, List, [], ◌∷◌}
use Rattle.atomic_table.specs.Seated.{TableId}
use Rattle.atomic_table.specs.declared.shared.Seat.{Seat}
use Rattle.branch_front.specs.declared.seat_view.SeatView.{SeatView}
use Rattle.branch_front.specs.SeatViews.{spent}

-- which front it is, the length at which its word began, and the number of its parts
pub record Opening : Type 0 where
  pub table : TableId
  pub begun : ℕ
  pub parts : ℕ

-- of which front it is; the entries that its holder has seen, from the first that came after the front was made; the rising
-- lengths of the history at which its own entries landed, and those at which the entries of passes did that were joined to it;
-- the disk's faults as last seen; its share of the front's parts; and the number of entries that landed by it and by the passes
-- that were joined to it. It claims its own entries and the others
pub record View (M : Type 0) : Type 0 where
  pub table : TableId
  pub moves : List M
  pub mine : List ℕ
  pub others : List ℕ
  pub faults : ℕ
  pub parts : ℕ
  pub receipts : ℕ

module _ {M : Type 0} where
  -- the writer holds nothing for a caller
  abbrev pub IsIdle : View M → Type 0
  IsIdle writer = (writer.mine ≡ []) × (writer.others ≡ []) × (writer.parts ≡ 0) × (writer.receipts ≡ 0)

  -- what a contract sees of a view
  abbrev pub view_of : TableId → SeatView M → View M
  view_of table v = record { table = table; moves = v.moves; mine = v.mine; others = v.others; faults = v.faults; parts = v.parts; receipts = v.receipts }

  -- the one view of a badge
  abbrev pub only_view : List (SeatView M) → SeatView M
  only_view [] = spent
  only_view (v ∷ vs) = v

  -- a badge has one view, a caller's, with these receipts
  pub record IsCallers (views : List (SeatView M)) (receipts : ℕ) : Type 0 where
    pub one : views ≡ only_view views ∷ []
    pub caller : (only_view views).writes ≡ false
    pub counted : receipts ≡ (only_view views).receipts

  -- the seat is at this front's word. Such a seat never holds a slot, of which the word's table has none
  abbrev pub IsAt : TableId → Seat (Unit {0}) (SeatView M) → Type 0
  IsAt table seat = (seat.table_id ≡ table) × (seat.me.1 ≡ [])
