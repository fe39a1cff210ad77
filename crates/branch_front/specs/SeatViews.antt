-- What one seat at the word knows, its view: how it is cut in two, and how two are put together.
use Rattle.std.specs.Prelude.{ℕ, ◌+◌, ◌-◌, true, false, List, [], ◌∷◌, ◌++◌, length, max}
use Rattle.branch_front.specs.declared.seat_view.SeatView.{SeatView}
use Rattle.branch_front.specs.Lists.{longer, shorter}

module _ {M : Type 0} where
  -- a caller's view that has seen nothing and holds nothing
  abbrev pub spent : SeatView M
  spent = record { writes = false; moves = []; mine = []; others = []; faults = 0; parts = 0; receipts = 0; heard = []; heard_faults = 0 }

  -- the first view is the writer's, and holds all parts
  abbrev pub opening_view : ℕ → SeatView M
  opening_view parts = record spent { writes = true; parts = parts }

  -- the writer's view after an entry, where `begun` came before the first of the list
  abbrev pub with_entry : List M → ℕ → SeatView M → SeatView M
  with_entry entry begun v = record v { moves = v.moves ++ entry; mine = v.mine ++ (begun + length (v.moves ++ entry)) ∷ []; receipts = v.receipts + 1 }

  -- the writer's view without what it held for a caller, and the caller's, which takes that over
  abbrev pub idle_writer : SeatView M → SeatView M
  idle_writer v = record v { mine = []; others = []; parts = 0; receipts = 0 }

  abbrev pub taken_over : SeatView M → SeatView M
  taken_over v = record v { writes = false }

  -- a caller's view without some of its parts, and the new caller's, which has them
  abbrev pub less_parts : ℕ → SeatView M → SeatView M
  less_parts n v = record v { parts = v.parts - n }

  abbrev pub newcomer : ℕ → SeatView M → SeatView M
  newcomer n v = record spent { moves = v.moves; faults = v.faults; parts = n }

  -- the writer's view, which now holds a caller's
  abbrev pub with_caller : SeatView M → SeatView M → SeatView M
  with_caller v w = record v { mine = w.mine; others = v.mine ++ (v.others ++ w.others); parts = v.parts + w.parts; receipts = v.receipts + w.receipts; heard = w.moves; heard_faults = w.faults }

  -- a caller's view, to which another's was joined
  abbrev pub together : SeatView M → SeatView M → SeatView M
  together v w = record v { moves = longer v.moves w.moves; others = v.others ++ (w.mine ++ w.others); faults = max v.faults w.faults; parts = v.parts + w.parts; receipts = v.receipts + w.receipts; heard = shorter v.moves w.moves }

  -- and the same, where the other's entries become its own
  abbrev pub adopted : SeatView M → SeatView M → SeatView M
  adopted v w = record (together v w) { mine = v.mine ++ w.mine; others = v.others ++ w.others }
