use Rattle.std.proofs.Common.{◌≡◌, ◌++◌, length}
use Rattle.greatest_row.specs.Rows.{row_spelling, AreNumbers}
use Rattle.greatest_row.proofs.row.get_numbers.Given as goal

-- what was read, and what is left
abbrev pub invariant-loop-cursor : goal.invariant-loop-cursor
invariant-loop-cursor l = (l.bytes ≡ row_spelling l.numbers.items ++ l.cursor) × AreNumbers l.numbers.items

abbrev pub decreases-loop-cursor : goal.decreases-loop-cursor
decreases-loop-cursor l = length l.cursor
