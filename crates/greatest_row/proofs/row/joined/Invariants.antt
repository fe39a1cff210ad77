use Rattle.std.proofs.Common.{◌≡◌, ◌++◌, length}
use Rattle.greatest_row.specs.Rows.{join}
use Rattle.greatest_row.proofs.row.joined.Given as goal

-- the numbers so far, and what the rest of both gives
abbrev pub invariant-loop-m : goal.invariant-loop-m
invariant-loop-m l = l.numbers.items ++ join l.mine l.theirs ≡ join l.left l.right

abbrev pub decreases-loop-m : goal.decreases-loop-m
decreases-loop-m l = length l.mine
