use Rattle.std.proofs.Common.{◌≡◌, drop}
use Rattle.greatest_row.specs.Rows.{best_of, highest}
use Rattle.greatest_row.proofs.row.highest_of.Given as goal

abbrev pub invariant-loop-place : goal.invariant-loop-place
invariant-loop-place l = best_of l.best l.place (drop l.place l.numbers) ≡ highest l.numbers
