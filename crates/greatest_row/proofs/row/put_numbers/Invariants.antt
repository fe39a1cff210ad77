use Rattle.std.proofs.Common.{drop}
use Rattle.live_set.proofs.Writing.{PutSoFar}
use Rattle.greatest_row.specs.Rows.{row_spelling}
use Rattle.greatest_row.proofs.row.put_numbers.Given as goal

abbrev pub invariant-loop-number : goal.invariant-loop-number
invariant-loop-number l = PutSoFar l.fn.out.items l.out.items (row_spelling (drop l.number-index l.numbers)) (row_spelling l.numbers)
