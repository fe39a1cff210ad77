use Rattle.std.proofs.Common.{arith}
use Rattle.greatest_row.proofs.Reading.{row-length}
use Rattle.greatest_row.proofs.row.length_of.Goals as goal

pub returns : goal.returns
returns c = let size = row-length c.args.numbers.now in omega (arith, size)
