use Rattle.greatest_row.proofs.Standing.{row_stands}
use Rattle.largest_value.specs.Largest.{raise_marks, largest_of, keeps_marks}
use Rattle.largest_value.proofs.register.LargestMrdt.get.Goals as goal

pub returns-clause-stands : goal.returns-clause-stands
returns-clause-stands c other spelled = row_stands raise_marks keeps_marks largest_of c.args.bytes.now _ other c.in_ok-get.ensures.equal spelled
