use Rattle.std.proofs.Common.{arith}
use Rattle.branch_wire.proofs.Numbers.{length-time_field}
use Rattle.mrdt_sequence.proofs.spelling.named_length.Goals as goal

pub returns-in-Some-clause-value : goal.returns-in-Some-clause-value
returns-in-Some-clause-value c = rw c.in-Some.is (omega (arith, length-time_field c.in-Some.field-0))
