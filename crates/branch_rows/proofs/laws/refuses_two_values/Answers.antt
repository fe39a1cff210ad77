-- The first object of the move collides.
use Rattle.branch_rows.proofs.Computed.{two_values}
use Rattle.branch_rows.proofs.laws.refuses_two_values.Goals as goal

pub returns : goal.returns
returns c = two_values
