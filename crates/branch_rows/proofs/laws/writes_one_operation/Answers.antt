-- The files of one move.
use Rattle.branch_rows.proofs.Computed.{one_operation}
use Rattle.branch_rows.proofs.laws.writes_one_operation.Goals as goal

pub returns : goal.returns
returns c = one_operation
