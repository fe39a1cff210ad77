-- The files of one move.
use Rattle.branch_rows.proofs.Computed.{one_change}
use Rattle.branch_rows.proofs.laws.writes_one_change.Goals as goal

pub returns : goal.returns
returns c = one_change
