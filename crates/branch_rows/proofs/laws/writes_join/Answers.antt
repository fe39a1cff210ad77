-- A join.
use Rattle.branch_rows.proofs.Computed.{joined}
use Rattle.branch_rows.proofs.laws.writes_join.Goals as goal

pub returns : goal.returns
returns c = joined
