-- A join.
use Rattle.branch_rows.proofs.Computed.{joins}
use Rattle.branch_rows.proofs.laws.joins_branches.Goals as goal

pub returns : goal.returns
returns c = joins
