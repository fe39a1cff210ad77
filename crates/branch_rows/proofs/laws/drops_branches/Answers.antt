-- A branch dropped.
use Rattle.branch_rows.proofs.Computed.{drops}
use Rattle.branch_rows.proofs.laws.drops_branches.Goals as goal

pub returns : goal.returns
returns c = drops
