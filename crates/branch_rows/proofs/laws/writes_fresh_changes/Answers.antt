-- The files of one move.
use Rattle.branch_rows.proofs.Computed.{fresh_changes}
use Rattle.branch_rows.proofs.laws.writes_fresh_changes.Goals as goal

pub returns : goal.returns
returns c = fresh_changes
