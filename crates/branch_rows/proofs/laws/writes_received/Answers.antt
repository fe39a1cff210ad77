-- A commit received, a branch placed, and its drop.
use Rattle.branch_rows.proofs.Computed.{received}
use Rattle.branch_rows.proofs.laws.writes_received.Goals as goal

pub returns : goal.returns
returns c = received
