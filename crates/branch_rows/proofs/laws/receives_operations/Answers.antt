-- Operations received.
use Rattle.branch_rows.proofs.Computed.{receives}
use Rattle.branch_rows.proofs.laws.receives_operations.Goals as goal

pub returns : goal.returns
returns c = receives
