-- An origin of one's own.
use Rattle.branch_rows.proofs.Computed.{own_origins}
use Rattle.branch_rows.proofs.laws.refuses_own_origins.Goals as goal

pub returns : goal.returns
returns c = own_origins
