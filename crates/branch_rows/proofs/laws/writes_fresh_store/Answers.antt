-- The files of no moves.
use Rattle.branch_rows.proofs.Computed.{fresh_store}
use Rattle.branch_rows.proofs.laws.writes_fresh_store.Goals as goal

pub returns : goal.returns
returns c = fresh_store
