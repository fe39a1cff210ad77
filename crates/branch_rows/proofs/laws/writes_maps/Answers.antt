-- The lengths of the objects.
use Rattle.branch_rows.proofs.Computed.{maps}
use Rattle.branch_rows.proofs.laws.writes_maps.Goals as goal

pub returns : goal.returns
returns c = maps
