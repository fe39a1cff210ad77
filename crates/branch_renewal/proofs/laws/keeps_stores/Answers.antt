-- The store of a renewed history, move by move.
use Rattle.branch_renewal.proofs.Stores.{store-renewed}
use Rattle.branch_renewal.proofs.laws.keeps_stores.Goals as goal

pub returns : goal.returns
returns g c = λ f origin moves. store-renewed f origin moves
