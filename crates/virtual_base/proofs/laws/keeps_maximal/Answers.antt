-- The list in reverse is what is kept of the numbers of all commits.
use Rattle.virtual_base.proofs.Rising.{kept-maximal}
use Rattle.virtual_base.proofs.laws.keeps_maximal.Goals as goal

pub returns : goal.returns
returns c = kept-maximal
