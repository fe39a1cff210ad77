use Rattle.greatest_row.proofs.Standing.{highest_of_events}
use Rattle.greatest_row.proofs.laws.highest_is_the_greatest.Goals as goal

pub returns : goal.returns
returns g c mark x = highest_of_events mark x
