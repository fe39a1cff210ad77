use Rattle.greatest_row.proofs.Standing.{row-at}
use Rattle.greatest_row.proofs.laws.rows_have_the_greatest.Goals as goal

pub returns : goal.returns
returns g c mark x place = row-at mark x place
