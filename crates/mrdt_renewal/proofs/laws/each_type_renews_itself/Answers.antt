use Rattle.mrdt_renewal.specs.Laws.{renews-itself}
use Rattle.mrdt_renewal.proofs.laws.each_type_renews_itself.Goals as goal

pub returns : goal.returns
returns g c = renews-itself g.T.Mrdt.meaning
