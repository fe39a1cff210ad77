-- What was played stays played.
use Rattle.parallel_clients.proofs.Grown.{played-later}
use Rattle.parallel_clients.proofs.laws.stays_played.Goals as goal

pub returns : goal.returns
returns g c origin moves later begun steps places grows is = played-later g.T.Forms.forms origin moves later grows begun steps places is
