-- What renewed commits have, each read of one commit.
use Rattle.branch_renewal.proofs.Stores.{graph-renewed, clock-renewed, origin-renewed, visible-renewed}
use Rattle.branch_renewal.proofs.laws.keeps_commits.Goals as goal

pub returns : goal.returns
returns g c = λ f commits. record {
  graph = graph-renewed f commits;
  clock = clock-renewed f commits;
  origin = origin-renewed f commits;
  visible = visible-renewed f commits;
}
