-- The second object of the move collides.
use Rattle.branch_rows.proofs.Computed.{two_commits}
use Rattle.branch_rows.proofs.laws.refuses_two_commits.Goals as goal

pub returns : goal.returns
returns c = two_commits
