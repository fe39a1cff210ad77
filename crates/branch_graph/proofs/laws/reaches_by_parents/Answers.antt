use Rattle.branch_graph.proofs.Reach.{reaches-step}
use Rattle.branch_graph.proofs.laws.reaches_by_parents.Goals as goal

pub returns : goal.returns
returns c = λ graph ranked n m. reaches-step graph ranked n m
