use Rattle.std.proofs.Common.{◌∙◌, ap, reverse}
use Rattle.branch_graph.specs.Graph.{maximal_common}
use Rattle.branch_graph.proofs.graph.Graph.maximal_common_counted.Goals as goal

pub returns-clause-value : goal.returns-clause-value
unfolding maximal_common
returns-clause-value g c = c.from_vec.ensures ∙ c.reverse.ensures.items ∙ ap reverse c.in_ok-found.ensures.found
