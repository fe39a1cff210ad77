use Rattle.std.proofs.Common.{sym, arith}
use Rattle.branch_graph.specs.Graph.{reaches}
use Rattle.branch_graph.proofs.Reach.{reaches-at_most}
use Rattle.branch_graph.proofs.Turns.{false_from}
use Rattle.branch_graph.proofs.graph.Graph.reaches_counted.Goals as goal

pub returns-then-above-below-clause-value : goal.returns-then-above-below-clause-value
returns-then-above-below-clause-value g c =
    let above = c.if-above-below.true in
    rw (← c.self.view_is)
    (sym (false_from (reaches c.self.inside.commits c.args.above c.args.below)
    (λ is. let most = reaches-at_most c.self.inside.commits c.self.invariant.ranked c.args.above c.args.below is in absurd (omega (arith, most, above)))))
