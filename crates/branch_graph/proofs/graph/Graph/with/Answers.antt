use Rattle.std.proofs.Common.{◌<◌, length, arith}
use Rattle.branch_graph.proofs.Ranked.{IsWithin-append}
use Rattle.branch_graph.proofs.graph.Graph.with.Goals as goal

pub invariant_of-result : goal.invariant_of-result
invariant_of-result g c =
    let below = rw (← c.self.view_is) at c.requires in
    let count = rw (← c.self.view_is) at c.count-count.ensures.count in
    let room : length c.self.inside.commits < c.self.inside.limit = let left = c.if-self-count.false in omega (arith, count) in
    rw (c.in_ok-commits.ensures.longer, c.in_ok-parents.ensures) (IsWithin-append c.self.inside.limit c.self.inside.commits c.args.parents.now c.self.invariant room below)
