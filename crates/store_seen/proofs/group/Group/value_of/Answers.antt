-- The commits are those of the nodes.
use Rattle.std.proofs.Common.{◌≡◌, length, ap, ◌∙◌}
use Rattle.branch_history.specs.History.{store_of}
use Rattle.branch_history.proofs.Grown.{length-graph}
use Rattle.store_seen.proofs.Groups.{parents-there}
use Rattle.store_seen.proofs.group.Group.value_of.Goals as goal

pub value_at_all-requires-after_bounds : goal.value_at_all-requires-after_bounds
value_at_all-requires-after_bounds g c κs within =
    let laws = (g.met.T.Mrdt g.world.𝓛 g.world.𝓜 g.world.𝓡 ((λ s x. x), (λ x. x), (λ x. x), λ x. x)).laws in
    let now = c.args.self.now in
    let seen = c.self.inside.seen in
    let head = c.head-head.ensures in
    let size : length c.deref-2.result.now.graph.commits ≡ length (store_of now.terms.origin now.history).commits =
    ap (λ n. length n.graph.commits) c.deref-2.ensures ∙ ap length c.self.invariant.nodes_are.parents ∙ length-graph (store_of seen.terms.origin seen.history).commits ∙ ap (λ v. length (store_of v.terms.origin v.history).commits) c.self.view_is in
    parents-there g.T.Mrdt.meaning laws now head.seen head.there c.args.brought.now c.deref-3.result.now c.head-head.result (length c.deref-2.result.now.graph.commits)
    (c.deref-3.ensures.value ∙ c.in_ok-parents.ensures) head.head c.requires size
