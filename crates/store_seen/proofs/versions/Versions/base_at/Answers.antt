-- The nodes are those of the history.
use Rattle.store_seen.proofs.Cores.{core-nodes}
use Rattle.store_seen.proofs.Pairs.{base-at}
use Rattle.store_seen.proofs.versions.Versions.base_at.Goals as goal

pub returns-clause-base : goal.returns-clause-base
returns-clause-base g c =
    let laws = (g.met.T.Mrdt g.world.𝓛 g.world.𝓜 g.world.𝓡 ((λ s x. x), (λ x. x), (λ x. x), λ x. x)).laws in
    let m = g.T.Mrdt.meaning in
    let inside = c.self.inside in
    let are = core-nodes m laws inside.terms inside.moves.items inside.heads inside.nodes.graph inside.clocks.items inside.nodes.values c.self.invariant inside.nodes.addresses in
    rw (← c.self.view_is) (base-at m inside.terms inside.moves.items c.self.invariant.valid inside.nodes are c.args.left c.args.right c.in_ok-base.base c.in_ok-base.ensures.folded)
