-- The nodes are those of the history.
use Rattle.store_seen.proofs.Cores.{core-nodes}
use Rattle.store_seen.proofs.versions.Versions.merged_at.Goals as goal

pub returns-clause-value : goal.returns-clause-value
returns-clause-value g c =
    let laws = (g.met.T.Mrdt g.world.𝓛 g.world.𝓜 g.world.𝓡 ((λ s x. x), (λ x. x), (λ x. x), λ x. x)).laws in
    let inside = c.self.inside in
    let are = core-nodes g.T.Mrdt.meaning laws inside.terms inside.moves.items inside.heads inside.nodes.graph inside.clocks.items inside.nodes.values c.self.invariant inside.nodes.addresses in
    rw (← c.self.view_is) (c.in_ok-value.ensures.folded.stands inside.terms inside.moves.items c.self.invariant.valid are)
