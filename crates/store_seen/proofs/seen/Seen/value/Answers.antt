-- The value stands for what is visible at the head.
use Rattle.store_seen.proofs.Looks.{value-spelled}
use Rattle.store_seen.proofs.seen.Seen.value.Goals as goal

pub returns-clause-spelling : goal.returns-clause-spelling
returns-clause-spelling g c =
    let laws = (g.met.T.Mrdt g.world.𝓛 g.world.𝓜 g.world.𝓡 ((λ s x. x), (λ x. x), (λ x. x), λ x. x)).laws in
    rw (← c.self.view_is) (value-spelled g.T.Mrdt.meaning laws _ c.self.invariant.look c.self.inside.clock _ c.self.invariant.node c.deref.result.now c.deref.ensures)
