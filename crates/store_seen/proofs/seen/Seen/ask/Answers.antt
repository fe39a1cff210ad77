-- The answer is that of what is visible at the head, which stays.
use Rattle.store_seen.proofs.Looks.{asked-later}
use Rattle.store_seen.proofs.seen.Seen.ask.Goals as goal

pub returns : goal.returns
returns g c =
    let laws = (g.met.T.Mrdt g.world.𝓛 g.world.𝓜 g.world.𝓡 ((λ s x. x), (λ x. x), (λ x. x), λ x. x)).laws in
    rw (← c.self.view_is) (asked-later g.T.Mrdt.meaning laws _ c.self.invariant.look c.self.inside.clock _ c.self.invariant.node c.deref.result.now c.deref.ensures c.args.query.now c.answer.result c.answer.ensures)
