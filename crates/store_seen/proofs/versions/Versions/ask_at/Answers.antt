-- The answer is that of what is visible at the commit, which stays.
use Rattle.store_seen.proofs.Visibles.{past-asked}
use Rattle.store_seen.proofs.versions.Versions.ask_at.Goals as goal

pub returns : goal.returns
returns g c =
    let laws = (g.met.T.Mrdt g.world.𝓛 g.world.𝓜 g.world.𝓡 ((λ s x. x), (λ x. x), (λ x. x), λ x. x)).laws in
    let there = rw (← c.self.view_is) at c.requires.there in
    rw (← c.self.view_is) (past-asked g.T.Mrdt.meaning laws _ _ _ _ _ _ c.self.invariant c.args.commit there c.lent.result.now c.lent.ensures c.args.query.now c.answer.result c.answer.ensures)
