-- The value of a commit stands for what is visible there.
use Rattle.store_seen.proofs.Visibles.{past-stands, past-spelled}
use Rattle.store_seen.proofs.versions.Versions.value_at.Goals as goal

pub returns-clause-stands : goal.returns-clause-stands
returns-clause-stands g c =
    let laws = (g.met.T.Mrdt g.world.𝓛 g.world.𝓜 g.world.𝓡 ((λ s x. x), (λ x. x), (λ x. x), λ x. x)).laws in
    let there = rw (← c.self.view_is) at c.requires.there in
    rw (← c.self.view_is) (past-stands g.T.Mrdt.meaning laws _ _ _ _ _ _ c.self.invariant c.args.commit there c.lent.result.now c.lent.ensures)

pub returns-clause-spelling : goal.returns-clause-spelling
returns-clause-spelling g c =
    let laws = (g.met.T.Mrdt g.world.𝓛 g.world.𝓜 g.world.𝓡 ((λ s x. x), (λ x. x), (λ x. x), λ x. x)).laws in
    let there = rw (← c.self.view_is) at c.requires.there in
    rw (← c.self.view_is) (past-spelled g.T.Mrdt.meaning laws _ _ _ _ _ _ c.self.invariant c.args.commit there c.lent.result.now c.lent.ensures)
