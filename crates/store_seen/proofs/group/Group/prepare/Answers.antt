-- From nothing that is brought nothing is made.
use Rattle.std.proofs.Common.{◌<◌, length, ◌∙◌, arith}
use Rattle.store_seen.proofs.Groups.{same-from_on}
use Rattle.store_seen.proofs.group.Group.prepare.Goals as goal

pub returns-in-empty-clause-step : goal.returns-in-empty-clause-step
returns-in-empty-clause-step g c =
    let laws = (g.met.T.Mrdt g.world.𝓛 g.world.𝓜 g.world.𝓡 ((λ s x. x), (λ x. x), (λ x. x), λ x. x)).laws in
    let none : length c.as_slice.result.now < 1 = omega arith in
    same-from_on g.T.Mrdt.meaning laws c.args.self.now c.brought.ensures.seen c.brought.ensures.there c.as_slice.result.now (c.as_slice.ensures.value ∙ c.in_ok-brought.ensures.brought) none
