-- The join is the work of the group.
use Rattle.std.proofs.Common.{ap, ◌∙◌}
use Rattle.store_seen.specs.Groups.{look_of}
use Rattle.store_seen.proofs.Groups.{join-work}
use Rattle.store_seen.proofs.group.Group.prepare_join.Goals as goal

pub returns-clause-step : goal.returns-clause-step
returns-clause-step g c =
    let laws = (g.met.T.Mrdt g.world.𝓛 g.world.𝓜 g.world.𝓡 ((λ s x. x), (λ x. x), (λ x. x), λ x. x)).laws in
    let head = c.head-head.ensures in
    let work = join-work g.T.Mrdt.meaning laws c.args.self.now head.seen head.there c.args.brought.items c.requires.brought c.requires.several c.in_ok-ready.ready c.in_ok-ready.ensures.ready in
    (c.of.ensures ∙ ap look_of c.self.view_is, work.0, work.1)
