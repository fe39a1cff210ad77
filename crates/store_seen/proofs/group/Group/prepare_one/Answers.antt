-- The pair with the one commit that is brought.
use Rattle.std.proofs.Common.{subst, IfOk, IfErr}
use Rattle.store_seen.specs.Pairs.{IsStepOf, MergeRefusedAs}
use Rattle.store_seen.proofs.Groups.{one-given, one-step, one-refused}
use Rattle.store_seen.proofs.group.Group.prepare_one.Goals as goal

pub pair_of-requires-after_bounds : goal.pair_of-requires-after_bounds
pair_of-requires-after_bounds g c κs within =
    let laws = (g.met.T.Mrdt g.world.𝓛 g.world.𝓜 g.world.𝓡 ((λ s x. x), (λ x. x), (λ x. x), λ x. x)).laws in
    let head = c.head-head.ensures in
    one-given g.T.Mrdt.meaning laws c.args.self.now head.seen head.there c.args.commit c.requires

pub returns-clause-step : goal.returns-clause-step
returns-clause-step g c =
    let laws = (g.met.T.Mrdt g.world.𝓛 g.world.𝓜 g.world.𝓡 ((λ s x. x), (λ x. x), (λ x. x), λ x. x)).laws in
    let m = g.T.Mrdt.meaning in
    let head = c.head-head.ensures in
    one-step m laws c.args.self.now head.seen head.there c.args.commit c.requires c.prepare.result (subst (λ p. IfOk c.prepare.result (IsStepOf m p)) c.pair_of.ensures c.prepare.ensures.step)

pub returns-clause-refused : goal.returns-clause-refused
returns-clause-refused g c =
    let laws = (g.met.T.Mrdt g.world.𝓛 g.world.𝓜 g.world.𝓡 ((λ s x. x), (λ x. x), (λ x. x), λ x. x)).laws in
    let m = g.T.Mrdt.meaning in
    let head = c.head-head.ensures in
    one-refused m laws c.args.self.now head.seen head.there c.args.commit c.requires c.prepare.result (subst (λ p. IfErr c.prepare.result (MergeRefusedAs m p)) c.pair_of.ensures c.prepare.ensures.refused)
