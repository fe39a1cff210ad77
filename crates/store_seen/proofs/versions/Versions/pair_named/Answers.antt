-- The look of before, and the head of now.
use Rattle.std.proofs.Common.{◌<◌, length, refl, subst}
use Rattle.branch_history.specs.History.{store_of}
use Rattle.store_seen.proofs.Cores.{look-refused, head-there, head-sees}
use Rattle.store_seen.proofs.versions.Versions.pair_named.Goals as goal

pub returns-in_default-clause-refused : goal.returns-in_default-clause-refused
returns-in_default-clause-refused g c =
    let laws = (g.met.T.Mrdt g.world.𝓛 g.world.𝓜 g.world.𝓡 ((λ s x. x), (λ x. x), (λ x. x), λ x. x)).laws in
    (refl, rw (← c.self.view_is) (look-refused g.T.Mrdt.meaning laws c.self.inside.terms c.self.inside.moves.items c.self.inside.heads c.self.inside.nodes.graph c.self.inside.clocks.items c.self.inside.nodes.values c.self.invariant c.args.from.now c.in_default.ensures.number))

pub pair_at-requires-clause-there : goal.pair_at-requires-clause-there
pair_at-requires-clause-there g c κs within =
    let laws = (g.met.T.Mrdt g.world.𝓛 g.world.𝓜 g.world.𝓡 ((λ s x. x), (λ x. x), (λ x. x), λ x. x)).laws in
    let there = head-there g.T.Mrdt.meaning laws c.self.inside.terms c.self.inside.moves.items c.self.inside.heads c.self.inside.nodes.graph c.self.inside.clocks.items c.self.inside.nodes.values c.self.invariant c.in-Some.source c.head-other.result c.in-Some.ensures.kept.0 c.head-other.ensures in
    subst (λ v. c.head-other.result < length (store_of v.core.terms.origin v.core.history).commits) c.self.view_is there

pub returns-clause-paired : goal.returns-clause-paired
returns-clause-paired g c =
    let laws = (g.met.T.Mrdt g.world.𝓛 g.world.𝓜 g.world.𝓡 ((λ s x. x), (λ x. x), (λ x. x), λ x. x)).laws in
    rw c.in_ok-pair_at.ensures (record {
      look = refl;
      source = c.in-Some.source;
      other = rw (← c.self.view_is) (head-sees g.T.Mrdt.meaning laws c.self.inside.terms c.self.inside.moves.items c.self.inside.heads c.self.inside.nodes.graph c.self.inside.clocks.items c.self.inside.nodes.values c.self.invariant c.in-Some.source c.head-other.result c.in-Some.ensures.kept.0 c.head-other.ensures c.args.from.now c.in-Some.ensures.number);
    })
