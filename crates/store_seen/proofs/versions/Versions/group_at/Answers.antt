-- The look of before, and its pairs with commits of now.
use Rattle.std.proofs.Common.{length, map, sym, subst, arith}
use Rattle.std.specs.Arc.{arc_value}
use Rattle.branch_history.specs.History.{store_of}
use Rattle.virtual_base.specs.Nodes.{AreNodesOf}
use Rattle.store_seen.specs.Keeps.{IsGroup}
use Rattle.store_seen.specs.Pairs.{paired_at}
use Rattle.store_seen.proofs.Cores.{core-nodes}
use Rattle.store_seen.proofs.Groups.{looks-paired, there-paired, length-paired, group-view}
use Rattle.store_seen.proofs.versions.Versions.group_at.Goals as goal

pub invariant_of-result : goal.invariant_of-result
invariant_of-result g c =
    let laws = (g.met.T.Mrdt g.world.𝓛 g.world.𝓜 g.world.𝓡 ((λ s x. x), (λ x. x), (λ x. x), λ x. x)).laws in
    let m = g.T.Mrdt.meaning in
    let core = c.args.self.now.core in
    let seen = c.args.seen.now in
    let others = c.args.others.now in
    let are = core-nodes m laws c.self.inside.terms c.self.inside.moves.items c.self.inside.heads c.self.inside.nodes.graph c.self.inside.clocks.items c.self.inside.nodes.values c.self.invariant c.self.inside.nodes.addresses in
    let size = length-paired core seen others in
    let some = c.requires.some in
    let few = c.requires.few in
    subst (λ l. IsGroup m c.in_ok-seen.seen l (arc_value c.in_ok-nodes.nodes)) (sym c.in_ok-pairs.ensures)
    (subst (λ s. IsGroup m s (map (paired_at core seen) others) (arc_value c.in_ok-nodes.nodes)) (sym c.in_ok-seen.ensures)
    (record {
      looks = looks-paired core seen others;
      there = there-paired core seen others (length (store_of core.terms.origin core.history).commits) c.requires.there;
      some = omega (arith, size, some);
      few = omega (arith, size, few);
      nodes_are = subst (λ n. AreNodesOf m (store_of core.terms.origin core.history).commits n) (sym c.in_ok-nodes.ensures) (subst (λ v. AreNodesOf m (store_of v.core.terms.origin v.core.history).commits c.self.inside.nodes) c.self.view_is are);
    }))

pub returns : goal.returns
returns g c = group-view c.args.self.now.core c.args.seen.now c.in_ok-seen.seen c.in_ok-pairs.pairs.items c.args.others.now c.in_ok-seen.ensures c.in_ok-pairs.ensures
