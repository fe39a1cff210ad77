-- The values of the two commits, over that of their base.
use Rattle.std.proofs.Common.{sym, subst}
use Rattle.std.specs.Arc.{arc_value}
use Rattle.branch_history.specs.History.{store_of}
use Rattle.store_seen.specs.Keeps.{IsLook}
use Rattle.store_seen.specs.Pairs.{IsBaseAt}
use Rattle.store_seen.proofs.Pairs.{merged-stands}
use Rattle.store_seen.proofs.pair.Pair.merged_value.Goals as goal

pub returns : goal.returns
returns g c =
    let laws = (g.met.T.Mrdt g.world.𝓛 g.world.𝓜 g.world.𝓡 ((λ s x. x), (λ x. x), (λ x. x), λ x. x)).laws in
    let m = g.T.Mrdt.meaning in
    let seen = c.self.inside.seen in
    let inner = c.seen.inside in
    let look = subst (λ v. IsLook m v inner.moves inner.clock (arc_value inner.value)) c.seen.view_is c.seen.invariant in
    let base = subst (λ v. IsBaseAt m (store_of v.terms.origin v.history).commits v.head v.other c.args.base.now) (sym c.self.view_is) c.requires in
    let right = rw c.deref.ensures at c.value-right.ensures.folded in
    let merges = rw c.deref-2.ensures at c.in_ok-value.ensures in
    rw (← c.self.view_is)
    (merged-stands m laws seen look.look c.self.inside.other c.self.invariant.there c.merges_lists.ensures c.sees_alone.ensures (arc_value c.self.inside.nodes) c.self.invariant.nodes_are c.args.base.now (arc_value inner.value) c.value-right.result.now c.in_ok-value.value base look.node.stands right merges)
