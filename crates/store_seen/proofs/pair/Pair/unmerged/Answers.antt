-- How the two commits stand to each other, from now on.
use Rattle.std.proofs.Common.{◌≡◌, ◌∙◌, ap, sym, subst}
use Rattle.std.specs.Arc.{arc_value}
use Rattle.store_seen.specs.Keeps.{IsLook}
use Rattle.store_seen.proofs.Pairs.{same-from_on}
use Rattle.store_seen.proofs.pair.Pair.unmerged.Goals as goal

pub returns-then-branch-clause-step : goal.returns-then-branch-clause-step
returns-then-branch-clause-step g c =
    let laws = (g.met.T.Mrdt g.world.𝓛 g.world.𝓜 g.world.𝓡 ((λ s x. x), (λ x. x), (λ x. x), λ x. x)).laws in
    let m = g.T.Mrdt.meaning in
    let seen = c.self.inside.seen in
    let look = subst (λ v. IsLook m v c.seen.inside.moves c.seen.inside.clock (arc_value c.seen.inside.value)) c.seen.view_is c.seen.invariant in
    let head : c.seen.inside.head ≡ seen.head = ap (λ v. v.head) c.seen.view_is in
    let is = rw (c.deref.ensures, head, c.self.invariant.nodes_are.parents) at c.in_ok-reaches.ensures in
    rw (← c.self.view_is) (same-from_on m laws seen look.look c.self.inside.other c.self.invariant.there (sym is ∙ c.if-branch.true))
