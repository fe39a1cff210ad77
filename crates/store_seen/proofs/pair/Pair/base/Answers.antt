-- The nodes are those of the history.
use Rattle.std.proofs.Common.{◌≡◌, ap, subst}
use Rattle.std.specs.Arc.{arc_value}
use Rattle.store_seen.specs.Keeps.{IsLook}
use Rattle.store_seen.proofs.Pairs.{base-at}
use Rattle.store_seen.proofs.pair.Pair.base.Goals as goal

pub returns : goal.returns
returns g c =
    let m = g.T.Mrdt.meaning in
    let seen = c.self.inside.seen in
    let look = subst (λ v. IsLook m v c.seen.inside.moves c.seen.inside.clock (arc_value c.seen.inside.value)) c.seen.view_is c.seen.invariant in
    let head : c.seen.inside.head ≡ seen.head = ap (λ v. v.head) c.seen.view_is in
    let folded = rw (c.deref.ensures, head) at c.in_ok-base.ensures.folded in
    rw (← c.self.view_is) (base-at m seen.terms seen.history look.look.valid (arc_value c.self.inside.nodes) c.self.invariant.nodes_are seen.head c.self.inside.other c.in_ok-base.base folded)
