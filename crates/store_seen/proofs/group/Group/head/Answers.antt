-- What the look and the pairs keep.
use Rattle.std.proofs.Common.{◌<◌, length, All, subst}
use Rattle.std.specs.Arc.{arc_value}
use Rattle.branch_history.specs.History.{store_of}
use Rattle.store_seen.specs.Groups.{look_of}
use Rattle.store_seen.specs.Keeps.{IsSeen, IsLook}
use Rattle.store_seen.proofs.Groups.{others-there}
use Rattle.store_seen.proofs.group.Group.head.Goals as goal

pub returns-clause-seen : goal.returns-clause-seen
returns-clause-seen g c =
    let m = g.T.Mrdt.meaning in
    let inner = c.seen.inside in
    let look = subst (λ v. IsLook m v inner.moves inner.clock (arc_value inner.value)) c.seen.view_is c.seen.invariant in
    subst (λ v. IsSeen m (look_of v)) c.self.view_is look.look

pub returns-clause-there : goal.returns-clause-there
returns-clause-there g c =
    subst (λ v. All (λ n. n < length (store_of v.terms.origin v.history).commits) v.others) c.self.view_is (others-there c.self.inside.pairs.items (length (store_of c.self.inside.seen.terms.origin c.self.inside.seen.history).commits) c.self.invariant.there)
