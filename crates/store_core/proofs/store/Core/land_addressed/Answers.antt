-- The move waits; then the history has it, or the files may have it.
use Rattle.branch_disk.specs.Moments.{now_too}
use Rattle.store_core.proofs.Landings.{waits_so, moves_so, leaves_so, moments_so, valid_so, exactly_so, torn_so}
use Rattle.store_core.proofs.store.Core.land_addressed.Goals as goal

pub put-requires-clause-waits : goal.put-requires-clause-waits
put-requires-clause-waits g c = λ _ _. waits_so g.T.Mrdt.meaning g.A.Address.address c.self.inside.recorded _ _ _ _ _ _ c.in_ok-made.ensures.made

pub returns-clause-landed : goal.returns-clause-landed
returns-clause-landed g c =
    moves_so g.T.Mrdt.meaning g.A.Address.address c.self.inside.recorded _ _ _ _ _ _ c.in_ok-made.ensures.made _ _ _ _ c.self.view_is
    c.if-self.false _ c.in-Ok.ensures.settled c.in-Ok.ensures.few _ _ c.in-Ok.ensures.whole

pub returns-in_default-clause-fault_leaves : goal.returns-in_default-clause-fault_leaves
returns-in_default-clause-fault_leaves g c = λ fault f image.
    let d = g.D.Disk in let laws = g.met.D.Disk in
    leaves_so g.T.Mrdt.meaning g.A.Address.address c.self.inside.recorded _ _ _ _ _ _ c.in_ok-made.ensures.made _ _ _ _ c.self.view_is
    f (now_too d.moment d.left_since d.may_leave laws.counts_now _ _ _ c.put.ensures.any_moment f image)

pub returns-in_default-clause-fault_valid : goal.returns-in_default-clause-fault_valid
returns-in_default-clause-fault_valid g c = λ fault.
    valid_so g.T.Mrdt.meaning g.A.Address.address c.self.inside.recorded _ _ _ _ _ _ c.in_ok-made.ensures.made _ _ _ _ c.self.view_is c.put.ensures.valid

pub returns-clause-exact : goal.returns-clause-exact
returns-clause-exact g c =
    exactly_so g.T.Mrdt.meaning g.A.Address.address c.self.inside.recorded _ _ _ _ _ _ c.in_ok-made.ensures.made _ _ _ _ c.self.view_is
    g.D.Disk.contents _ _ c.in-Ok.ensures.settled c.in-Ok.ensures.exact

pub returns-in_default-clause-torn : goal.returns-in_default-clause-torn
returns-in_default-clause-torn g c = λ fault.
    torn_so g.T.Mrdt.meaning g.A.Address.address c.self.inside.recorded _ _ _ _ _ _ c.in_ok-made.ensures.made _ _ _ _ c.self.view_is g.D.Disk.contents _ c.put.ensures.torn

pub returns-in_default-clause-any_moment : goal.returns-in_default-clause-any_moment
returns-in_default-clause-any_moment g c = λ worked.
    let d = g.D.Disk in
    moments_so g.T.Mrdt.meaning g.A.Address.address c.self.inside.recorded _ _ _ _ _ _ c.in_ok-made.ensures.made _ _ _ _ c.self.view_is d.moment d.left_since _ c.put.ensures.any_moment

pub returns-clause-any_moment : goal.returns-clause-any_moment
returns-clause-any_moment g c = λ worked.
    let d = g.D.Disk in
    moments_so g.T.Mrdt.meaning g.A.Address.address c.self.inside.recorded _ _ _ _ _ _ c.in_ok-made.ensures.made _ _ _ _ c.self.view_is d.moment d.left_since _ c.put.ensures.any_moment
