-- One commit more for each address.
use Rattle.std.proofs.Common.{◌≡◌, ◌+◌, take, sym, subst}
use Rattle.branch_machine.specs.Fixed.{fix}
use Rattle.recorded_history.specs.Asks.{HaveAddresses}
use Rattle.recorded_history.proofs.Sought.{known-next, known-missing}
use Rattle.recorded_history.proofs.arriving.parents_of.Goals as goal

pub returns-in_default-clause-none : goal.returns-in_default-clause-none
returns-in_default-clause-none g c = λ _ commits have.
    let v = c.args.versions.now in
    let fixed = fix g.T.Mrdt.meaning v.core.terms g.A.Address.address in
    known-missing fixed v.core.history v.addresses c.requires.addressed c.args.addresses.now c.loop-address.address-index _ c.loop-address-test.true c.commit_at.result c.commit_at.ensures c.in_default.is commits have

pub loop-address-preserved : goal.loop-address-preserved
loop-address-preserved g c =
    let v = c.args.versions.now in
    let fixed = fix g.T.Mrdt.meaning v.core.terms g.A.Address.address in
    let addresses = c.args.addresses.now in
    let i = c.loop-address.address-index in
    subst (HaveAddresses fixed v.core.history (take (i + 1) addresses)) (sym c.in_ok-push.ensures.items)
    (known-next fixed v.core.history v.addresses c.requires.addressed addresses i _ c.loop-address-test.true c.commit_at.result c.commit_at.ensures c.loop-address.parents.items c.in-Some.parent c.loop-address.invariant c.in-Some.is)
