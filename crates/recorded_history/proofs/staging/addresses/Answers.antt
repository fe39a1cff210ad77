-- One address more for each commit.
use Rattle.std.proofs.Common.{◌∙◌, arith}
use Rattle.recorded_history.proofs.Joined.{next-address, all-addresses}
use Rattle.recorded_history.proofs.staging.addresses.Goals as goal

pub loop-other-preserved : goal.loop-other-preserved
loop-other-preserved g c =
    c.in_ok-push_address-2.ensures.ok
    ∙ next-address c.args.versions.now.addresses c.args.head c.args.others.now c.loop-other.found.items c.loop-other.other-index c.loop-other.invariant c.address-in-loop-other.result.now c.loop-other-test.true c.address-in-loop-other.ensures.address

pub returns : goal.returns
returns g c = all-addresses c.args.versions.now.addresses c.args.head c.args.others.now c.loop-other.found.items c.loop-other.other-index c.loop-other.invariant (omega (arith, c.loop-other-test.false))
