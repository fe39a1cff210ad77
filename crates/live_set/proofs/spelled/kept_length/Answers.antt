use Rattle.std.proofs.Common.{arith, length-append}
use Rattle.branch_wire.specs.Fields.{time_field}
use Rattle.branch_wire.proofs.Numbers.{length-time_field}
use Rattle.live_set.proofs.spelled.kept_length.Goals as goal

pub returns : goal.returns
returns g c =
    let kept = c.args.kept.now in
    omega (arith, c.spelled_length.ensures, c.saturating_add.ensures, length-append (time_field kept.time) (g.V.Payload.spelling kept.payload), length-time_field kept.time)
