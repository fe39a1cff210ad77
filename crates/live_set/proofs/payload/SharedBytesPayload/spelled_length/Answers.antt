use Rattle.std.proofs.Common.{ap, length, arith}
use Rattle.branch_wire.proofs.Numbers.{length-field}
use Rattle.live_set.proofs.payload.SharedBytesPayload.spelled_length.Goals as goal

pub returns : goal.returns
returns c = omega (arith, ap length c.as_slice.ensures.bytes, ap length c.get.ensures, c.saturating_add.ensures, length-field c.args.self.now)
