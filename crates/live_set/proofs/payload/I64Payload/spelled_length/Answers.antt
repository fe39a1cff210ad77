use Rattle.std.proofs.Common.{ap, sym}
use Rattle.mrdt_model.specs.Spelled.{capped}
use Rattle.branch_wire.proofs.Numbers.{length-signed_number}
use Rattle.live_set.proofs.payload.I64Payload.spelled_length.Goals as goal

pub returns : goal.returns
returns c = ap capped (sym (length-signed_number c.args.self.now))
