use Rattle.std.proofs.Common.{ap, sym}
use Rattle.mrdt_model.specs.Spelled.{capped}
use Rattle.branch_wire.proofs.Numbers.{length-wide_signed_number}
use Rattle.mrdt_counter.proofs.sum.SumMrdt.spelled_length.Goals as goal

pub returns : goal.returns
returns c = ap capped (sym (length-wide_signed_number c.args.self.now))
