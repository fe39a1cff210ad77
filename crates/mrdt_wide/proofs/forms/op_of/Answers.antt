use Rattle.mrdt_wide.specs.Elsewhere.{op-elsewhere}
use Rattle.mrdt_wide.proofs.forms.op_of.Goals as goal

pub returns-in_default : goal.returns-in_default
returns-in_default c = cc (op-elsewhere c.args.plain c.in_default.not-SequenceInsert c.in_default.not-SequenceDelete)
