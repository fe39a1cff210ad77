use Rattle.mrdt_wide.specs.Elsewhere.{keys-elsewhere}
use Rattle.mrdt_wide.proofs.forms.keys_of.Goals as goal

pub returns-in_default : goal.returns-in_default
returns-in_default c = cc (keys-elsewhere c.args.kind c.in_default.not-Sequence)
