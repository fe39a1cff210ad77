use Rattle.branch_doc.specs.declared.plain.Kind.TheVariants as kind
use Rattle.mrdt_wide.specs.Elsewhere.{query-elsewhere}
use Rattle.mrdt_wide.proofs.forms.query_of.Goals as goal

pub returns-in_default : goal.returns-in_default
returns-in_default c = cc (query-elsewhere c.args.plain c.in_default.not-SequenceRead c.in_default.not-SequenceLength (c.in_default.not-Keys kind.Sequence))
