use Rattle.std.proofs.Common.{◌∙◌, ap}
use Rattle.mrdt_set.specs.Members.{set_spelling}
use Rattle.mrdt_set.proofs.set.SetMrdt.copy.Goals as goal

pub returns-clause-stands : goal.returns-clause-stands
returns-clause-stands c x lawful is = c.in_ok-copy.ensures ∙ c.self.view_is ∙ is

pub returns-clause-spelling : goal.returns-clause-spelling
returns-clause-spelling c = ap set_spelling (c.in_ok-copy.ensures ∙ c.self.view_is)
