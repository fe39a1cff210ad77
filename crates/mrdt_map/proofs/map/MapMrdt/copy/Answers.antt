use Rattle.std.proofs.Common.{◌∙◌, ap, sym, subst}
use Rattle.mrdt_map.specs.Keyed.{StandsByKey, entries_spelling}
use Rattle.mrdt_map.proofs.map.MapMrdt.copy.Goals as goal

pub returns-clause-stands : goal.returns-clause-stands
returns-clause-stands g c x l is = subst (λ es. StandsByKey g.T.Mrdt.meaning.stands es x) (sym (c.in_ok-copy.ensures ∙ c.self.view_is)) is

pub returns-clause-spelling : goal.returns-clause-spelling
returns-clause-spelling g c = ap (entries_spelling g.T.Mrdt.meaning.state_spelling) (c.in_ok-copy.ensures ∙ c.self.view_is)
