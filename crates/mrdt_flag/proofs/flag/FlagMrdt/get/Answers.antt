use Rattle.std.proofs.Common.{◌∙◌, subst, sym}
use Rattle.live_set.specs.Payloads.{IsNothing}
use Rattle.live_set.specs.Spelling.{AreLive}
use Rattle.mrdt_flag.specs.FlagLaws.{enables-live}
use Rattle.mrdt_flag.proofs.flag.FlagMrdt.get.Goals as goal

pub returns-clause-stands : goal.returns-clause-stands
returns-clause-stands c other spelled x lawful is = c.in_ok-get.ensures.equal other (subst (AreLive IsNothing) (sym is) (enables-live x lawful)) spelled ∙ is
