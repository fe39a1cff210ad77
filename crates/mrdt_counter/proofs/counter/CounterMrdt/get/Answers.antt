use Rattle.std.proofs.Common.{◌∙◌, subst, sym}
use Rattle.live_set.specs.Payloads.{IsAmount}
use Rattle.live_set.specs.Spelling.{AreLive}
use Rattle.mrdt_counter.specs.CounterLaws.{adds-live}
use Rattle.mrdt_counter.proofs.counter.CounterMrdt.get.Goals as goal

pub returns-clause-stands : goal.returns-clause-stands
returns-clause-stands c other spelled x lawful is = c.in_ok-get.ensures.equal other (subst (AreLive IsAmount) (sym is) (adds-live x lawful)) spelled ∙ is
