use Rattle.std.proofs.Common.{rules, arith}
use Rattle.std.proofs.lemmas.Grind.{common_steps}
use Rattle.mrdt_model.specs.Times.{is_earlier}
use Rattle.mrdt_model.proofs.time.Time.is_before.Goals as goal

pub returns : goal.returns
unfolding is_earlier
returns c = grind (arith, common_steps, rules, c.lt.ensures)
