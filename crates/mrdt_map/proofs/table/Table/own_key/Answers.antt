use Rattle.std.proofs.Common.{◌∙◌}
use Rattle.std.proofs.lemmas.Result.{IfOk-equal}
use Rattle.mrdt_map.proofs.table.Table.own_key.Goals as goal

pub returns-in-Some : goal.returns-in-Some
returns-in-Some g c = rw (← c.in-Some.ensures.1, ← c.key.ensures) c.copy.ensures

pub returns-in_ok-copy-in-None : goal.returns-in_ok-copy-in-None
returns-in_ok-copy-in-None g c = rw (← c.in_ok-copy-in-None.ensures) c.new.ensures
