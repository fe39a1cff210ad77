use Rattle.std.proofs.Common.{◌∙◌}
use Rattle.mrdt_set.proofs.table.Table.own_element.Goals as goal

pub returns-in-Some : goal.returns-in-Some
returns-in-Some c = rw (← c.in-Some.ensures.1, ← c.own.ensures) c.copy.ensures

pub returns-in_ok-from_slice-in-None : goal.returns-in_ok-from_slice-in-None
returns-in_ok-from_slice-in-None c = rw (← c.in_ok-from_slice-in-None.ensures) c.new.ensures
