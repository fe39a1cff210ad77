use Rattle.std.proofs.Common.{Some, None, ◌∙◌, ap}
use Rattle.keyed_slots.proofs.Values.{value-found}
use Rattle.mrdt_map.proofs.table.Table.get.Goals as goal

pub returns-in-Some : goal.returns-in-Some
returns-in-Some g c = ap Some c.value.ensures ∙ value-found c.args.key.now c.args.self.now c.args.place (Some c.in-Some.slot.now) c.requires c.in-Some.ensures

pub returns-in-None : goal.returns-in-None
returns-in-None g c = value-found c.args.key.now c.args.self.now c.args.place None c.requires c.in-None.ensures
