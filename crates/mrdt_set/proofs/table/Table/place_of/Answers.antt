use Rattle.mrdt_set.proofs.table.Table.place_of.Goals as goal

pub returns : goal.returns
returns c = rw (← c.self.view_is) c.place_of.ensures
