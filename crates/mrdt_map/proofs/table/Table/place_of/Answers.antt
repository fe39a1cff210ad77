use Rattle.mrdt_map.proofs.table.Table.place_of.Goals as goal

pub returns : goal.returns
returns g c = rw (← c.self.view_is, ← c.as_slice.ensures.bytes) c.place_of.ensures
