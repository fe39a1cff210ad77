use Rattle.mrdt_map.proofs.table.Table.slot_at.Goals as goal

pub slot_at-requires-clause-place : goal.slot_at-requires-clause-place
slot_at-requires-clause-place g c = rw (c.self.view_is, c.as_slice.ensures.bytes) c.requires

pub returns : goal.returns
returns g c = rw (← c.self.view_is, ← c.as_slice.ensures.bytes) c.slot_at.ensures
