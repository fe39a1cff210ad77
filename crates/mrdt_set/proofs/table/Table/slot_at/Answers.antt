use Rattle.mrdt_set.proofs.table.Table.slot_at.Goals as goal

pub slot_at-requires-clause-place : goal.slot_at-requires-clause-place
slot_at-requires-clause-place c = rw (c.self.view_is) c.requires

pub returns : goal.returns
returns c = rw (← c.self.view_is) c.slot_at.ensures
