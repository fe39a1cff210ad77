use Rattle.mrdt_map.proofs.map.MapMrdt.put.Goals as goal

pub returns-clause-err : goal.returns-clause-err
returns-clause-err g c = rw (← c.self.view_is) c.put_entries.ensures.err
