use Rattle.mrdt_map.proofs.tables.answer_on.Goals as goal

pub returns : goal.returns
returns g c = rw (← c.get-value.ensures) c.answer_at.ensures
