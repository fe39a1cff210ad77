use Rattle.mrdt_map.proofs.map.MapMrdt.same.Goals as goal

pub returns-clause-same : goal.returns-clause-same
returns-clause-same g c = rw (← c.self.view_is, ← c.other.view_is) c.are_same.ensures.same

pub returns-clause-spelled : goal.returns-clause-spelled
returns-clause-spelled g c = rw (← c.self.view_is, ← c.other.view_is) (λ short alike. c.are_same.ensures.same.0 (c.are_same.ensures.spelled short alike))
