use Rattle.mrdt_set.proofs.members.merge_right.Goals as goal

pub returns-clause-here : goal.returns-clause-here
returns-clause-here c = rw (c.times_along-old.ensures.times, c.times.ensures, c.element-element.ensures, c.own.ensures) at c.merged_at.ensures.here

pub returns-clause-others : goal.returns-clause-others
returns-clause-others c = rw c.own.ensures at c.merged_at.ensures.others
