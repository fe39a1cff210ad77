use Rattle.mrdt_both.specs.SidesLaws.{merges}
use Rattle.mrdt_both.proofs.both.BothMrdt.merge.Goals as goal

pub returns : goal.returns
returns g c =
    let first = c.in_ok-merged in
    let second = c.in_ok-merged-2 in
    rw (← c.base.view_is, ← c.left.view_is, ← c.right.view_is)
    (merges g.A.Mrdt.meaning g.B.Mrdt.meaning (c.base.inside.first, c.base.inside.second) (c.left.inside.first, c.left.inside.second) (c.right.inside.first, c.right.inside.second) (first.field-0, second.field-0) first.ensures second.ensures)
