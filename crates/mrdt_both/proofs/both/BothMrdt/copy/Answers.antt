use Rattle.mrdt_both.proofs.Products.{copies}
use Rattle.mrdt_both.proofs.both.BothMrdt.copy.Goals as goal

pub returns-clause-stands : goal.returns-clause-stands
returns-clause-stands g c =
    let first = c.in_ok-copied in
    let second = c.in_ok-copied-2 in
    rw (← c.self.view_is) (copies g.A.Mrdt.meaning g.B.Mrdt.meaning c.self.inside.first c.self.inside.second first.field-0 second.field-0 first.ensures.stands second.ensures.stands)
