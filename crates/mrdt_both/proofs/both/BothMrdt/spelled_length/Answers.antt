use Rattle.std.proofs.Common.{length, ap, arith, length-append}
use Rattle.branch_wire.specs.Fields.{field}
use Rattle.branch_wire.proofs.Numbers.{length-field}
use Rattle.mrdt_both.proofs.both.BothMrdt.spelled_length.Goals as goal

pub returns : goal.returns
returns g c =
    let first = g.A.Mrdt.meaning.state_spelling c.self.inside.first in
    let second = g.B.Mrdt.meaning.state_spelling c.self.inside.second in
    let same_first = ap (λ v. length (g.A.Mrdt.meaning.state_spelling v)) c.get.ensures in
    let same_second = ap (λ v. length (g.B.Mrdt.meaning.state_spelling v)) c.get-2.ensures in
    let both = length-append (field first) second in
    rw (← c.self.view_is) (omega (arith, same_first, same_second, both, length-field first, c.spelled_length-first.ensures, c.spelled_length-second.ensures, c.saturating_add.ensures, c.saturating_add-2.ensures))
