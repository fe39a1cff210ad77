-- The list has the new numbers, and that of one behind the last.
use Rattle.std.proofs.Common.{◌≡◌, arith}
use Rattle.branch_compact.specs.Compact.{new_number}
use Rattle.branch_compact.specs.Marks.{is_marked}
use Rattle.branch_compact.proofs.Counted.{number-is}
use Rattle.branch_compact.proofs.kept.Kept.number.Goals as goal

pub returns : goal.returns
returns c =
    let is : c.index.result.now ≡ new_number (is_marked c.self.inside.marks.items) c.args.number =
    number-is c.self.inside.marks.items c.self.inside.numbers.items c.args.number c.min.result c.index.result.now c.self.invariant (omega (arith, c.min.ensures, c.len-last.ensures)) c.index.ensures in
    rw (← c.self.view_is) is
