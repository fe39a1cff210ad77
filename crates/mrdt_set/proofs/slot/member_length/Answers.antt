use Rattle.std.proofs.Common.{length, ap, arith, length-append}
use Rattle.branch_wire.specs.Fields.{field}
use Rattle.branch_wire.proofs.Numbers.{length-field}
use Rattle.live_set.specs.Payloads.{nothing_spelling}
use Rattle.live_set.specs.Spelling.{live_spelling}
use Rattle.mrdt_set.proofs.slot.member_length.Goals as goal

pub returns : goal.returns
returns c =
    let element = c.args.element.now in
    let times = c.args.times.now in
    let name = ap length c.as_slice.ensures.bytes in
    let named = ap length c.get-name.ensures in
    let both = length-append (field element) (live_spelling nothing_spelling times) in
    omega (arith, name, named, both, length-field element, c.spelled_length-length.ensures, c.saturating_add.ensures, c.saturating_add-2.ensures)
