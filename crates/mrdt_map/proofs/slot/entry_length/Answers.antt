use Rattle.std.proofs.Common.{length, ap, arith, length-append}
use Rattle.branch_wire.specs.Fields.{field}
use Rattle.branch_wire.proofs.Numbers.{length-field}
use Rattle.mrdt_map.proofs.slot.entry_length.Goals as goal

pub returns : goal.returns
returns g c =
    let spelling = g.T.Inner.meaning.state_spelling in
    let key = c.args.key.now in
    let own = spelling c.args.value.now in
    let same = ap (λ v. length (spelling v)) c.get-own.ensures in
    let name = ap length c.as_slice.ensures.bytes in
    let named = ap length c.get-name.ensures in
    let both = length-append (field key) (field own) in
    omega (arith, same, name, named, both, length-field key, length-field own, c.size.ensures, c.saturating_add.ensures, c.saturating_add-2.ensures)
