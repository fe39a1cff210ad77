use Rattle.std.proofs.Common.{arith}
use Rattle.branch_wire.proofs.Lists.{length-counted}
use Rattle.mrdt_map.specs.Keyed.{entry_spelling}
use Rattle.mrdt_map.proofs.Writing.{sizes}
use Rattle.mrdt_map.proofs.tables.table_length.Goals as goal

pub returns : goal.returns
returns g c =
    let spelling = g.T.Inner.meaning.state_spelling in
    let entries = c.args.table.now in
    omega (arith, sizes spelling entries, length-counted (entry_spelling spelling) entries, c.size.ensures, c.saturating_add.ensures)
