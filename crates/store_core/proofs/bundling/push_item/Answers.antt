-- Each commit has an item.
use Rattle.std.proofs.Common.{◌∙◌, ap, sym}
use Rattle.branch_machine.specs.Fixed.{fix}
use Rattle.recorded_history.specs.Items.{lent_item}
use Rattle.store_core.proofs.Bundled.{item-there}
use Rattle.store_core.proofs.bundling.push_item.Goals as goal

pub unreachable-requires : goal.unreachable-requires
unreachable-requires g c =
    let r = c.args.recorded.now in
    item-there (fix g.T.Mrdt.meaning r.terms g.A.Address.address) r.written c.args.commit c.requires.there (ap lent_item (sym c.in_default.is) ∙ c.item.ensures)
