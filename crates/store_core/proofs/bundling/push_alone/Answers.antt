-- The next commit is sent, or it is not.
use Rattle.std.proofs.Common.{◌∙◌, sym}
use Rattle.branch_history.specs.History.{store_of}
use Rattle.branch_machine.specs.Fixed.{fix}
use Rattle.branch_machine.specs.Objects.{pairs_of}
use Rattle.store_core.proofs.Bundled.{items-sent, items-same}
use Rattle.store_core.proofs.bundling.push_alone.Goals as goal

pub returns-in_ok-push_item : goal.returns-in_ok-push_item
returns-in_ok-push_item g c so_far =
    let r = c.args.recorded.now in
    items-sent (pairs_of (fix g.T.Mrdt.meaning r.terms g.A.Address.address) (store_of r.terms.origin r.written).commits) c.args.reached.now c.args.held.now c.args.number c.args.items.now.items c.push_item.new.items.items so_far (sym c.is_alone.ensures ∙ c.if-is_alone.true) c.in_ok-push_item.ensures

pub returns-else-is_alone : goal.returns-else-is_alone
returns-else-is_alone g c so_far =
    let r = c.args.recorded.now in
    items-same (pairs_of (fix g.T.Mrdt.meaning r.terms g.A.Address.address) (store_of r.terms.origin r.written).commits) c.args.reached.now c.args.held.now c.args.number c.args.items.now.items so_far (sym c.is_alone.ensures ∙ c.if-is_alone.false)
