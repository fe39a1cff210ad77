-- The items of the commits so far.
use Rattle.std.proofs.Common.{◌≡◌, ◌≤◌, length}
use Rattle.branch_history.specs.History.{store_of}
use Rattle.branch_machine.specs.Fixed.{fix}
use Rattle.branch_machine.specs.Objects.{pairs_of}
use Rattle.store_core.specs.Bundling.{items_below}
use Rattle.store_core.proofs.bundling.items_of.Given as goal

abbrev pub invariant-loop-number : goal.invariant-loop-number
invariant-loop-number g l =
    (l.items.items ≡ items_below (pairs_of (fix g.T.Mrdt.meaning l.recorded.terms g.A.Address.address) (store_of l.recorded.terms.origin l.recorded.written).commits) l.reached l.held l.number)
    × (l.number ≤ length l.reached)
