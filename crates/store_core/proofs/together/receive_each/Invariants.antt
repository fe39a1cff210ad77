-- The items so far arrived, and all of them were taken.
use Rattle.std.proofs.Common.{◌≡◌, length, map, take, None}
use Rattle.branch_machine.specs.Fixed.{fix}
use Rattle.branch_bundle.specs.Held.{pair_of}
use Rattle.store_core.specs.Together.{HaveArrived}
use Rattle.store_core.proofs.together.receive_each.Given as goal

abbrev pub invariant-loop-item : goal.invariant-loop-item
invariant-loop-item g l = record {
  arrived : HaveArrived (fix g.T.Mrdt.meaning l.fn.recorded.terms g.A.Address.address) (map pair_of (take l.item-index l.items)) l.fn.recorded l.recorded l.got.items None l.records.items;
  counted : length l.got.items ≡ l.item-index;
}
