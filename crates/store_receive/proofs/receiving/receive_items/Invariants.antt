-- The items so far were taken, and the others are left.
use Rattle.std.proofs.Common.{◌≡◌, ◌≤◌, ℕ, length, drop}
use Rattle.store_receive.proofs.Loops.{GoesOn}
use Rattle.store_receive.proofs.receiving.receive_items.Given as goal

abbrev pub invariant-loop-left : goal.invariant-loop-left
invariant-loop-left g l = record {
  start : ℕ;
  rest : l.left ≡ drop start l.fn.items.items;
  goes : GoesOn g.D.Disk g.T.Mrdt.meaning g.A.Address.address l.fn.items.items start l.count l.fn.core l.core;
  within : start ≤ length l.fn.items.items;
}

abbrev pub decreases-loop-left : goal.decreases-loop-left
decreases-loop-left g l = length l.left
