use Rattle.std.proofs.Common.{◌≡◌, pos, ◌+ℤ◌, ◌≤ℤ◌, take}
use Rattle.shared_list.specs.Trees.{amounts}
use Rattle.shared_list.proofs.tree.find_amount_in_items.Given as goal

abbrev pub invariant-loop-index : goal.invariant-loop-index
invariant-loop-index g l = (amounts g.T.Entry.amount_of (take l.index l.items) +ℤ l.rest ≡ l.amount) × (pos 0 ≤ℤ l.rest)
