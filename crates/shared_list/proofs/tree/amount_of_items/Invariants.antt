use Rattle.std.proofs.Common.{◌≡◌, ◌+ℤ◌, drop}
use Rattle.shared_list.specs.Trees.{amounts}
use Rattle.shared_list.proofs.tree.amount_of_items.Given as goal

-- the amounts so far and those to come add up
abbrev pub invariant-loop-item : goal.invariant-loop-item
invariant-loop-item g l = l.amount +ℤ amounts g.T.Entry.amount_of (drop l.item-index l.items) ≡ amounts g.T.Entry.amount_of l.items
