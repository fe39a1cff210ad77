use Rattle.std.proofs.Common.{◌≡◌, ◌+ℤ◌, drop}
use Rattle.shared_list.specs.Trees.{amounts, lists}
use Rattle.shared_list.proofs.tree.amount_of_trees.Given as goal

-- the amounts so far and those to come add up
abbrev pub invariant-loop-kid : goal.invariant-loop-kid
invariant-loop-kid g l = l.amount +ℤ amounts g.T.Entry.amount_of (lists (drop l.kid-index l.kids)) ≡ amounts g.T.Entry.amount_of (lists l.kids)
