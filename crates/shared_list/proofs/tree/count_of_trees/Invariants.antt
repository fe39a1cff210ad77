use Rattle.std.proofs.Common.{◌≡◌, length, take}
use Rattle.shared_list.specs.Trees.{lists}
use Rattle.shared_list.proofs.tree.count_of_trees.Given as goal

abbrev pub invariant-loop-kid : goal.invariant-loop-kid
invariant-loop-kid g l = l.count ≡ length (lists (take l.kid-index l.kids))
