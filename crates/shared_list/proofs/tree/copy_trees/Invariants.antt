use Rattle.std.proofs.Common.{◌≡◌, ◌++◌, take}
use Rattle.shared_list.proofs.tree.copy_trees.Given as goal

abbrev pub invariant-loop-tree : goal.invariant-loop-tree
invariant-loop-tree g l = l.out.items ≡ l.initial.out.items ++ take l.tree-index l.trees
