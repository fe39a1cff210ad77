use Rattle.std.proofs.Common.{◌≡◌, take}
use Rattle.mrdt_model.specs.Spelled.{capped}
use Rattle.shared_list.specs.Trees.{weights, lists}
use Rattle.shared_list.proofs.tree.weight_of_trees.Given as goal

abbrev pub invariant-loop-kid : goal.invariant-loop-kid
invariant-loop-kid g l = l.weight ≡ capped (weights g.T.Entry.weight_of (lists (take l.kid-index l.kids)))
