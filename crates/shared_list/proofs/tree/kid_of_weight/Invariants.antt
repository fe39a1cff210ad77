use Rattle.std.proofs.Common.{◌≡◌, ◌+◌, take, length}
use Rattle.shared_list.specs.Trees.{weights, lists}
use Rattle.shared_list.proofs.tree.kid_of_weight.Given as goal

abbrev pub invariant-loop-index : goal.invariant-loop-index
invariant-loop-index g l = (weights g.T.Entry.weight_of (lists (take l.index l.kids)) + l.rest ≡ l.weight) × (l.before ≡ length (lists (take l.index l.kids)))
