use Rattle.std.proofs.Common.{◌≡◌, ◌+◌, take}
use Rattle.shared_list.specs.Trees.{weights}
use Rattle.shared_list.proofs.tree.find_in_items.Given as goal

abbrev pub invariant-loop-index : goal.invariant-loop-index
invariant-loop-index g l = weights g.T.Entry.weight_of (take l.index l.items) + l.rest ≡ l.weight
