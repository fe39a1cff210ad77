use Rattle.std.proofs.Common.{◌≡◌, take}
use Rattle.mrdt_model.specs.Spelled.{capped}
use Rattle.shared_list.specs.Trees.{weights}
use Rattle.shared_list.proofs.tree.weight_of_items.Given as goal

abbrev pub invariant-loop-item : goal.invariant-loop-item
invariant-loop-item g l = l.weight ≡ capped (weights g.T.Entry.weight_of (take l.item-index l.items))
