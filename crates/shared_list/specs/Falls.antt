-- No tree of a node is as high as the node.
use Rattle.std.specs.Prelude.{ℕ, ◌+◌, ◌≤◌, max, List, [], ◌∷◌}
use Rattle.std.proofs.Common.{arith}
use denote.Param.Weighed.{most}
use Rattle.shared_list.specs.declared.tree.Entry.{Ghosts}
use Rattle.shared_list.specs.declared.tree.Node.{Node}
use Rattle.shared_list.specs.declared.tree.Node.TheVariants.{Leaf, Branch}
use Rattle.shared_list.specs.declared.tree.Tree.TheDeep.{deep-Node}
use Rattle.shared_list.specs.Trees.{AreAt}
use Rattle.shared_list.specs.Nodes.{IsAtHeight}

pub most_below : {T : Type 0} (below : ℕ) (trees : List (ℕ × List T)) → AreAt below trees → most (λ d. d.0 + 1) trees ≤ below + 1
most_below below [] all = omega arith
most_below below (t ∷ trees) all = omega (arith, all.0, most_below below trees all.1)

pub node_falls : {T : Type 0} (G : Ghosts T) (h : ℕ) (n : Node T) → IsAtHeight h n → max (deep-Node T G n) 0 ≤ h
node_falls G h (Leaf items) at = omega arith
node_falls G h (Branch kids) at = omega (arith, at.above, most_below at.below kids.items at.all)
