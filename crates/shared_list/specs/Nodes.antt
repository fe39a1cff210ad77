-- What a node is seen as.
use Rattle.std.specs.Prelude.{◌≡◌, ℕ, ℤ, ◌+◌, ◌<◌, List, length}
use Rattle.shared_list.specs.declared.tree.Node.{Node}
use Rattle.shared_list.specs.declared.tree.Node.TheVariants.{Leaf, Branch}
use Rattle.mrdt_model.specs.Spelled.{capped}
use Rattle.shared_list.specs.Trees.{weights, amounts, lists, AreAt}

abbrev pub entries : {T : Type 0} → Node T → List T
entries (Leaf items) = items.items
entries (Branch kids) = lists kids.items

-- the trees are of one height, and this is one more
pub record IsAbove {T : Type 0} (h : ℕ) (trees : List (ℕ × List T)) : Type 0 where
  pub below : ℕ
  pub above : h ≡ below + 1
  pub all : AreAt below trees
  pub some : 0 < length trees

-- a leaf is at no height, and a branch is one above its trees; neither is empty
abbrev pub IsAtHeight : {T : Type 0} → ℕ → Node T → Type 0
IsAtHeight h (Leaf items) = (h ≡ 0) × (0 < length items.items)
IsAtHeight h (Branch kids) = IsAbove h kids.items

-- the height, the count and the sums are those of the node
pub record IsNode {T : Type 0} (weight_of : T → ℕ) (amount_of : T → ℤ) (height : ℕ) (count : ℕ) (weight : ℕ) (amount : ℤ) (node : Node T) : Type 0 where
  pub at : IsAtHeight height node
  pub counted : count ≡ length (entries node)
  pub weighed : weight ≡ capped (weights weight_of (entries node))
  pub summed : amount ≡ amounts amount_of (entries node)
