-- Places of items among nodes.
use Rattle.std.specs.Prelude.{◌≡◌, ℕ, ℤ, pos, false, if◌then◌else◌, Some, List, length, take, slice_get}
use Rattle.mrdt_sequence.specs.declared.node.Node.{Node}
use Rattle.mrdt_sequence.specs.Sequence.{items_of}

-- one for each item
abbrev pub living : Node → ℤ
living n = if n.hidden then pos 0 else pos 1

-- a node stands at a place and is an item, with so many items before it
pub record IsItem (ns : List Node) (index : ℕ) (place : ℕ) : Type 0 where
  pub node : Node
  pub there : slice_get ns place ≡ Some node
  pub shown : node.hidden ≡ false
  pub before : length (items_of (take place ns)) ≡ index
