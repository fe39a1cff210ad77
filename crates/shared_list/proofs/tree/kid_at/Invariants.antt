use Rattle.std.proofs.Common.{◌≡◌, ◌+◌, ◌<◌, length, take}
use Rattle.shared_list.specs.Trees.{lists}
use Rattle.shared_list.proofs.tree.kid_at.Given as goal

abbrev pub invariant-loop-index : goal.invariant-loop-index
invariant-loop-index g l = (length (lists (take l.index l.kids)) + l.rest ≡ l.place) × (0 < l.index → 0 < l.rest + l.cut)
