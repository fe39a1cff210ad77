use Rattle.std.proofs.Common.{◌≡◌, ◌++◌, length}
use Rattle.std.specs.Map.{keys_of}
use Rattle.mrdt_set.proofs.members.elements_in_order.Given as goal

abbrev pub invariant-loop-slot : goal.invariant-loop-slot
invariant-loop-slot l = l.all.items ++ keys_of l.walk ≡ keys_of l.members

abbrev pub decreases-loop-slot : goal.decreases-loop-slot
decreases-loop-slot l = length l.walk
