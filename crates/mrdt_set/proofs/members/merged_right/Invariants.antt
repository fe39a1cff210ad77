use Rattle.std.proofs.Common.{length}
use Rattle.keyed_slots.specs.Slots.{IsRest}
use Rattle.mrdt_set.proofs.Merging.{DoneSoFar, IsDone}
use Rattle.mrdt_set.proofs.members.merged_right.Given as goal

-- the elements of the right side that are not to come have been merged
abbrev pub invariant-loop-slot : goal.invariant-loop-slot
invariant-loop-slot l =
    record {
      along : IsRest l.sides.base.now l.olds;
      ahead : IsRest l.sides.right.now l.walk;
      so_far : DoneSoFar (IsDone l.sides.base.now l.sides.left.now l.sides.right.now) l.sides.left.now l.sides.right.now l.walk l.both;
    }

abbrev pub decreases-loop-slot : goal.decreases-loop-slot
decreases-loop-slot l = length l.walk
