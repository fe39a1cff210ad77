use Rattle.std.proofs.Common.{length}
use Rattle.keyed_slots.specs.Slots.{IsRest}
use Rattle.mrdt_map.proofs.Changed.{MergedSoFar}
use Rattle.mrdt_map.proofs.tables.merged.Given as goal

-- what is not to come on the left has been merged
abbrev pub invariant-loop-mine : goal.invariant-loop-mine
invariant-loop-mine g l =
    record {
      along : IsRest l.base l.olds;
      ahead : IsRest l.left l.walk;
      so_far : MergedSoFar g.T.Inner.meaning l.base l.left l.right l.walk l.both;
    }

abbrev pub decreases-loop-mine : goal.decreases-loop-mine
decreases-loop-mine g l = length l.walk
