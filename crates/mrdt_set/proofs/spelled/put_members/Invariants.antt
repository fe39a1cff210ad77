use Rattle.std.proofs.Common.{length}
use Rattle.std.specs.List.{flat_map}
use Rattle.mrdt_set.specs.Members.{member_spelling, set_spelling}
use Rattle.mrdt_set.proofs.Writing.{PutSoFar}
use Rattle.mrdt_set.proofs.spelled.put_members.Given as goal

abbrev pub invariant-loop-slot : goal.invariant-loop-slot
invariant-loop-slot l = PutSoFar l.fn.out.items l.out.items (flat_map member_spelling l.walk) (set_spelling l.members)

abbrev pub decreases-loop-slot : goal.decreases-loop-slot
decreases-loop-slot l = length l.walk
