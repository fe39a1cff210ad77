-- None before this place has the number.
use Rattle.std.proofs.Common.{◌≤◌}
use Rattle.branch_batch.specs.Lists.{place_of}
use Rattle.branch_batch.specs.Lines.{room_number}
use Rattle.branch_batch.proofs.line.slot_at.Given as goal

abbrev pub invariant-loop-place : goal.invariant-loop-place
invariant-loop-place g l = l.place ≤ place_of room_number l.number l.slots
