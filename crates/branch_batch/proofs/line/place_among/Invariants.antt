-- None before this place has the number.
use Rattle.std.proofs.Common.{◌≤◌}
use Rattle.branch_batch.specs.Lists.{place_of}
use Rattle.branch_batch.specs.Lines.{number_of}
use Rattle.branch_batch.proofs.line.place_among.Given as goal

abbrev pub invariant-loop-place : goal.invariant-loop-place
invariant-loop-place g l = l.place ≤ place_of number_of l.number l.waiting.items
