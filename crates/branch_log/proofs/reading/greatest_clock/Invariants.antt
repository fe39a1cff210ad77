-- The greatest clock so far and those to come give the greatest of all.
use Rattle.std.proofs.Common.{◌≡◌, max, drop}
use Rattle.branch_log.specs.Made.{greatest_made}
use Rattle.branch_log.proofs.reading.greatest_clock.Given as goal

abbrev pub invariant-loop-number : goal.invariant-loop-number
invariant-loop-number l = max l.greatest (greatest_made l.made (drop l.number-index l.numbers)) ≡ greatest_made l.made l.numbers
