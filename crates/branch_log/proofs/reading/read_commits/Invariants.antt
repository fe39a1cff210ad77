-- The commits so far are read.
use Rattle.std.proofs.Common.{take}
use Rattle.branch_history.specs.History.{store_of}
use Rattle.branch_log.specs.Made.{AreMade}
use Rattle.branch_log.proofs.reading.read_commits.Given as goal

abbrev pub invariant-loop-place : goal.invariant-loop-place
invariant-loop-place g l = AreMade l.moves (store_of l.fn.terms.origin (take l.place l.moves)).commits l.made.items
