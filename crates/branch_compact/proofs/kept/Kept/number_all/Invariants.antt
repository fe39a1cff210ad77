-- The numbers so far are new ones.
use Rattle.branch_compact.specs.Compact.{new_number}
use Rattle.branch_compact.specs.Marks.{is_marked}
use Rattle.branch_compact.proofs.Counted.{AreChanged}
use Rattle.branch_compact.proofs.kept.Kept.number_all.Given as goal

abbrev pub invariant-loop-commit : goal.invariant-loop-commit
invariant-loop-commit l = AreChanged (new_number (is_marked l.self)) l.fn.commits l.commits l.commit-index
