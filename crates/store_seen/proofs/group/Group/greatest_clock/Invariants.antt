-- The greatest clock of the head and of the commits before this one.
use Rattle.std.proofs.Common.{◌≡◌, ◌∷◌, take}
use Rattle.branch_history.specs.Commits.{greatest_clock}
use Rattle.branch_history.specs.History.{store_of}
use Rattle.store_seen.proofs.group.Group.greatest_clock.Given as goal

abbrev pub invariant-loop-commit : goal.invariant-loop-commit
invariant-loop-commit g l = l.clock ≡ greatest_clock (store_of l.self.terms.origin l.self.history).commits (l.self.head ∷ take l.commit-index l.commits)
