-- The greatest clock of the commits before this one.
use Rattle.std.proofs.Common.{◌≡◌, take}
use Rattle.branch_history.specs.Commits.{greatest_clock}
use Rattle.branch_history.specs.History.{store_of}
use Rattle.store_seen.proofs.versions.Versions.greatest_clock.Given as goal

abbrev pub invariant-loop-commit : goal.invariant-loop-commit
invariant-loop-commit g l = l.clock ≡ greatest_clock (store_of l.self.core.terms.origin l.self.core.history).commits (take l.commit-index l.commits)
