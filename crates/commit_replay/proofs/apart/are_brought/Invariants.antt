-- Those that have been gone over are brought.
use Rattle.std.proofs.Common.{ℕ, ◌<◌}
use Rattle.branch_history.specs.Commits.{graph_of}
use Rattle.branch_history.specs.History.{store_of}
use Rattle.commit_replay.specs.Apart.{IsBroughtAt}
use Rattle.commit_replay.proofs.apart.are_brought.Given as goal

abbrev pub invariant-loop-place : goal.invariant-loop-place
invariant-loop-place g l = (i : ℕ) → i < l.place → IsBroughtAt (graph_of (store_of l.recorded.terms.origin l.recorded.written).commits) l.head l.commits i
