-- The commit lies below none of those that have been gone over.
use Rattle.std.proofs.Common.{◌≡◌, false, take}
use Rattle.branch_history.specs.Commits.{graph_of}
use Rattle.branch_history.specs.History.{store_of}
use Rattle.branch_history.specs.Merging.{is_below}
use Rattle.commit_replay.proofs.apart.is_below.Given as goal

abbrev pub invariant-loop-other : goal.invariant-loop-other
invariant-loop-other g l = is_below (graph_of (store_of l.recorded.terms.origin l.recorded.written).commits) (take l.other-index l.commits) l.commit ≡ false
