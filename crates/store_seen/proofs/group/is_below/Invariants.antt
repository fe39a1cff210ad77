-- The commit lies below none of those before this one.
use Rattle.std.proofs.Common.{◌≡◌, false, take}
use Rattle.branch_history.specs.Merging.{is_below}
use Rattle.store_seen.proofs.group.is_below.Given as goal

abbrev pub invariant-loop-other : goal.invariant-loop-other
invariant-loop-other g l = is_below l.nodes.graph.commits (take l.other-index l.others) l.commit ≡ false
