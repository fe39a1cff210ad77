use Rattle.std.proofs.Common.{◌≡◌, ◌++◌, length}
use Rattle.live_set.proofs.texts.push_texts.Given as goal

-- what was put, and what is ahead
abbrev pub invariant-loop-kept : goal.invariant-loop-kept
invariant-loop-kept l = l.list.items ++ l.ahead ≡ l.fn.list.items ++ l.live

abbrev pub decreases-loop-kept : goal.decreases-loop-kept
decreases-loop-kept l = length l.ahead
