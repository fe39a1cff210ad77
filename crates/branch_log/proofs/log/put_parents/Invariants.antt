-- The parents so far are written.
use Rattle.std.proofs.Common.{◌≡◌, ◌++◌, take}
use Rattle.branch_log.specs.Logs.{parents_text}
use Rattle.branch_log.proofs.log.put_parents.Given as goal

abbrev pub invariant-loop-parent : goal.invariant-loop-parent
invariant-loop-parent l = l.out.items ≡ l.initial.out.items ++ parents_text (take l.parent-index l.parents)
