-- The claim is the one that was passed.
use Rattle.std.proofs.Common.{◌≡◌}
use Rattle.branch_shared.proofs.shared.Shared.await_answer.Given as goal

abbrev pub invariant-loop : goal.invariant-loop
invariant-loop g l = (goal.iterator-loop g).can_next l.iterator' × (goal.iterator-loop g).is_finite l.iterator' × (l.claim ≡ l.fn.claim)
