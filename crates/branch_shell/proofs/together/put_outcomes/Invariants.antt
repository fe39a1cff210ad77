-- The lines of the clients that have been gone over.
use Rattle.std.proofs.Common.{◌≡◌, ℕ, List, ◌++◌, take, Some}
use Rattle.branch_shell.specs.Together.{client_lines}
use Rattle.branch_shell.proofs.together.put_outcomes.Given as goal

abbrev pub invariant-loop-client : goal.invariant-loop-client
invariant-loop-client l = record {
  lines : List ℕ;
  told : client_lines 0 (take l.client l.outcomes) ≡ Some lines;
  written : l.out.items ≡ l.initial.out.items ++ lines;
}
