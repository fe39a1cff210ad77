-- What is written and the branches to come are all branches.
use Rattle.std.proofs.Common.{◌≡◌, ◌≤◌, ◌++◌, length, drop}
use Rattle.branch_history.specs.History.{store_of}
use Rattle.branch_log.specs.Graphs.{numbered, branch_node, branches_text}
use Rattle.branch_shell.proofs.look.put_branches.Given as goal

abbrev pub invariant-loop-number : goal.invariant-loop-number
invariant-loop-number g l = record {
  written : l.out.items ++ numbered branch_node l.number (drop l.number (store_of l.core.terms.origin l.core.history).branches)
      ≡ l.initial.out.items ++ branches_text (store_of l.core.terms.origin l.core.history).branches;
  within : l.number ≤ length (store_of l.core.terms.origin l.core.history).branches;
}
