use Rattle.std.proofs.Common.{◌≡◌, ◌≤◌, ◌++◌, length, take}
use Rattle.branch_history.specs.History.{store_of}
use Rattle.branch_print.specs.Reports.{branches_text}
use Rattle.branch_shell.proofs.answer.put_report.Given as goal

abbrev pub invariant-loop-number : goal.invariant-loop-number
invariant-loop-number g l = record {
  written : l.out.items ≡ l.initial.out.items ++ branches_text (take l.number (store_of l.core.terms.origin l.core.history).branches);
  within : l.number ≤ length (store_of l.core.terms.origin l.core.history).branches;
}
