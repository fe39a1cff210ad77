-- What is written and the commits to come are all commits.
use Rattle.std.proofs.Common.{◌≡◌, ◌++◌, drop}
use Rattle.branch_history.specs.History.{store_of}
use Rattle.branch_log.specs.Graphs.{numbered, commit_node, commits_text}
use Rattle.branch_log.proofs.graph.put_commits.Given as goal

abbrev pub invariant-loop-number : goal.invariant-loop-number
invariant-loop-number g l =
    let commits = (store_of l.fn.terms.origin l.moves).commits in
    l.out.items ++ numbered commit_node l.number (drop l.number commits) ≡ l.initial.out.items ++ commits_text commits
