-- The additions so far.
use Rattle.std.proofs.Common.{◌≡◌, length}
use Rattle.std.specs.Prelude.{All}
use mathlib.Core.List.{IsPrefix}
use Rattle.core_tests.proofs.batches.additions.Given as goal

abbrev pub invariant-loop-branch : goal.invariant-loop-branch
invariant-loop-branch g l = record {
  many : length l.jobs.items ≡ l.branch-index;
  history : All (λ job. IsPrefix job.seen.history l.core.history) l.jobs.items;
  terms : All (λ job. job.seen.terms ≡ l.core.terms) l.jobs.items;
}
