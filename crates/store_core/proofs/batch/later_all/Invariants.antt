-- The jobs so far.
use Rattle.std.proofs.Common.{◌≡◌, ◌++◌}
use Rattle.std.specs.Vec.Iter.{into_iter_items}
use Rattle.store_core.proofs.batch.later_all.Given as goal

abbrev pub invariant-loop-job : goal.invariant-loop-job
invariant-loop-job g l = record {
  whole : l.yielded ++ into_iter_items l.job-iterator ≡ l.fn.jobs.items;
  same : l.later.items ≡ l.yielded;
}
