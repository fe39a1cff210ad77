-- The jobs so far landed, one behind another.
use Rattle.std.proofs.Common.{◌≡◌, ◌++◌}
use Rattle.std.specs.Vec.Iter.{into_iter_items}
use Rattle.branch_machine.specs.Fixed.{fix}
use Rattle.store_core.specs.Batches.{HaveLanded}
use Rattle.store_core.proofs.batch.land_each.Given as goal

abbrev pub invariant-loop-job : goal.invariant-loop-job
invariant-loop-job g l = record {
  whole : l.yielded ++ into_iter_items l.job-iterator ≡ l.fn.jobs.items;
  landed : HaveLanded (fix g.T.Mrdt.meaning l.fn.recorded.terms g.A.Address.address) l.yielded l.fn.recorded l.recorded l.answers.items l.records.items;
}
