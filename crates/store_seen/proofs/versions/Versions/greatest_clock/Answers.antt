-- The clock of one commit more.
use Rattle.std.proofs.Common.{◌<◌, length, arith}
use Rattle.branch_history.specs.History.{store_of}
use Rattle.store_seen.proofs.Brought.{greatest-next}
use Rattle.store_seen.proofs.versions.Versions.greatest_clock.Goals as goal

pub loop-commit-preserved : goal.loop-commit-preserved
loop-commit-preserved g c =
    let core = c.args.self.now.core in
    let lt : c.loop-commit.commit-index < length c.args.commits.now = omega arith in
    greatest-next (store_of core.terms.origin core.history).commits c.args.commits.now c.loop-commit.commit-index lt c.loop-commit.clock c.clock_of.result c.max-clock.result c.loop-commit.invariant c.clock_of.ensures.clock c.max-clock.ensures
