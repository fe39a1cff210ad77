-- The clock of one commit more.
use Rattle.std.proofs.Common.{◌<◌, length, arith}
use Rattle.branch_history.specs.History.{store_of}
use Rattle.store_seen.proofs.Brought.{greatest-more}
use Rattle.store_seen.proofs.group.Group.greatest_clock.Goals as goal

pub loop-commit-preserved : goal.loop-commit-preserved
loop-commit-preserved g c =
    let seen = c.args.self.now in
    let lt : c.loop-commit.commit-index < length c.args.commits.now = omega arith in
    greatest-more (store_of seen.terms.origin seen.history).commits seen.head c.args.commits.now c.loop-commit.commit-index lt c.loop-commit.clock c.clock_of.result c.max-clock.result c.loop-commit.invariant c.clock_of.ensures c.max-clock.ensures
