use Rattle.thread_tests.proofs.Allowing.{each-work}
use Rattle.thread_tests.proofs.calls.is_late.Goals as goal

pub land-stale-requires-clause-allowed : goal.land-stale-requires-clause-allowed
land-stale-requires-clause-allowed g c κs within = each-work g.N.Named.allows c.requires.allowed c.prepares-prepared.result.seen.branch c.prepares-prepared.result.work
