-- The answers so far.
use Rattle.std.proofs.Common.{◌≡◌, replicate, Err}
use Rattle.store_core.specs.declared.answers.LandRefused.TheVariants as refusal
use Rattle.store_core.proofs.batch.all_failed.Given as goal

abbrev pub invariant-loop : goal.invariant-loop
invariant-loop g l = l.answers.items ≡ replicate l.counter (Err (refusal.Failed l.moves))
