-- The answers so far are that.
use Rattle.std.proofs.Common.{◌≡◌, replicate, Err, take}
use Rattle.store_core.specs.declared.answers.LandRefused.TheVariants as refusal
use Rattle.store_core.proofs.batch.fault_all.Given as goal

abbrev pub invariant-loop-answer : goal.invariant-loop-answer
invariant-loop-answer g l = take l.answer-index l.answers ≡ replicate l.answer-index (Err refusal.DiskFault)
