-- The jobs before this one are refused.
use Rattle.std.proofs.Common.{◌≡◌, ◌++◌, map, take, drop}
use Rattle.branch_shared.specs.Batches.{shortage, with_refusal}
use Rattle.branch_shared.proofs.batch.refuse_each.Given as goal

abbrev pub invariant-loop-taken : goal.invariant-loop-taken
invariant-loop-taken g l = l.all ≡ map (with_refusal (shortage l.core)) (take l.taken-index l.fn.all) ++ drop l.taken-index l.fn.all
