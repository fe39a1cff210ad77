-- The callers before this one have seen the history.
use Rattle.std.proofs.Common.{◌≡◌, ◌++◌, map, take, drop}
use Rattle.std.specs.List.{AllByRecursion}
use Rattle.branch_shared.specs.Entries.{moments_of}
use Rattle.branch_shared.specs.Keeps.{faults_since}
use Rattle.branch_shared.specs.Batches.{seen_to, IsBehind}
use Rattle.branch_shared.proofs.batch.see_each.Given as goal

abbrev pub invariant-loop-taken : goal.invariant-loop-taken
invariant-loop-taken g l = record {
  writer : l.writer ≡ l.fn.writer;
  seen : l.all ≡ map (seen_to (faults_since g.D.Disk.faults l.core) l.core.history (moments_of l.fn.writer.moves)) (take l.taken-index l.fn.all) ++ drop l.taken-index l.fn.all;
  behind : AllByRecursion (λ taken. IsBehind (faults_since g.D.Disk.faults l.core) l.core.history (moments_of l.fn.writer.moves) taken.given.pass) (take l.taken-index l.fn.all);
}
