-- The jobs that are left are served, and there is room for them.
use Rattle.std.proofs.Common.{◌≤◌, ◌+◌, length, vec_len, vec_capacity}
use Rattle.std.specs.List.{AllByRecursion}
use Rattle.std.specs.Vec.Iter.{into_iter_items}
use Rattle.branch_machine.specs.Fixed.{fix}
use Rattle.branch_shared.specs.Batches.{Serves}
use Rattle.branch_shared.proofs.room.finish_each.Given as goal

abbrev pub invariant-loop-taken : goal.invariant-loop-taken
invariant-loop-taken g l = record {
  room : vec_len l.done + length (into_iter_items l.taken-iterator) ≤ 64;
  capacity : 64 ≤ vec_capacity l.done;
  serves : AllByRecursion (λ taken. Serves (fix g.T.Mrdt.meaning g.N.Named.terms g.A.Address.address) g.N.Named.opened g.N.Named.begun taken.job taken.given) (into_iter_items l.taken-iterator);
}
