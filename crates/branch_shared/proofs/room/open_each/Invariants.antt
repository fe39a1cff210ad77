-- The jobs before this one are opened, and there is room for the others.
use Rattle.std.proofs.Common.{◌≡◌, ◌≤◌, ◌+◌, map, length, vec_len, vec_capacity}
use Rattle.std.specs.List.{AllByRecursion}
use Rattle.std.specs.Vec.Iter.{into_iter_items}
use Rattle.branch_shared.specs.Batches.{MayLand, pass_of}
use Rattle.branch_shared.proofs.room.open_each.Given as goal

abbrev pub invariant-loop-waiting : goal.invariant-loop-waiting
invariant-loop-waiting g l = record {
  room_taken : vec_len l.taken + length (into_iter_items l.waiting-iterator) ≤ 64;
  room_prepared : vec_len l.prepared + length (into_iter_items l.waiting-iterator) ≤ 64;
  capacity_taken : 64 ≤ vec_capacity l.taken;
  capacity_prepared : 64 ≤ vec_capacity l.prepared;
  prepared : l.prepared.items ≡ map (λ taken. taken.job.prepared) l.taken.items;
  passes : AllByRecursion (λ taken. taken.given.pass ≡ pass_of g.N.Named.begun taken.job.pass) l.taken.items;
  may : AllByRecursion (λ taken. MayLand g.N.Named.table g.N.Named.begun g.N.Named.terms g.N.Named.allows taken.job) l.taken.items;
}
