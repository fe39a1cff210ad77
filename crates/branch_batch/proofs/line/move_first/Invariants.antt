-- The first jobs so far, and the rest.
use Rattle.std.proofs.Common.{◌≡◌, ◌≤◌, take, drop, vec_len, vec_capacity}
use Rattle.branch_batch.proofs.line.move_first.Given as goal

abbrev pub invariant-loop : goal.invariant-loop
invariant-loop g l = record {
  batch : l.batch.items ≡ take l.counter l.fn.waiting.items;
  waiting : l.waiting.items ≡ drop l.counter l.fn.waiting.items;
  short : vec_len l.batch ≤ l.counter;
  room : vec_capacity l.batch ≡ vec_capacity l.fn.batch;
}
