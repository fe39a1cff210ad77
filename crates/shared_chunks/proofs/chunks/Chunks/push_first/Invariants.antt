use Rattle.std.proofs.Common.{◌≡◌, ◌+◌, ◌++◌, take}
use Rattle.shared_chunks.proofs.chunks.Chunks.push_first.Given as goal

abbrev pub invariant-loop-place : goal.invariant-loop-place
invariant-loop-place g l = record {
  pushed : l.self ≡ l.fn.self ++ take l.place l.chunk;
  steps : l.steps ≡ l.fn.steps + l.place;
}
