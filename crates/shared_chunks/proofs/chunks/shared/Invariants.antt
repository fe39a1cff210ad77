use Rattle.std.proofs.Common.{◌≡◌, ◌+◌, map, take}
use Rattle.std.specs.Arc.{arc_value}
use Rattle.shared_chunks.proofs.chunks.shared.Given as goal

abbrev pub invariant-loop-chunk : goal.invariant-loop-chunk
invariant-loop-chunk g l = record {
  same : map arc_value l.copies.items ≡ map arc_value (take l.chunk-index l.chunks);
  steps : l.steps ≡ l.fn.steps + l.chunk-index;
}
