use Rattle.std.proofs.Common.{◌≡◌, take}
use Rattle.shared_chunks.proofs.chunk.copied.Given as goal

abbrev pub invariant-loop-entry : goal.invariant-loop-entry
invariant-loop-entry g l = l.chunk ≡ take l.entry-index l.entries
