use Rattle.std.proofs.Common.{ℕ, ◌*◌, ◌<◌, ◌≤◌, ◌++◌, map, take}
use Rattle.std.specs.Option.{option_map}
use Rattle.std.specs.Arc.{arc_value}
use Rattle.shared_chunks.specs.Chunks.{joined, entries_of}
use Rattle.shared_chunks.specs.Keys.{HasKey}
use Rattle.shared_chunks.proofs.chunks.Chunks.find.Given as goal

abbrev pub invariant-loop-number : goal.invariant-loop-number
invariant-loop-number g l =
    (n : ℕ) → l.from ≤ n → n < 1024 * l.number
    → HasKey g.X.Entry.key_of (joined (map arc_value l.self-inside.full.items) ++ take l.self-inside.rest (entries_of (option_map arc_value l.self-inside.last))) n l.key → ⊥
