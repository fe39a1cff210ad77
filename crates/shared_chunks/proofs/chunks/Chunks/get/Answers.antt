use Rattle.std.proofs.Common.{map, ◌∙◌}
use Rattle.std.specs.Option.{option_map}
use Rattle.std.specs.Arc.{arc_value}
use Rattle.shared_chunks.proofs.Joined.{chunk-there, chunk-finds}
use Rattle.shared_chunks.proofs.chunks.Chunks.get.Goals as goal

pub chunk_at-chunk-requires : goal.chunk_at-chunk-requires
chunk_at-chunk-requires g c =
    let here = rw (← c.self.view_is) at c.requires in
    rw c.deref.ensures.value (chunk-there (map arc_value c.self.inside.full.items) (option_map arc_value c.self.inside.last) c.self.inside.rest c.args.number c.self.invariant here)

pub get-requires : goal.get-requires
get-requires g c =
    let here = rw (← c.self.view_is) at c.requires in
    let at = rw c.deref.ensures.value at c.chunk_at-chunk.ensures in
    (chunk-finds (map arc_value c.self.inside.full.items) (option_map arc_value c.self.inside.last) c.self.inside.rest c.args.number c.chunk_at-chunk.result.now c.self.invariant here at).0

pub returns : goal.returns
returns g c =
    let here = rw (← c.self.view_is) at c.requires in
    let at = rw c.deref.ensures.value at c.chunk_at-chunk.ensures in
    rw (← c.self.view_is)
    ((chunk-finds (map arc_value c.self.inside.full.items) (option_map arc_value c.self.inside.last) c.self.inside.rest c.args.number c.chunk_at-chunk.result.now c.self.invariant here at).1 ∙ c.get.ensures)
