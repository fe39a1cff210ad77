use Rattle.std.proofs.Common.{map, arith}
use Rattle.std.proofs.lemmas.List.{length-map}
use Rattle.std.specs.Option.{option_map}
use Rattle.std.specs.Arc.{arc_value}
use Rattle.shared_chunks.proofs.Joined.{length-chunked}
use Rattle.shared_chunks.proofs.chunks.Chunks.len.Goals as goal

pub overflow_mul-result : goal.overflow_mul-result
overflow_mul-result g c =
    let here = rw (← c.self.view_is) at c.requires in
    let len = length-chunked (map arc_value c.self.inside.full.items) (option_map arc_value c.self.inside.last) c.self.inside.rest c.self.invariant in
    let count = c.len.ensures in
    omega (arith, here, len, length-map c.self.inside.full.items arc_value)

pub overflow_add-result : goal.overflow_add-result
overflow_add-result g c =
    let here = rw (← c.self.view_is) at c.requires in
    let len = length-chunked (map arc_value c.self.inside.full.items) (option_map arc_value c.self.inside.last) c.self.inside.rest c.self.invariant in
    let count = c.len.ensures in
    omega (arith, here, len, length-map c.self.inside.full.items arc_value)

pub overflow_cast-result : goal.overflow_cast-result
overflow_cast-result g c =
    let here = rw (← c.self.view_is) at c.requires in
    let len = length-chunked (map arc_value c.self.inside.full.items) (option_map arc_value c.self.inside.last) c.self.inside.rest c.self.invariant in
    let count = c.len.ensures in
    omega (arith, here, len, length-map c.self.inside.full.items arc_value)

pub returns : goal.returns
returns g c =
    let len = length-chunked (map arc_value c.self.inside.full.items) (option_map arc_value c.self.inside.last) c.self.inside.rest c.self.invariant in
    let count = c.len.ensures in
    rw (← c.self.view_is) (omega (arith, len, length-map c.self.inside.full.items arc_value))
