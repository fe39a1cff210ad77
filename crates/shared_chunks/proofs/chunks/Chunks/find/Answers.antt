-- What is found stands in the list, and what is not found in its chunk is in none from there on.
use Rattle.std.proofs.Common.{◌≡◌, ◌<◌, ◌≤◌, ◌++◌, length, map, take, refl, arith}
use Rattle.std.specs.Option.{option_map}
use Rattle.std.specs.Arc.{arc_value}
use Rattle.std.proofs.lemmas.List.{length-map}
use Rattle.shared_chunks.specs.Chunks.{joined, entries_of}
use Rattle.shared_chunks.proofs.Keyed.{key-within, found-full, none-full, found-last, none-last, at_none}
use Rattle.shared_chunks.proofs.chunks.Chunks.find.Goals as goal

pub overflow_mul-result : goal.overflow_mul-result
overflow_mul-result g c =
    let few = rw (← c.self.view_is) at c.requires in
    let at = rw c.deref.ensures.value at c.chunk_at-chunk.ensures in
    let lt : c.loop-number.number < length (map arc_value c.self.inside.full.items) = omega (arith, c.len-number-end.ensures, length-map c.self.inside.full.items arc_value) in
    let has = found-full g.X.Entry.key_of (map arc_value c.self.inside.full.items) (option_map arc_value c.self.inside.last) c.self.inside.rest c.self.invariant c.loop-number.number c.in-Some.place _ c.args.key c.chunk_at-chunk.result.now at lt refl c.in-Some.ensures.has in
    let there = key-within g.X.Entry.key_of (joined (map arc_value c.self.inside.full.items) ++ take c.self.inside.rest (entries_of (option_map arc_value c.self.inside.last))) _ c.args.key has in
    omega (arith, few, there)

pub overflow_add-result : goal.overflow_add-result
overflow_add-result g c =
    let few = rw (← c.self.view_is) at c.requires in
    let at = rw c.deref.ensures.value at c.chunk_at-chunk.ensures in
    let lt : c.loop-number.number < length (map arc_value c.self.inside.full.items) = omega (arith, c.len-number-end.ensures, length-map c.self.inside.full.items arc_value) in
    let has = found-full g.X.Entry.key_of (map arc_value c.self.inside.full.items) (option_map arc_value c.self.inside.last) c.self.inside.rest c.self.invariant c.loop-number.number c.in-Some.place _ c.args.key c.chunk_at-chunk.result.now at lt refl c.in-Some.ensures.has in
    let there = key-within g.X.Entry.key_of (joined (map arc_value c.self.inside.full.items) ++ take c.self.inside.rest (entries_of (option_map arc_value c.self.inside.last))) _ c.args.key has in
    omega (arith, few, there)

pub returns-in-Some-clause-there : goal.returns-in-Some-clause-there
returns-in-Some-clause-there g c =
    let at = rw c.deref.ensures.value at c.chunk_at-chunk.ensures in
    let lt : c.loop-number.number < length (map arc_value c.self.inside.full.items) = omega (arith, c.len-number-end.ensures, length-map c.self.inside.full.items arc_value) in
    let has = found-full g.X.Entry.key_of (map arc_value c.self.inside.full.items) (option_map arc_value c.self.inside.last) c.self.inside.rest c.self.invariant c.loop-number.number c.in-Some.place _ c.args.key c.chunk_at-chunk.result.now at lt refl c.in-Some.ensures.has in
    rw (← c.self.view_is) (key-within g.X.Entry.key_of (joined (map arc_value c.self.inside.full.items) ++ take c.self.inside.rest (entries_of (option_map arc_value c.self.inside.last))) _ c.args.key has)

pub returns-in-Some-clause-has : goal.returns-in-Some-clause-has
returns-in-Some-clause-has g c =
    let at = rw c.deref.ensures.value at c.chunk_at-chunk.ensures in
    let lt : c.loop-number.number < length (map arc_value c.self.inside.full.items) = omega (arith, c.len-number-end.ensures, length-map c.self.inside.full.items arc_value) in
    rw (← c.self.view_is) (found-full g.X.Entry.key_of (map arc_value c.self.inside.full.items) (option_map arc_value c.self.inside.last) c.self.inside.rest c.self.invariant c.loop-number.number c.in-Some.place _ c.args.key c.chunk_at-chunk.result.now at lt refl c.in-Some.ensures.has)

pub loop-number-preserved : goal.loop-number-preserved
loop-number-preserved g c =
    let at = rw c.deref.ensures.value at c.chunk_at-chunk.ensures in
    let lt : c.loop-number.number < length (map arc_value c.self.inside.full.items) = omega (arith, c.len-number-end.ensures, length-map c.self.inside.full.items arc_value) in
    none-full g.X.Entry.key_of (map arc_value c.self.inside.full.items) (option_map arc_value c.self.inside.last) c.self.inside.rest c.self.invariant c.loop-number.number c.args.from c.args.key c.chunk_at-chunk.result.now at lt (at_none c.find.result _ c.in_default.is c.find.ensures.none) c.loop-number.invariant

pub overflow_mul-result-in-Some-find_last : goal.overflow_mul-result-in-Some-find_last
overflow_mul-result-in-Some-find_last g c =
    let few = rw (← c.self.view_is) at c.requires in
    let has = found-last g.X.Entry.key_of (map arc_value c.self.inside.full.items) (option_map arc_value c.self.inside.last) c.self.inside.rest c.self.invariant c.in-Some-find_last.place _ c.args.key refl c.in-Some-find_last.ensures.has in
    let there = key-within g.X.Entry.key_of (joined (map arc_value c.self.inside.full.items) ++ take c.self.inside.rest (entries_of (option_map arc_value c.self.inside.last))) _ c.args.key has in
    omega (arith, few, there, c.len.ensures, length-map c.self.inside.full.items arc_value)

pub overflow_add-result-in-Some-find_last : goal.overflow_add-result-in-Some-find_last
overflow_add-result-in-Some-find_last g c =
    let few = rw (← c.self.view_is) at c.requires in
    let has = found-last g.X.Entry.key_of (map arc_value c.self.inside.full.items) (option_map arc_value c.self.inside.last) c.self.inside.rest c.self.invariant c.in-Some-find_last.place _ c.args.key refl c.in-Some-find_last.ensures.has in
    let there = key-within g.X.Entry.key_of (joined (map arc_value c.self.inside.full.items) ++ take c.self.inside.rest (entries_of (option_map arc_value c.self.inside.last))) _ c.args.key has in
    omega (arith, few, there, c.len.ensures, length-map c.self.inside.full.items arc_value)

pub returns-in-Some-find_last-clause-there : goal.returns-in-Some-find_last-clause-there
returns-in-Some-find_last-clause-there g c =
    let has = found-last g.X.Entry.key_of (map arc_value c.self.inside.full.items) (option_map arc_value c.self.inside.last) c.self.inside.rest c.self.invariant c.in-Some-find_last.place _ c.args.key refl c.in-Some-find_last.ensures.has in
    let there = key-within g.X.Entry.key_of (joined (map arc_value c.self.inside.full.items) ++ take c.self.inside.rest (entries_of (option_map arc_value c.self.inside.last))) _ c.args.key has in
    rw (← c.self.view_is) (omega (arith, there, c.len.ensures, length-map c.self.inside.full.items arc_value))

pub returns-in-Some-find_last-clause-has : goal.returns-in-Some-find_last-clause-has
returns-in-Some-find_last-clause-has g c =
    let count : c.len.result ≡ length (map arc_value c.self.inside.full.items) = omega (arith, c.len.ensures, length-map c.self.inside.full.items arc_value) in
    rw (← c.self.view_is)
    (found-last g.X.Entry.key_of (map arc_value c.self.inside.full.items) (option_map arc_value c.self.inside.last) c.self.inside.rest c.self.invariant c.in-Some-find_last.place _ c.args.key (rw count) c.in-Some-find_last.ensures.has)

pub returns-in-None-clause-none : goal.returns-in-None-clause-none
returns-in-None-clause-none g c =
    let past : length (map arc_value c.self.inside.full.items) ≤ c.loop-number.number = let over = c.loop-number-test.false in omega (arith, c.len-number-end.ensures, length-map c.self.inside.full.items arc_value) in
    rw (← c.self.view_is)
    (none-last g.X.Entry.key_of (map arc_value c.self.inside.full.items) (option_map arc_value c.self.inside.last) c.self.inside.rest c.self.invariant c.args.from c.loop-number.number c.args.key past c.in-None.ensures.none c.loop-number.invariant)
