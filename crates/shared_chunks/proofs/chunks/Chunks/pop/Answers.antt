use Rattle.std.proofs.Common.{arith}
use Rattle.std.specs.Option.{option_map}
use Rattle.std.specs.Arc.{arc_value}
use Rattle.shared_chunks.proofs.Joined.{popped, popped-opened}
use Rattle.shared_chunks.proofs.chunks.Chunks.pop.Goals as goal

pub returns-then-self-eq0 : goal.returns-then-self-eq0
returns-then-self-eq0 g c =
    let long = rw (← c.self.view_is) at c.requires in
    rw (← c.self.view_is)
    (popped-opened arc_value c.self.inside.full.items c.pop.new.self.items (option_map arc_value c.self.inside.last) c.self.inside.rest c.pop.result c.if-self-eq0.true c.pop.ensures.items (λ some. c.pop.ensures.variant.1 (let ok = c.self.inside.full.ok in omega (arith, ok))) long c.self.invariant).1

pub invariant_of-self : goal.invariant_of-self
invariant_of-self g c =
    let long = rw (← c.self.view_is) at c.requires in
    (popped-opened arc_value c.self.inside.full.items c.pop.new.self.items (option_map arc_value c.self.inside.last) c.self.inside.rest c.pop.result c.if-self-eq0.true c.pop.ensures.items (λ some. c.pop.ensures.variant.1 (let ok = c.self.inside.full.ok in omega (arith, ok))) long c.self.invariant).0

pub returns-else-self-eq0 : goal.returns-else-self-eq0
returns-else-self-eq0 g c =
    rw (← c.self.view_is) (popped arc_value c.self.inside.full.items (option_map arc_value c.self.inside.last) c.self.inside.rest c.if-self-eq0.false c.self.invariant).1
