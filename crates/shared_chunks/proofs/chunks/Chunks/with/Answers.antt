use Rattle.std.specs.Option.{option_map}
use Rattle.std.specs.Arc.{arc_value}
use Rattle.std.proofs.Common.{arith, length, ◌≤◌, ◌+◌}
use Rattle.shared_chunks.proofs.Joined.{steps-within}
use Rattle.shared_chunks.proofs.chunks.Chunks.with.Goals as goal

pub returns-in_err-shared-clause-steps : goal.returns-in_err-shared-clause-steps
returns-in_err-shared-clause-steps g c =
    let most = steps-within arc_value c.self.inside.full.items (option_map arc_value c.self.inside.last) c.self.inside.rest c.self.invariant in
    let first : c.shared.new.steps ≤ c.args.steps.now + length c.self.inside.full.items = rw (← c.deref.ensures.value) c.shared.ensures.steps in
    rw (← c.self.view_is) (omega (arith, most, first))

pub returns-in_err-push_rest-clause-steps : goal.returns-in_err-push_rest-clause-steps
returns-in_err-push_rest-clause-steps g c =
    let most = steps-within arc_value c.self.inside.full.items (option_map arc_value c.self.inside.last) c.self.inside.rest c.self.invariant in
    let first : c.shared.new.steps ≤ c.args.steps.now + length c.self.inside.full.items = rw (← c.deref.ensures.value) c.shared.ensures.steps in
    let second = c.push_rest.ensures.steps in
    rw (← c.self.view_is) (omega (arith, most, first, second))

pub returns-in_err-push-clause-steps : goal.returns-in_err-push-clause-steps
returns-in_err-push-clause-steps g c =
    let most = steps-within arc_value c.self.inside.full.items (option_map arc_value c.self.inside.last) c.self.inside.rest c.self.invariant in
    let first : c.shared.new.steps ≤ c.args.steps.now + length c.self.inside.full.items = rw (← c.deref.ensures.value) c.shared.ensures.steps in
    let second = c.push_rest.ensures.steps in
    let last = c.tick.ensures in
    rw (← c.self.view_is) (omega (arith, most, first, second, last))

pub returns-clause-steps : goal.returns-clause-steps
returns-clause-steps g c =
    let most = steps-within arc_value c.self.inside.full.items (option_map arc_value c.self.inside.last) c.self.inside.rest c.self.invariant in
    let first : c.shared.new.steps ≤ c.args.steps.now + length c.self.inside.full.items = rw (← c.deref.ensures.value) c.shared.ensures.steps in
    let second = c.push_rest.ensures.steps in
    let last = c.tick.ensures in
    rw (← c.self.view_is) (omega (arith, most, first, second, last))
