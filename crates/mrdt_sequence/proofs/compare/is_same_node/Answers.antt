use Rattle.std.proofs.lemmas.Bool.{both_ways}
use Rattle.mrdt_sequence.specs.Alike.{same_node, place_one}
use Rattle.mrdt_sequence.proofs.compare.is_same_node.Goals as goal

pub returns-then-is_same_place-clause-spelled : goal.returns-then-is_same_place-clause-spelled
returns-then-is_same_place-clause-spelled c a b is =
    let mine = c.args.mine.now in
    let theirs = c.args.theirs.now in
    let times = c.is_same_place.ensures.times in
    let parents = c.is_same_place.ensures.parents in
    let one = place_one mine theirs a b times.0 times.1 parents.0 parents.1 is in
    same_node mine theirs one.0 one.1 one.2 (c.same.ensures.spelled a b one.3)

pub returns-else-is_same_place-clause-spelled : goal.returns-else-is_same_place-clause-spelled
returns-else-is_same_place-clause-spelled c a b is =
    let times = c.is_same_place.ensures.times in
    let parents = c.is_same_place.ensures.parents in
    let one = place_one c.args.mine.now c.args.theirs.now a b times.0 times.1 parents.0 parents.1 is in
    absurd (both_ways c.is_same_place.result c.if-is_same_place.false (c.is_same_place.ensures.same.1 (one.0, one.1, one.2)))
