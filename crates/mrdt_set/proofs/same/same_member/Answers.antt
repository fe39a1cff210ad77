use Rattle.std.proofs.Common.{rules, ◌≡◌, ◌<◌, ◌^◌, length}
use Rattle.mrdt_set.proofs.Walked.{member-front}
use Rattle.mrdt_set.proofs.same.same_member.Goals as goal

pub returns-then-eq-clause-spelled : goal.returns-then-eq-clause-spelled
returns-then-eq-clause-spelled c a b is =
    let mine : length c.args.element.now < 2 ^ 64 = search rules in
    let theirs : length c.args.other.now < 2 ^ 64 = search rules in
    let parts = member-front c.args.element.now c.args.other.now c.args.times.now c.args.others.now a b mine theirs is in
    (parts.0, c.same_times.ensures.spelled a b parts.1)

pub returns-else-eq-clause-spelled : goal.returns-else-eq-clause-spelled
returns-else-eq-clause-spelled c a b is =
    let mine : length c.args.element.now < 2 ^ 64 = search rules in
    let theirs : length c.args.other.now < 2 ^ 64 = search rules in
    let parts = member-front c.args.element.now c.args.other.now c.args.times.now c.args.others.now a b mine theirs is in
    let differ : c.args.element.now ≡ c.args.other.now → ⊥ = search rules in
    absurd (differ parts.0)
