use Rattle.std.proofs.Common.{true, refl, sym}
use Rattle.std.proofs.lemmas.Bool.{both_ways}
use Rattle.live_set.proofs.Rising.{same_entry}
use Rattle.live_set.proofs.Alike.{apart}
use Rattle.live_set.proofs.kept.Kept.same.Goals as goal

pub returns-then-is_same_time-clause-spelled : goal.returns-then-is_same_time-clause-spelled
returns-then-is_same_time-clause-spelled g c a b is =
    let range = c.is_same_time.ensures.in_range in
    let parts = apart g.V.Payload.spelling c.args.self.now c.args.other.now a b range.0 range.1 is in
    same_entry c.args.self.now c.args.other.now parts.0 (c.same.ensures.spelled a b parts.1)

pub returns-else-is_same_time-clause-spelled : goal.returns-else-is_same_time-clause-spelled
returns-else-is_same_time-clause-spelled g c a b is =
    let range = c.is_same_time.ensures.in_range in
    let parts = apart g.V.Payload.spelling c.args.self.now c.args.other.now a b range.0 range.1 is in
    absurd (both_ways c.is_same_time.result c.if-is_same_time.false (c.is_same_time.ensures.same.1 parts.0))
