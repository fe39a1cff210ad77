use Rattle.std.proofs.Common.{◌≡◌, ◌∷◌, [], drop, ◌∙◌, true, sym}
use Rattle.keyed_slots.proofs.Places.{first_is, none_first}
use Rattle.mrdt_map.proofs.Same.{left-longer, apart-longer, first-same, ends-same, ends-together, first-alike}
use Rattle.mrdt_map.proofs.tables.are_same.Goals as goal

pub returns-in-None-clause-same : goal.returns-in-None-clause-same
returns-in-None-clause-same g c =
    let walk = c.loop-slot.walk in
    let rest = first_is walk c.in-Some.slot.now (sym c.in-Some.ensures) in
    (λ yes. absurd (cc yes), λ all. absurd (apart-longer g.T.Inner.meaning c.args.left.now c.args.right.now walk c.loop-slot.others (drop 1 walk) c.in-Some.slot.now rest (none_first c.loop-slot.others (sym c.in-None.ensures)) c.loop-slot.invariant all))

pub returns-in-None-clause-spelled : goal.returns-in-None-clause-spelled
returns-in-None-clause-spelled g c short alike =
    let walk = c.loop-slot.walk in
    let rest = first_is walk c.in-Some.slot.now (sym c.in-Some.ensures) in
    absurd (left-longer g.T.Inner.meaning c.args.left.now c.args.right.now walk c.loop-slot.others (drop 1 walk) c.in-Some.slot.now rest (none_first c.loop-slot.others (sym c.in-None.ensures)) c.loop-slot.invariant short alike)

pub returns-then-not-is_same_slot-clause-same : goal.returns-then-not-is_same_slot-clause-same
returns-then-not-is_same_slot-clause-same g c =
    let walk = c.loop-slot.walk in
    let others = c.loop-slot.others in
    let slot = c.in-Some.slot.now in
    let other = c.in-Some-first.other.now in
    (λ yes. absurd (cc yes), λ all. sym c.if-not-is_same_slot.true ∙ c.is_same_slot.ensures.same.1 (first-same g.T.Inner.meaning c.args.left.now c.args.right.now walk others (drop 1 walk) (drop 1 others) slot other (first_is walk slot (sym c.in-Some.ensures)) (first_is others other (sym c.in-Some-first.ensures)) c.loop-slot.invariant all))

pub returns-then-not-is_same_slot-clause-spelled : goal.returns-then-not-is_same_slot-clause-spelled
returns-then-not-is_same_slot-clause-spelled g c short alike =
    let walk = c.loop-slot.walk in
    let others = c.loop-slot.others in
    let slot = c.in-Some.slot.now in
    let other = c.in-Some-first.other.now in
    let first = first-alike g.T.Inner.meaning c.args.left.now c.args.right.now walk others (drop 1 walk) (drop 1 others) slot other (first_is walk slot (sym c.in-Some.ensures)) (first_is others other (sym c.in-Some-first.ensures)) c.loop-slot.invariant short alike in
    let yes : c.is_same_slot.result ≡ true = c.is_same_slot.ensures.spelled first.0 first.1 first.2 in
    sym c.if-not-is_same_slot.true ∙ yes

pub returns-clause-same : goal.returns-clause-same
returns-clause-same g c =
    ends-same g.T.Inner.meaning c.args.left.now c.args.right.now (λ x. x.now) c.loop-slot.walk c.loop-slot.others c.first-2.result c.is_none.result (none_first c.loop-slot.walk (sym c.in_default.ensures)) c.first-2.ensures c.is_none.ensures c.loop-slot.invariant

pub returns-clause-spelled : goal.returns-clause-spelled
returns-clause-spelled g c short alike =
    ends-together g.T.Inner.meaning c.args.left.now c.args.right.now (λ x. x.now) c.loop-slot.walk c.loop-slot.others c.first-2.result c.is_none.result (none_first c.loop-slot.walk (sym c.in_default.ensures)) c.first-2.ensures c.is_none.ensures c.loop-slot.invariant short alike
