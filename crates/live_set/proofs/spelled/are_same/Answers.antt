use Rattle.std.proofs.Common.{◌≡◌, None, Some, drop, slice_get, refl, sym}
use Rattle.std.proofs.lemmas.Bool.{both_ways}
use Rattle.std.specs.List.{flat_map}
use Rattle.live_set.specs.Spelling.{kept_spelling}
use Rattle.live_set.proofs.Sharing.{alike_apart, alike_spelled, alike_end}
use Rattle.live_set.proofs.spelled.are_same.Goals as goal

pub returns-then-not-same-clause-same : goal.returns-then-not-same-clause-same
returns-then-not-same-clause-same g c =
    let now = c.loop-kept in
    let kept = c.in-Some.kept.now in
    let other = c.in-Some-first.other.now in
    let mine : slice_get now.mine 0 ≡ Some kept = sym c.in-Some.ensures in
    let theirs : slice_get now.theirs 0 ≡ Some other = sym c.in-Some-first.ensures in (
      λ never. absurd (cc never),
      λ same. absurd (both_ways c.same.result c.if-not-same.true (c.same.ensures.same.1 (alike_apart c.args.entries.now c.args.others.now now.mine now.theirs kept other now.invariant mine theirs same))),
    )

pub returns-then-not-same-clause-spelled : goal.returns-then-not-same-clause-spelled
returns-then-not-same-clause-spelled g c spelled =
    let spell = kept_spelling g.V.Payload.spelling in
    let now = c.loop-kept in
    let kept = c.in-Some.kept.now in
    let other = c.in-Some-first.other.now in
    let mine : slice_get now.mine 0 ≡ Some kept = sym c.in-Some.ensures in
    let theirs : slice_get now.theirs 0 ≡ Some other = sym c.in-Some-first.ensures in
    let next = alike_spelled spell c.args.entries.now c.args.others.now now.mine now.theirs kept other now.invariant mine theirs spelled in
    absurd (both_ways c.same.result c.if-not-same.true (c.same.ensures.same.1 (c.same.ensures.spelled (flat_map spell (drop 1 now.mine)) (flat_map spell (drop 1 now.theirs)) next)))

pub returns-clause-same : goal.returns-clause-same
returns-clause-same g c =
    let now = c.loop-kept in
    let none : slice_get now.mine 0 ≡ None = sym c.in_default.ensures in
    let same = alike_end c.args.entries.now c.args.others.now now.mine now.theirs now.invariant none c.requires in
    (λ yes. same, λ is. refl)

pub returns-clause-spelled : goal.returns-clause-spelled
returns-clause-spelled g c spelled =
    let now = c.loop-kept in
    let none : slice_get now.mine 0 ≡ None = sym c.in_default.ensures in
    alike_end c.args.entries.now c.args.others.now now.mine now.theirs now.invariant none c.requires
