use Rattle.std.proofs.Common.{◌≡◌, Some, None}
use Rattle.live_set.specs.Finding.{ChangesAt}
use Rattle.live_set.specs.Walks.{first_time, earlier_of, payload_first}
use Rattle.live_set.proofs.Merging.{merging_start, merging_more, merging_end, merging_shorter}
use Rattle.live_set.proofs.live.Live.merge.Goals as goal

pub loop-time-init : goal.loop-time-init
loop-time-init g c =
    rw (c.ahead-base_ahead.ensures.items, c.ahead-right_ahead.ensures.items, c.in_ok-merged.ensures)
    (merging_start c.args.base.now c.args.left.now c.args.right.now c.ahead-base_ahead.ensures.rising c.ahead-right_ahead.ensures.rising)

pub loop-time-smaller : goal.loop-time-smaller
loop-time-smaller g c =
    let now = c.loop-time in
    let first : earlier_of (first_time now.base_ahead) (first_time now.right_ahead) ≡ Some c.in-Some.time = cc c.in-Some.ensures in
    let fewer = merging_shorter now.base_ahead now.right_ahead c.in-Some.time first in
    rw (c.take_at-old.ensures.rest, c.take_at-new.ensures.rest) fewer

pub loop-time-preserved : goal.loop-time-preserved
loop-time-preserved g c =
    let now = c.loop-time in
    let t = c.in-Some.time in
    let first : earlier_of (first_time now.base_ahead) (first_time now.right_ahead) ≡ Some t = cc c.in-Some.ensures in
    let changes : ChangesAt t (payload_first now.base_ahead t) (payload_first now.right_ahead t) now.merged c.change.new.self = rw (c.take_at-old.ensures.payload, c.take_at-new.ensures.payload) at c.in_ok-change.ensures in
    let more = merging_more c.args.base.now c.args.left.now c.args.right.now now.base_ahead now.right_ahead now.merged c.change.new.self t now.invariant first changes in
    rw (c.take_at-old.ensures.rest, c.take_at-new.ensures.rest) more

pub returns-clause-merges : goal.returns-clause-merges
returns-clause-merges g c =
    let now = c.loop-time in
    let none : earlier_of (first_time now.base_ahead) (first_time now.right_ahead) ≡ None = cc c.in_default.ensures in
    merging_end c.args.base.now c.args.left.now c.args.right.now now.base_ahead now.right_ahead now.merged now.invariant none
