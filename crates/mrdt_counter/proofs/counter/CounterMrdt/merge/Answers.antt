use Rattle.std.proofs.Common.{◌∙◌}
use Rattle.mrdt_model.proofs.SameEvents.{own-times}
use Rattle.live_set.specs.UnitReply.{IsAnyReply}
use Rattle.live_set.proofs.Standing.{merged-live}
use Rattle.mrdt_counter.specs.Counter.{counter_effect, IsCounterOp}
use Rattle.mrdt_counter.proofs.counter.CounterMrdt.merge.Goals as goal

pub returns : goal.returns
returns c x a b lawful closed_a closed_b base left right =
    let live = c.in_ok-merge in
    merged-live counter_effect x a b c.base.inside.adds c.left.inside.adds c.right.inside.adds live.field-0 (own-times IsCounterOp IsAnyReply x lawful.well_formed) closed_a closed_b
    (c.base.view_is ∙ base) (c.left.view_is ∙ left) (c.right.view_is ∙ right) live.ensures.rising live.ensures.merges
