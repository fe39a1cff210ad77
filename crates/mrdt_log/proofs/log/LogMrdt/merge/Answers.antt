use Rattle.std.proofs.Common.{◌∙◌, sym}
use Rattle.mrdt_model.specs.Times.{both, either}
use Rattle.mrdt_model.specs.Executions.{restrict}
use Rattle.live_set.specs.UnitReply.{IsAnyReply}
use Rattle.live_set.proofs.Standing.{merged-live}
use Rattle.mrdt_model.proofs.SameEvents.{own-times}
use Rattle.mrdt_log.specs.Log.{IsAppend}
use Rattle.mrdt_log.specs.Appends.{log_effect, appends-live}
use Rattle.mrdt_log.proofs.log.LogMrdt.merge.Goals as goal

pub returns : goal.returns
returns c x a b lawful closed_a closed_b base left right =
    merged-live log_effect x a b c.base.inside.entries c.left.inside.entries c.right.inside.entries c.in_ok-merge.field-0 (own-times IsAppend IsAnyReply x lawful.well_formed) closed_a closed_b
    (c.base.view_is ∙ base ∙ appends-live (restrict (both a b) x)) (c.left.view_is ∙ left ∙ appends-live (restrict a x)) (c.right.view_is ∙ right ∙ appends-live (restrict b x)) c.in_ok-merge.ensures.rising c.in_ok-merge.ensures.merges
    ∙ sym (appends-live (restrict (either a b) x))
