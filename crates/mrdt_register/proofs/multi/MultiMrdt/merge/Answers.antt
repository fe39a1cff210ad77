use Rattle.std.proofs.Common.{◌∙◌}
use Rattle.mrdt_model.proofs.SameEvents.{own-times}
use Rattle.live_set.proofs.Standing.{merged-live}
use Rattle.live_set.specs.UnitReply.{IsAnyReply}
use Rattle.mrdt_register.specs.Writes.{IsWrite}
use Rattle.mrdt_register.specs.Multi.{write_effect}
use Rattle.mrdt_register.proofs.multi.MultiMrdt.merge.Goals as goal

pub returns : goal.returns
returns c x a b lawful closed_a closed_b base left right =
    merged-live write_effect x a b c.base.inside.live c.left.inside.live c.right.inside.live c.in_ok-merge.field-0 (own-times IsWrite IsAnyReply x lawful.well_formed) closed_a closed_b
    (c.base.view_is ∙ base) (c.left.view_is ∙ left) (c.right.view_is ∙ right) c.in_ok-merge.ensures.rising c.in_ok-merge.ensures.merges
