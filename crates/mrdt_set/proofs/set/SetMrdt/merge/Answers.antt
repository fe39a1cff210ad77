use Rattle.std.proofs.Common.{◌∙◌}
use Rattle.mrdt_model.specs.Times.{either}
use Rattle.mrdt_model.specs.Executions.{restrict}
use Rattle.mrdt_model.proofs.Executions.{restrict-well_formed, closed_either}
use Rattle.live_set.specs.UnitReply.{IsAnyReply, no_reply}
use Rattle.mrdt_set.specs.Set.{IsSetOp}
use Rattle.mrdt_set.proofs.Standing.{set-found, merged-at}
use Rattle.mrdt_set.proofs.set.SetMrdt.merge.Goals as goal

pub returns : goal.returns
returns c x a b lawful closed_a closed_b base left right =
    let w = lawful.well_formed in
    let merged = c.in_ok-merged.field-0 in
    set-found merged (restrict (either a b) x) (restrict-well_formed IsSetOp IsAnyReply no_reply (either a b) x (closed_either a b x closed_a closed_b) w) c.in_ok-merged.ensures.sorted
    (λ k. merged-at c.base.inside.members c.left.inside.members c.right.inside.members merged x a b k w closed_a closed_b (c.base.view_is ∙ base) (c.left.view_is ∙ left) (c.right.view_is ∙ right) (c.in_ok-merged.ensures.merges k))
