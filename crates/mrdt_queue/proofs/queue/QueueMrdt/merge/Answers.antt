use Rattle.std.proofs.Common.{◌∙◌, subst}
use Rattle.mrdt_model.specs.Times.{both}
use Rattle.mrdt_model.specs.Executions.{restrict}
use Rattle.live_set.specs.Entries.{MergesEntries}
use Rattle.mrdt_queue.specs.Queue.{content}
use Rattle.mrdt_queue.specs.Content.{content-union}
use Rattle.mrdt_queue.proofs.queue.QueueMrdt.merge.Goals as goal

pub returns : goal.returns
returns c x a b lawful closed_a closed_b base left right =
    let merged = c.in_ok-merge.field-0 in
    let one = subst (λ ks. MergesEntries ks c.left.inside.entries c.right.inside.entries merged) (c.base.view_is ∙ base) c.in_ok-merge.ensures.merges in
    let two = subst (λ ks. MergesEntries (content (restrict (both a b) x)) ks c.right.inside.entries merged) (c.left.view_is ∙ left) one in
    let three = subst (λ ks. MergesEntries (content (restrict (both a b) x)) (content (restrict a x)) ks merged) (c.right.view_is ∙ right) two in
    content-union x a b merged lawful.faithful closed_a closed_b c.in_ok-merge.ensures.rising three
