use Rattle.std.proofs.Common.{◌∙◌, ap}
use Rattle.mrdt_model.specs.Executions.{restrict}
use Rattle.mrdt_register.specs.Lww.{later, latest}
use Rattle.mrdt_register.specs.Tops.{latest-union}
use Rattle.mrdt_register.proofs.lww.LwwMrdt.merge.Goals as goal

pub returns : goal.returns
returns c x a b lawful closed_a closed_b base left right =
    c.in_ok-later_of.ensures ∙ ap (λ o. later o c.right.inside.last) (c.left.view_is ∙ left) ∙ ap (later (latest (restrict a x))) (c.right.view_is ∙ right) ∙ latest-union x a b
