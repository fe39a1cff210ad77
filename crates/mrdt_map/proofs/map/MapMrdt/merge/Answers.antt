use Rattle.std.proofs.lemmas.Result.{IfOk-weaker}
use Rattle.mrdt_model.specs.Laws.{Merges, StandsAsWell}
use Rattle.mrdt_model.proofs.Executions.{merges-copied}
use Rattle.mrdt_map.specs.Keyed.{map_meaning}
use Rattle.mrdt_map.specs.OnKeys.{merges}
use Rattle.mrdt_map.specs.MapLaws.{map_laws}
use Rattle.mrdt_map.proofs.map.MapMrdt.merge.Goals as goal

pub returns-then-same : goal.returns-then-same
returns-then-same g c =
    let m = map_meaning g.T.Mrdt.meaning in
    let base = c.args.base.now in
    let left = c.args.left.now in
    let right = c.args.right.now in
    let merge = (map_laws g.T.Mrdt.meaning g.met.T.Mrdt.laws).unchanged_left base left right (c.same.ensures.same.0 c.if-same.true) in
    IfOk-weaker c.copy.result (StandsAsWell m right) (Merges m base left right) (λ v copy. merges-copied m base left right right v merge copy) c.copy.ensures.stands

pub returns-then-same-2 : goal.returns-then-same-2
returns-then-same-2 g c =
    let m = map_meaning g.T.Mrdt.meaning in
    let base = c.args.base.now in
    let left = c.args.left.now in
    let right = c.args.right.now in
    let merge = (map_laws g.T.Mrdt.meaning g.met.T.Mrdt.laws).unchanged_right base left right (c.same-2.ensures.same.0 c.if-same-2.true) in
    IfOk-weaker c.copy-then-same-2.result (StandsAsWell m left) (Merges m base left right) (λ v copy. merges-copied m base left right left v merge copy) c.copy-then-same-2.ensures.stands

pub returns : goal.returns
returns g c =
    let m = c.in_ok-merged in
    rw (← c.base.view_is, ← c.left.view_is, ← c.right.view_is) (merges g.T.Mrdt.meaning c.base.inside.entries c.left.inside.entries c.right.inside.entries m.field-0 m.ensures.ordered m.ensures.values)
