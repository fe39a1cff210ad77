use Rattle.std.proofs.Common.{subst}
use Rattle.std.proofs.lemmas.Result.{IfOk-weaker}
use Rattle.mrdt_model.specs.Laws.{Merges, StandsAsWell}
use Rattle.mrdt_model.proofs.Executions.{merges-copied}
use Rattle.mrdt_both.proofs.part.InParts.merged.Goals as goal

pub returns-then-same : goal.returns-then-same
returns-then-same g c =
    let m = g.Self.Mrdt.meaning in
    let base = c.args.base.now in
    let left = c.args.left.now in
    let right = c.args.right.now in
    let same = subst (λ v. m.is_same v left) c.get.ensures (subst (λ v. m.is_same c.get.result.now v) c.get-2.ensures (c.same.ensures.same.0 c.if-same.true)) in
    let merge = g.met.Self.Mrdt.laws.unchanged_left base left right same in
    IfOk-weaker c.copied.result (StandsAsWell m right) (Merges m base left right) (λ v copy. merges-copied m base left right right v merge copy) c.copied.ensures.stands

pub returns-then-same-2 : goal.returns-then-same-2
returns-then-same-2 g c =
    let m = g.Self.Mrdt.meaning in
    let base = c.args.base.now in
    let left = c.args.left.now in
    let right = c.args.right.now in
    let same = subst (λ v. m.is_same v right) c.get-3.ensures (subst (λ v. m.is_same c.get-3.result.now v) c.get-4.ensures (c.same-2.ensures.same.0 c.if-same-2.true)) in
    let merge = g.met.Self.Mrdt.laws.unchanged_right base left right same in
    IfOk-weaker c.copied-then-same-2.result (StandsAsWell m left) (Merges m base left right) (λ v copy. merges-copied m base left right left v merge copy) c.copied-then-same-2.ensures.stands
