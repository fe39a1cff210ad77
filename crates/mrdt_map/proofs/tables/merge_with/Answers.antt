use Rattle.std.proofs.Common.{None, Some}
use Rattle.std.proofs.lemmas.Result.{IfOk-weaker}
use Rattle.std.specs.Option.{option_copied, option_or, unwrap_or}
use Rattle.std.specs.Prelude.{IfOk}
use Rattle.mrdt_model.specs.Laws.{Merges}
use Rattle.mrdt_map.specs.Keyed.{MergesAt}
use Rattle.mrdt_map.specs.AtKeys.{merges-left}
use Rattle.mrdt_map.proofs.Changed.{new-or, both-or}
use Rattle.mrdt_map.proofs.tables.merge_with.Goals as goal

pub returns-in_ok-copy-in-None : goal.returns-in_ok-copy-in-None
returns-in_ok-copy-in-None g c =
    let t = g.T.Inner in
    rw (c.in-None.is, c.in_ok-copy-in-None.ensures) (merges-left t.meaning (option_copied c.args.base) c.args.left.now c.args.left.now (λ x l is. is))

pub returns-in-None-base : goal.returns-in-None-base
returns-in-None-base g c =
    let t = g.T.Inner in
    let l = c.args.left.now in
    let r = c.in-Some.right.now in
    rw (c.in-Some.is, c.in-None-base.is)
    (IfOk-weaker c.merge_values.result (λ m. Merges t.meaning c.initial.result l r (unwrap_or m r)) (λ m. MergesAt t.meaning None (Some l) (Some r) (option_or m (Some r))) (λ m h. new-or t.meaning c.initial.result l r m c.initial.ensures h) c.merge_values.ensures)

pub returns-in-Some-base : goal.returns-in-Some-base
returns-in-Some-base g c =
    let t = g.T.Inner in
    let l = c.args.left.now in
    let r = c.in-Some.right.now in
    let o = c.in-Some-base.base.now in
    let made : IfOk c.merge_values-in-Some-base.result (λ m. Merges t.meaning o l r (unwrap_or m r)) = rw c.get.ensures at c.merge_values-in-Some-base.ensures in
    rw (c.in-Some.is, c.in-Some-base.is)
    (IfOk-weaker c.merge_values-in-Some-base.result (λ m. Merges t.meaning o l r (unwrap_or m r)) (λ m. MergesAt t.meaning (Some o) (Some l) (Some r) (option_or m (Some r))) (λ m h. both-or t.meaning o l r m h) made)
