use Rattle.std.proofs.Common.{◌∙◌, ap, subst, Some}
use Rattle.std.specs.Prelude.{IfOk}
use Rattle.mrdt_map.specs.Keyed.{value_at, MergesAt}
use Rattle.mrdt_map.proofs.tables.merge_key.Goals as goal

pub returns-clause-here : goal.returns-clause-here
returns-clause-here g c =
    let t = g.T.Inner.meaning in
    let mine = c.args.mine.now in
    let both = c.args.both in
    subst (λ o. IfOk c.merged_at.result (λ table. MergesAt t o (Some mine.1) (value_at both mine.0) (value_at table mine.0))) (c.value_along-old.ensures.value ∙ ap (value_at c.args.base.now) (c.get.ensures ∙ c.key.ensures)) c.merged_at.ensures.here
