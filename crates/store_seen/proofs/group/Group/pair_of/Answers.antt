-- The next pair is not with the commit either.
use Rattle.std.proofs.Common.{◌≡◌, ◌<◌, length, get_or, ap, sym, ◌∙◌, arith, below_more}
use Rattle.std.proofs.lemmas.List.{get_or-map}
use Rattle.store_seen.specs.Groups.{others_of}
use Rattle.store_seen.proofs.group.Group.pair_of.Goals as goal

pub loop-pair-preserved : goal.loop-pair-preserved
loop-pair-preserved g c =
    let items = c.deref-pair-items.result.now in
    let i = c.loop-pair.pair-index in
    let lt : i < length items = omega arith in
    let at : get_or (others_of items) i 0 ≡ c.pair.inside.other = get_or-map (λ p. p.other) items i c.pair-item.result 0 lt ∙ ap (λ p. p.other) (sym c.pair-item.is) ∙ ap (λ p. p.other) (sym c.pair.view_is) in
    below_more _ _ c.loop-pair.invariant (λ is. c.if-pair-commit.false (sym at ∙ is))
