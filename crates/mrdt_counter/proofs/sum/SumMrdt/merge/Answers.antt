use Rattle.std.proofs.Common.{◌∙◌, subst, sym, FitsSigned}
use Rattle.std.proofs.lemmas.Int.{int_wrap_fits}
use Rattle.std.specs.Int.{w128}
use Rattle.mrdt_counter.specs.Sums.{total-union}
use Rattle.mrdt_counter.proofs.Totals.{union-fits}
use Rattle.mrdt_model.specs.Times.{either}
use Rattle.mrdt_counter.proofs.sum.SumMrdt.merge.Goals as goal

pub returns : goal.returns
returns c x a b lawful closed_a closed_b base left right =
    let union = total-union x a b in
    let fits = subst (FitsSigned w128) (sym union) (union-fits x (either a b) lawful) in
    rw (base, left, right) at c.merged.ensures ∙ int_wrap_fits w128 _ fits ∙ union
