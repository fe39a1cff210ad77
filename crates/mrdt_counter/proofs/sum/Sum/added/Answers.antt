use Rattle.std.proofs.Common.{rules, ◌+ℤ◌, ◌∙◌, ap, FitsSigned, w64}
use Rattle.std.proofs.lemmas.Int.{wrapping_add_is, to_z-of_z}
use Rattle.std.specs.Int.{int_wrap, w128}
use Rattle.mrdt_counter.proofs.sum.Sum.added.Goals as goal

pub returns : goal.returns
returns c =
    let f : FitsSigned w128 c.self.inside.total = search rules in
    let g : FitsSigned w128 c.args.amount = search rules in
    rw (c.from.ensures, to_z-of_z w64 c.args.amount c.ranges.amount) (wrapping_add_is w128 c.self.inside.total c.args.amount f g ∙ ap (λ z. int_wrap w128 (z +ℤ c.args.amount)) c.self.view_is)
