use Rattle.std.proofs.Common.{rules, ◌∙◌, ap, FitsSigned}
use Rattle.std.specs.Int.{w128}
use Rattle.std.proofs.lemmas.Int.{to_z-of_z}
use Rattle.mrdt_counter.specs.Counter.{sum_of}
use Rattle.mrdt_counter.proofs.Next.{amounts_sum}
use Rattle.mrdt_counter.proofs.counter.Counter.value.Goals as goal

pub returns : goal.returns
returns c =
    let fits : FitsSigned w128 c.amount.result = search rules in
    to_z-of_z w128 c.amount.result fits ∙ c.amount.ensures ∙ amounts_sum c.self.inside.adds ∙ ap sum_of c.self.view_is
