use Rattle.std.proofs.Common.{rules, ◌∙◌, ap, sym, FitsSigned}
use Rattle.std.specs.Int.{w128}
use Rattle.std.proofs.lemmas.Int.{to_z-of_z}
use Rattle.mrdt_model.proofs.SameEvents.{own-times}
use Rattle.live_set.specs.UnitReply.{IsAnyReply}
use Rattle.mrdt_counter.specs.Counter.{IsCounterOp, sum_of}
use Rattle.mrdt_counter.specs.Values.{value-live}
use Rattle.mrdt_counter.proofs.counter.CounterMrdt.answer.Goals as goal

pub returns : goal.returns
returns c x lawful is =
    let fits : FitsSigned w128 c.value.result = search rules in
    to_z-of_z w128 c.value.result fits ∙ c.value.ensures ∙ ap sum_of is ∙ sym (value-live x (own-times IsCounterOp IsAnyReply x lawful.well_formed))
