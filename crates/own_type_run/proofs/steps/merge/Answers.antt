-- A merge lands on the history that its pair was made at.
use Rattle.std.proofs.Common.{◌∙◌, [], sym, ap}
use Rattle.std.proofs.lemmas.List.{append-nil}
use Rattle.own_type_run.proofs.steps.merge.Goals as goal

pub land-requires-clause-history : goal.land-requires-clause-history
land-requires-clause-history g c κs within =
    let made = rw c.in-Land.is at c.in_ok-prepare.ensures.step in
    let at = ap (λ s. s.history) made.0 ∙ ap (λ s. s.history) c.in_ok-pair.ensures.paired.look in
    ([], append-nil c.in-Land.prepared.seen.history ∙ at ∙ ap (λ s. s.history) (sym c.pair.ensures.same))
