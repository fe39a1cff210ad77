-- What is prepared stands at the history that the core has.
use Rattle.std.proofs.Common.{◌∙◌, ap, []}
use Rattle.std.proofs.lemmas.List.{append-nil}
use Rattle.core_tests.proofs.mixed.merge.Goals as goal

pub returns-clause-history : goal.returns-clause-history
returns-clause-history g c =
    let does = rw c.in-Ok-Land.field-0-is at c.in-Ok-Land.ensures.step in
    let at = ap (λ s. s.history) does.0 ∙ ap (λ s. s.history) c.in-Ok-group.ensures.grouped.look in
    ([], append-nil c.in-Ok-Land.job.seen.history ∙ at)
