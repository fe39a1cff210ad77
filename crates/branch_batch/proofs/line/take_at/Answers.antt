-- The job at that place is the first with the number.
use Rattle.std.proofs.Common.{rules, ◌≡◌, ◌∙◌, slice_get, IfSome, IsSome, ap, sym, subst}
use Rattle.branch_batch.specs.Lists.{first_of}
use Rattle.branch_batch.specs.Lines.{number_of}
use Rattle.branch_batch.proofs.Places.{place_get, first_number, removed}
use Rattle.branch_batch.proofs.line.take_at.Goals as goal

pub returns-clause-taken : goal.returns-clause-taken
returns-clause-taken g c =
    let jobs = c.args.waiting.now.items in
    let k = c.in_ok-place.place in
    let some : IsSome c.remove.result = search rules in
    removed c.remove.result jobs k c.in_ok-place.ensures.found some c.remove.ensures.value
    ∙ (ap (λ n. slice_get jobs n) c.in_ok-place.ensures.place ∙ place_get number_of c.args.number jobs)

pub returns-clause-number : goal.returns-clause-number
returns-clause-number g c =
    let jobs = c.args.waiting.now.items in
    let k = c.in_ok-place.place in
    let some : IsSome c.remove.result = search rules in
    let taken : c.remove.result ≡ first_of number_of c.args.number jobs =
    removed c.remove.result jobs k c.in_ok-place.ensures.found some c.remove.ensures.value
    ∙ (ap (λ n. slice_get jobs n) c.in_ok-place.ensures.place ∙ place_get number_of c.args.number jobs) in
    subst (λ r. IfSome r (λ job. job.number ≡ c.args.number)) (sym taken) (first_number number_of c.args.number jobs)
