-- The place says whether the job is among the first.
use Rattle.std.proofs.Common.{◌<◌, ◌∙◌, length, nat_lt, is_some, ap, sym, subst}
use Rattle.branch_batch.specs.Lists.{place_of}
use Rattle.branch_batch.specs.Lines.{number_of}
use Rattle.branch_batch.proofs.Places.{none_among_first, place_tests}
use Rattle.branch_batch.proofs.line.stands_first.Goals as goal

pub returns-in-Some : goal.returns-in-Some
returns-in-Some g c =
    let jobs = c.args.waiting.now.items in
    let place = c.in-Some.ensures.place in
    let inside : place_of number_of c.args.own jobs < length jobs = subst (λ n. n < length jobs) place c.in-Some.ensures.found in
    ap (λ n. nat_lt n 64) place ∙ place_tests number_of c.args.own 64 jobs inside

pub returns-in-None : goal.returns-in-None
returns-in-None g c = sym (ap is_some (none_among_first number_of c.args.own 64 c.args.waiting.now.items c.in-None.ensures.none))
