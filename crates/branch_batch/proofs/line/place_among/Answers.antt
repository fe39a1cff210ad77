-- A job with the number is the first, and one without it is not.
use Rattle.std.proofs.Common.{rules, ◌≡◌, ◌<◌, ◌==◌, true, false, length, slice_get, Some, sym, refl, arith}
use Rattle.std.proofs.lemmas.Option.{slice_get_read}
use Rattle.branch_batch.specs.Lines.{number_of}
use Rattle.branch_batch.proofs.Places.{place_hit, place_miss}
use Rattle.branch_batch.proofs.line.place_among.Goals as goal

pub returns-then-index-number-clause-place : goal.returns-then-index-number-clause-place
returns-then-index-number-clause-place g c =
    let jobs = c.args.waiting.now.items in
    let k = c.loop-place.place in
    let job = c.index.result.now in
    let below : k < length jobs = search rules in
    let at : slice_get jobs k ≡ Some job = slice_get_read jobs (length jobs) k job refl below c.index.ensures in
    let is : (number_of job == c.args.number) ≡ true = search rules in
    sym (place_hit number_of c.args.number jobs k job at c.loop-place.invariant is)

pub loop-place-preserved : goal.loop-place-preserved
loop-place-preserved g c =
    let jobs = c.args.waiting.now.items in
    let k = c.loop-place.place in
    let job = c.index.result.now in
    let below : k < length jobs = search rules in
    let at : slice_get jobs k ≡ Some job = slice_get_read jobs (length jobs) k job refl below c.index.ensures in
    let is : (number_of job == c.args.number) ≡ false = search rules in
    omega (arith, place_miss number_of c.args.number jobs k job at c.loop-place.invariant is)
