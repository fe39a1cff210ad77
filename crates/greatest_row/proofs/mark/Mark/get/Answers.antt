use Rattle.std.proofs.Common.{◌<◌, ◌^◌, [], ◌∙◌, sym, arith}
use Rattle.std.proofs.lemmas.Bool.{both_ways}
use Rattle.std.proofs.lemmas.List.{append-nil}
use Rattle.branch_wire.specs.Fields.{number}
use Rattle.greatest_row.proofs.mark.Mark.get.Goals as goal

pub returns-in_err-number-clause-outside : goal.returns-in_err-number-clause-outside
returns-in_err-number-clause-outside c error inside =
    let places : c.args.places < 2 ^ 64 = c.ranges.places.fits in
    let most : c.args.most < 2 ^ 64 = c.ranges.most.fits in
    let range = inside.1 in
    let first = c.in_ok-place.ensures.back inside.0.place (number inside.0.number) (omega (arith, range.0)) (c.new-cursor.ensures ∙ inside.2) in
    (c.in_err-number.ensures.back inside.0.number [] (omega (arith, range.2)) (first.1 ∙ sym (append-nil (number inside.0.number)))).0

pub returns-else-is_at_end-clause-outside : goal.returns-else-is_at_end-clause-outside
returns-else-is_at_end-clause-outside c error inside =
    let places : c.args.places < 2 ^ 64 = c.ranges.places.fits in
    let most : c.args.most < 2 ^ 64 = c.ranges.most.fits in
    let range = inside.1 in
    let first = c.in_ok-place.ensures.back inside.0.place (number inside.0.number) (omega (arith, range.0)) (c.new-cursor.ensures ∙ inside.2) in
    let second = c.in_ok-number.ensures.back inside.0.number [] (omega (arith, range.2)) (first.1 ∙ sym (append-nil (number inside.0.number))) in
    both_ways c.is_at_end.result c.if-is_at_end.false (c.is_at_end.ensures.1 second.1)
