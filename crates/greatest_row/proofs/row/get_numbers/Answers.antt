use Rattle.std.proofs.Common.{◌≡◌, false, arith, ap, length, length-append}
use Rattle.std.proofs.lemmas.Bool.{both_ways}
use Rattle.branch_wire.specs.Fields.{number}
use Rattle.branch_wire.proofs.Numbers.{length-number}
use Rattle.greatest_row.proofs.Reading.{row-outside}
use Rattle.greatest_row.proofs.row.get_numbers.Goals as goal

pub returns-in_err-number-clause-outside : goal.returns-in_err-number-clause-outside
returns-in_err-number-clause-outside c error inside =
    let open_end : c.is_at_end.result ≡ false = grind arith in
    row-outside c.args.bytes.now c.loop-cursor.cursor c.loop-cursor.numbers.items c.loop-cursor.invariant.0 (λ none. both_ways c.is_at_end.result open_end (c.is_at_end.ensures.1 none)) c.in_err-number.ensures.short.0 inside

pub loop-cursor-smaller : goal.loop-cursor-smaller
loop-cursor-smaller c =
    let size = length-append (number c.in_ok-number.number) c.take_u64.new.self in
    let long = length-number c.in_ok-number.number in
    let is = ap length c.in_ok-number.ensures.ok in
    omega (arith, size, long, is)
