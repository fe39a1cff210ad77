use Rattle.std.proofs.Common.{◌∙◌}
use Rattle.branch_wire.specs.Fields.{short_number}
use Rattle.heads_journal.specs.Format.{number_fields}
use Rattle.heads_journal.specs.Headings.{tail_fields}
use Rattle.heads_journal.proofs.Headings.{four_parts, heading-from}
use Rattle.heads_journal.proofs.header.take_heading.Goals as goal

pub returns-in_err-tail-clause-back : goal.returns-in_err-tail-clause-back
returns-in_err-tail-clause-back c x rest fits is =
    let one = c.in_ok-letters.ensures.back x.letters _ fits.letters (is ∙ four_parts x.letters (short_number x.version) (number_fields x.numbers) (tail_fields x.tail) rest) in
    let two = c.in_ok-version.ensures.back x.version _ fits.version one.1 in
    let three = c.in_ok-numbers.ensures.back x.numbers _ fits.numbers two.1 in
    absurd (c.in_err-tail.ensures.back x.tail rest fits.tail three.1).0

pub returns-clause-back : goal.returns-clause-back
returns-clause-back c x rest fits is =
    let one = c.in_ok-letters.ensures.back x.letters _ fits.letters (is ∙ four_parts x.letters (short_number x.version) (number_fields x.numbers) (tail_fields x.tail) rest) in
    let two = c.in_ok-version.ensures.back x.version _ fits.version one.1 in
    let three = c.in_ok-numbers.ensures.back x.numbers _ fits.numbers two.1 in
    let four = c.in_ok-tail.ensures.back x.tail rest fits.tail three.1 in
    (heading-from c.in_ok-letters.letters x.letters c.in_ok-version.version x.version c.in_ok-numbers.numbers x.numbers c.in_ok-tail.tail x.tail one.0 two.0 three.0 four.0, four.1)
