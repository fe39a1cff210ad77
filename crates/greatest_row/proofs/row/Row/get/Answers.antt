use Rattle.std.proofs.Common.{◌∙◌, sym}
use Rattle.greatest_row.proofs.Reading.{row-same}
use Rattle.greatest_row.proofs.row.Row.get.Goals as goal

pub returns-clause-equal : goal.returns-clause-equal
returns-clause-equal c other known spelled =
    row-same c.in_ok-get_numbers.field-0.items other c.in_ok-get_numbers.ensures.known known (c.in_ok-get_numbers.ensures.spelled ∙ sym spelled)
