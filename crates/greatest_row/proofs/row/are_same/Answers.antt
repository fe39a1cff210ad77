use Rattle.std.proofs.Common.{rules, ℕ, ◌<◌, ◌^◌, get_or}
use Rattle.greatest_row.proofs.Reading.{row-same, numbers-each}
use Rattle.greatest_row.proofs.row.are_same.Goals as goal

pub returns-clause-spelled : goal.returns-clause-spelled
returns-clause-spelled c alike =
    let mine : (i : ℕ) → get_or c.args.left.now i 0 < 2 ^ 64 = search rules in
    let theirs : (i : ℕ) → get_or c.args.right.now i 0 < 2 ^ 64 = search rules in
    row-same c.args.left.now c.args.right.now (numbers-each c.args.left.now mine) (numbers-each c.args.right.now theirs) alike
