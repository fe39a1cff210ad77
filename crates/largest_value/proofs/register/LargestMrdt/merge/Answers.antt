use Rattle.std.proofs.Common.{◌∙◌, ap}
use Rattle.greatest_row.specs.Rows.{join}
use Rattle.greatest_row.proofs.Standing.{row_merges}
use Rattle.largest_value.specs.Largest.{raise_marks, largest_of, keeps_marks}
use Rattle.largest_value.proofs.register.LargestMrdt.merge.Goals as goal

pub returns : goal.returns
returns c =
    row_merges raise_marks keeps_marks largest_of c.args._base.now c.args.left.now c.args.right.now _
    (c.in_ok-merged.ensures ∙ ap (λ l. join l c.right.inside.row) c.left.view_is ∙ ap (join c.args.left.now) c.right.view_is)
