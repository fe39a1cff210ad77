use Rattle.std.proofs.Common.{◌∙◌, ap}
use Rattle.greatest_row.specs.Rows.{join}
use Rattle.greatest_row.proofs.Standing.{row_merges}
use Rattle.own_type.specs.Board.{board_marks, board_answer}
use Rattle.own_type.specs.BoardLaws.{keeps_marks}
use Rattle.own_type.proofs.board.BoardMrdt.merge.Goals as goal

pub returns : goal.returns
returns c =
    row_merges board_marks keeps_marks board_answer c.args._base.now c.args.left.now c.args.right.now _
    (c.in_ok-merged.ensures ∙ ap (λ l. join l c.right.inside.row) c.left.view_is ∙ ap (join c.args.left.now) c.right.view_is)
