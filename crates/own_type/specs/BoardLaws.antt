-- The laws of the board.
use Rattle.std.proofs.Common.{◌^◌, arith}
use Rattle.mrdt_model.specs.Laws.{KeepsLaws}
use Rattle.greatest_row.specs.Marks.{KeepsMarks}
use Rattle.greatest_row.proofs.Standing.{keeps_range, row_laws}
use Rattle.own_type.specs.Board.{board_marks, board_answer, board_meaning}

pub keeps_marks : KeepsMarks board_marks
keeps_marks = keeps_range 64 1 (2 ^ 32) (omega arith) (omega arith)

pub board_laws : KeepsLaws board_meaning
board_laws = row_laws board_marks keeps_marks board_answer
