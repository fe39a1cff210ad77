use Rattle.greatest_row.proofs.Standing.{row_stands}
use Rattle.own_type.specs.Board.{board_marks, board_answer}
use Rattle.own_type.specs.BoardLaws.{keeps_marks}
use Rattle.own_type.proofs.board.BoardMrdt.get.Goals as goal

pub returns-clause-stands : goal.returns-clause-stands
returns-clause-stands c other spelled = row_stands board_marks keeps_marks board_answer c.args.bytes.now _ other c.in_ok-get.ensures.equal spelled
