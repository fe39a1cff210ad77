-- What a board means.
use Rattle.std.specs.Prelude.{ℕ, ◌-◌, ◌^◌, ◌==◌, if◌then◌else◌, Option, None, Some, List}
use Rattle.mrdt_model.specs.Laws.{Meaning}
use Rattle.greatest_row.specs.declared.mark.Mark.{Mark}
use Rattle.greatest_row.specs.Rows.{highest, InRange}
use Rattle.greatest_row.specs.Marks.{Marks, marks_in, row_meaning}
use Rattle.own_type.specs.declared.board.BoardQuery.{BoardQuery}
use Rattle.own_type.specs.declared.board.BoardQuery.TheVariants.{Highest}
use Rattle.own_type.specs.declared.board.Standing.{Standing}

-- An operation raises at one of 64 places one more than its number, which has 32 bits: a row has 0 where nothing was set.
abbrev pub IsRaise : Mark → Type 0
IsRaise mark = InRange 64 1 (2 ^ 32) mark

abbrev pub board_marks : Marks Mark
board_marks = marks_in 64 1 (2 ^ 32)

-- none where no number was set
abbrev pub standing_of : Mark → Option Standing
standing_of mark = if mark.number == 0 then None else Some (record { candidate = mark.place; number = mark.number - 1 })

-- the candidate with the greatest number, the least of several
abbrev pub board_answer : List ℕ → BoardQuery → Option Standing
board_answer row Highest = standing_of (highest row)

abbrev pub board_meaning : Meaning (List ℕ) Mark (Unit {0}) BoardQuery (Option Standing)
board_meaning = row_meaning board_marks board_answer
