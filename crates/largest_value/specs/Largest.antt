-- What a register of the largest value means, and its laws.
use Rattle.std.specs.Prelude.{ℕ, ◌-◌, ◌^◌, Option, None, Some, List, [], ◌∷◌}
use Rattle.std.proofs.Common.{arith}
use Rattle.mrdt_model.specs.Laws.{Meaning, KeepsLaws}
use Rattle.greatest_row.specs.declared.mark.Mark.{Mark}
use Rattle.greatest_row.specs.Rows.{InRange}
use Rattle.greatest_row.specs.Marks.{Marks, KeepsMarks, marks_in, row_meaning}
use Rattle.greatest_row.proofs.Standing.{keeps_range, row_laws}

-- An operation raises a number of 64 bits at place 0: a row has no place where nothing was set.
abbrev pub IsRaise : Mark → Type 0
IsRaise mark = InRange 1 0 (2 ^ 64 - 1) mark

abbrev pub raise_marks : Marks Mark
raise_marks = marks_in 1 0 (2 ^ 64 - 1)

-- the number of the place; none where there is no place
abbrev pub largest_of : List ℕ → Unit {0} → Option ℕ
largest_of [] query = None
largest_of (n ∷ row) query = Some n

abbrev pub largest_meaning : Meaning (List ℕ) Mark (Unit {0}) (Unit {0}) (Option ℕ)
largest_meaning = row_meaning raise_marks largest_of

pub keeps_marks : KeepsMarks raise_marks
keeps_marks = keeps_range 1 0 (2 ^ 64 - 1) (omega arith) (omega arith)

pub largest_laws : KeepsLaws largest_meaning
largest_laws = row_laws raise_marks keeps_marks largest_of
