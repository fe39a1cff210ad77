use Rattle.std.proofs.Common.{◌≡◌, ℕ, None, List, [], ◌∷◌, length, refl, ◌∙◌, ap, sym, arith}
use Rattle.mrdt_model.specs.Spelled.{capped}
use Rattle.greatest_row.specs.Rows.{row_spelling}
use Rattle.greatest_row.proofs.Reading.{row-length}
use Rattle.largest_value.specs.Largest.{largest_of}
use Rattle.largest_value.proofs.register.LargestMrdt.answer.Goals as goal

-- a row that is spelled in no bytes has no place
none-spelled : (row : List ℕ) (query : Unit {0}) → capped (length (row_spelling row)) ≡ 0 → None ≡ largest_of row query
none-spelled [] query none = refl
none-spelled (n ∷ row) query none = let size = row-length (n ∷ row) in absurd (omega (arith, size, none))

pub returns-then-spelled_length-eq0 : goal.returns-then-spelled_length-eq0
returns-then-spelled_length-eq0 c x lawful is =
    none-spelled c.self.inside.row c.args._query.now (sym c.spelled_length.ensures ∙ c.if-spelled_length-eq0.true)
    ∙ ap (λ row. largest_of row c.args._query.now) (c.self.view_is ∙ is)
