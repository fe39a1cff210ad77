-- Rows of numbers by their places. A place behind the end of a row has 0.
use Rattle.std.specs.Prelude.{◌≡◌, ℕ, ◌+◌, ◌<◌, ◌≤◌, ◌^◌, nat_lt, if◌then◌else◌, max, List, [], ◌∷◌, ◌++◌, replicate, get_or}
use Rattle.std.specs.List.{flat_map, AllByRecursion}
use Rattle.branch_wire.specs.Fields.{number}
use Rattle.greatest_row.specs.declared.mark.Mark.{Mark}

-- the greater number of each place
abbrev pub join : List ℕ → List ℕ → List ℕ
join [] right = right
join (m ∷ left) [] = m ∷ left
join (m ∷ left) (n ∷ right) = max m n ∷ join left right

-- a number at a place, and 0 before it
abbrev pub one : Mark → List ℕ
one mark = replicate mark.place 0 ++ mark.number ∷ []

-- eight bytes for each place
abbrev pub row_spelling : List ℕ → List ℕ
row_spelling row = flat_map number row

abbrev pub AreNumbers : List ℕ → Type 0
AreNumbers row = AllByRecursion (λ n. n < 2 ^ 64) row

abbrev pub IsRowSpelling : List ℕ → Type 0
IsRowSpelling bytes = (row : List ℕ) × AreNumbers row × (bytes ≡ row_spelling row)

abbrev pub greater : Mark → ℕ → ℕ → Mark
greater best place n = if nat_lt best.number n then record { place = place; number = n } else best

-- the best so far, and the places from here on
abbrev pub best_of : Mark → ℕ → List ℕ → Mark
best_of best place [] = best
best_of best place (n ∷ row) = best_of (greater best place n) (place + 1) row

-- the greatest number with the least place that has it; the number is 0 where each is 0
abbrev pub highest : List ℕ → Mark
highest row = best_of (record { place = 0; number = 0 }) 0 row

-- no place has a greater number, and each smaller place a smaller one
pub record IsHighest (at : ℕ → ℕ) (mark : Mark) : Type 0 where
  pub there : at mark.place ≡ mark.number
  pub greatest : (place : ℕ) → at place ≤ mark.number
  pub least : (place : ℕ) → place < mark.place → at place < mark.number

-- a mark in sixteen bytes
abbrev pub mark_spelling : Mark → List ℕ
mark_spelling mark = number mark.place ++ number mark.number

-- the place is one of so many, and the number lies between two
abbrev pub InRange : ℕ → ℕ → ℕ → Mark → Type 0
InRange places least most mark = (mark.place < places) × (least ≤ mark.number) × (mark.number ≤ most)

abbrev pub IsMarkSpelling : ℕ → ℕ → ℕ → List ℕ → Type 0
IsMarkSpelling places least most bytes = (mark : Mark) × InRange places least most mark × (bytes ≡ mark_spelling mark)
