-- The lines of an input, and the words of a line.
use Rattle.std.specs.Prelude.{ℕ, Bool, true, ◌&&◌, not, nat_eq, nat_le, List, [], ◌∷◌, if◌then◌else◌, length}
use Rattle.std.specs.List.{list_all, slice_split}

-- a byte in front of the first line
abbrev pub onto_first : ℕ → List (List ℕ) → List (List ℕ)
onto_first b [] = (b ∷ []) ∷ []
onto_first b (line ∷ lines) = (b ∷ line) ∷ lines

-- the input cut at byte 10; a last line without it counts if it is not empty
abbrev pub lines_of : List ℕ → List (List ℕ)
lines_of [] = []
lines_of (b ∷ bs) = if nat_eq b 10 then [] ∷ lines_of bs else onto_first b (lines_of bs)

-- the pieces between spaces, empty ones too
abbrev pub words_of : List ℕ → List (List ℕ)
words_of line = slice_split (λ b. nat_eq b 32) line

-- an empty line, or one that begins with `#`
abbrev pub is_silent : List ℕ → Bool
is_silent [] = true
is_silent (b ∷ bs) = nat_eq b 35

abbrev pub is_empty : List ℕ → Bool
is_empty word = nat_eq (length word) 0

-- bytes 32 to 126, as words that are not empty, parted by one space each
abbrev pub is_plain : List ℕ → Bool
is_plain line = list_all (λ b. nat_le 32 b && nat_le b 126) line && list_all (λ word. not (is_empty word)) (words_of line)
