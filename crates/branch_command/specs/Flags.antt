-- The flag by which words ask to be told more.
use Rattle.std.specs.Prelude.{ℕ, Bool, false, ◌||◌, List, [], ◌∷◌, codes, bytes_eq, if◌then◌else◌}

-- whether a word asks for it
abbrev pub is_flag : List ℕ → Bool
is_flag word = bytes_eq word (codes "--verbose") || bytes_eq word (codes "-v")

-- whether no word behind this one does: the flag stands once, and behind `--` no word is an option
abbrev pub is_last : List ℕ → Bool
is_last word = is_flag word || bytes_eq word (codes "--")

-- whether one of some words does
abbrev pub flag_among : List (List ℕ) → Bool
flag_among [] = false
flag_among (word ∷ words) = if is_last word then is_flag word else flag_among words

-- all but that word
abbrev pub but_flag : List (List ℕ) → List (List ℕ)
but_flag [] = []
but_flag (word ∷ words) =
    if is_last word then (if is_flag word then words else word ∷ words) else word ∷ but_flag words

-- whether a word behind the first one, the command's, asks to be told more
abbrev pub has_flag : List (List ℕ) → Bool
has_flag [] = false
has_flag (first ∷ more) = flag_among more

-- and all other words: of a flag that stands twice one is left
abbrev pub without_flag : List (List ℕ) → List (List ℕ)
without_flag [] = []
without_flag (first ∷ more) = first ∷ but_flag more
