-- The part of an input that was told line by line.
use Rattle.std.specs.Prelude.{◌≡◌, ℕ, ◌<◌, ◌⊎◌, List, [], ◌∷◌, ◌++◌, length, false, nat_eq}
use Rattle.std.specs.declared.option.Option.{Option}
use Rattle.std.specs.List.{AllByRecursion, list_any}
use Rattle.std.specs.Io.KnownBytes.{IsAtEnd, Consumes, Appends}
use Rattle.branch_script.specs.Lines.{lines_of}

-- nothing, or bytes of which the last ends a line
abbrev pub IsWholeLines : List ℕ → Type 0
IsWholeLines bytes = (bytes ≡ []) ⊎ ((front : List ℕ) × (bytes ≡ front ++ 10 ∷ []))

abbrev pub HasNoLineEnd : List ℕ → Type 0
HasNoLineEnd bytes = list_any (λ b. nat_eq b 10) bytes ≡ false

-- each line has fewer than 4,096 bytes
abbrev pub AreShort : List (List ℕ) → Type 0
AreShort lines = AllByRecursion (λ line. length line < 4096) lines

-- an input is some whole lines, all short, and the beginning of a line
pub record IsCut (input whole rest : List ℕ) : Type 0 where
  pub parts : input ≡ whole ++ rest
  pub ended : IsWholeLines whole
  pub unended : HasNoLineEnd rest
  pub short : AreShort (lines_of whole)

-- the lines are whole ones at the front of an input, all short
pub record AreFirstLines (input : List ℕ) (lines : List (List ℕ)) : Type 0 where
  pub whole : List ℕ
  pub rest : List ℕ
  pub parts : input ≡ whole ++ rest
  pub ended : IsWholeLines whole
  pub lines_are : lines ≡ lines_of whole
  pub short : AreShort lines

-- the lines were read: whole ones at the front of the input or, where the source is at its end, all
-- of it
abbrev pub WereRead : Option (List ℕ) → List ℕ → List (List ℕ) → Type 0
WereRead left input lines = AreFirstLines input lines
    ⊎ (IsAtEnd left × (lines ≡ lines_of input) × AreShort lines)

abbrev pub IsFirstPart : List ℕ → List ℕ → Type 0
IsFirstPart part text = (rest : List ℕ) × (text ≡ part ++ rest)

-- the sink was given a first part of a text
pub record GivesPart (old new : Option (List ℕ)) (text : List ℕ) : Type 0 where
  pub part : List ℕ
  pub rest : List ℕ
  pub whole : text ≡ part ++ rest
  pub given : Appends old new part

-- some input was taken from the source and some text given to the sink, of which this is true
abbrev pub Exchanges : Option (List ℕ) → Option (List ℕ) → Option (List ℕ) → Option (List ℕ)
    → (List ℕ → List ℕ → Type 0) → Type 0
Exchanges left_old left_new given_old given_new P =
    (input : List ℕ) × (text : List ℕ) × Consumes left_old left_new input
    × Appends given_old given_new text × P input text
