-- Lists of bytes, and bytes written at the end of others.
use Rattle.std.specs.Prelude.{◌≡◌, ℕ, ◌-◌, ◌^◌, ◌<◌, min, List, ◌++◌, slice_index, take}

-- each item is a byte
abbrev pub IsBytes : List ℕ → Type 0
IsBytes bytes = (i : ℕ) → slice_index bytes i < 256

-- some first part of the bytes was written at the end of the old ones
abbrev pub AppendsPart : List ℕ → List ℕ → List ℕ → Type 0
AppendsPart old new bytes = (n : ℕ) × (new ≡ old ++ take n bytes)

-- a count as it is kept in 64 bits: itself below 2 ^ 64, and else the greatest number
abbrev pub capped : ℕ → ℕ
capped n = min n (2 ^ 64 - 1)
