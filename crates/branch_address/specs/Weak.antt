-- The address that only the length of bytes decides.
use Rattle.std.specs.Prelude.{ℕ, ◌%◌, List, [], ◌∷◌, ◌++◌, length, replicate}

-- 31 bytes 0, and the length modulo 256
abbrev pub weak_address : List ℕ → List ℕ
weak_address bytes = replicate 31 0 ++ length bytes % 256 ∷ []
