-- Entries kept in chunks of 1,024, the last of which may have fewer.
use Rattle.std.specs.Prelude.{◌≡◌, ℕ, ◌<◌, ◌≤◌, List, [], ◌∷◌, ◌++◌, None, Some, length}
use Rattle.std.specs.declared.option.Option.{Option}
use Rattle.std.specs.List.{AllByRecursion}

-- the entries of all chunks
abbrev pub joined : {X : Type 0} → List (List X) → List X
joined [] = []
joined (chunk ∷ chunks) = chunk ++ joined chunks

-- the entries of a chunk that may be there
abbrev pub entries_of : {X : Type 0} → Option (List X) → List X
entries_of None = []
entries_of (Some chunk) = chunk

-- full chunks, and a last one, of which the first entries count
pub record IsChunked {X : Type 0} (full : List (List X)) (last : Option (List X)) (rest : ℕ) : Type 0 where
  pub whole : AllByRecursion (λ chunk. length chunk ≡ 1024) full
  pub short : rest < 1024
  pub there : rest ≤ length (entries_of last)
