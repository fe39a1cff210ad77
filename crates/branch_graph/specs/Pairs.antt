-- Commits by their two parents.
use Rattle.std.specs.Prelude.{ℕ, min, max, List, [], ◌∷◌, None, Some}
use Rattle.std.specs.declared.option.Option.{Option}

-- the smaller and the greater of exactly two parents
abbrev pub pair_of : List ℕ → Option (ℕ × ℕ)
pair_of [] = None
pair_of (p ∷ []) = None
pair_of (p ∷ q ∷ []) = Some (min p q, max p q)
pair_of (p ∷ q ∷ r ∷ parents) = None
