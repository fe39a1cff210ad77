-- What it is to read entries one after another.
use Rattle.std.specs.Prelude.{◌≡◌, ℕ, List, [], ◌∷◌, ◌++◌, length}
use Rattle.std.specs.List.{AllByRecursion, flat_map}
use Rattle.std.specs.Map.{keys_of}
use Rattle.std.specs.Ordering.{nat_cmp}
use Rattle.std.specs.Cmp.Lexicographic.{slice_cmp}
use Rattle.std.specs.List.Sorted.{IsStrictlySortedBy}
use Rattle.mrdt_model.specs.Laws.{Meaning, StandsAsWell}
use Rattle.keyed_slots.specs.Slots.{IsAbove}
use Rattle.mrdt_map.specs.Keyed.{entry_spelling, IsEntry}

-- a key, and its value as it is spelled
abbrev pub as_text : {V : Type 0} → (V → List ℕ) → List ℕ × V → List ℕ × List ℕ
as_text spelling e = (e.0, spelling e.1)

-- an entry that was read: it is in the grammar, and its value stands for all that its spelling stood for
pub record IsTaken {V O R Q A : Type 0} (t : Meaning V O R Q A) (e : List ℕ × V) : Type 0 where
  pub entry : IsEntry t.is_state_spelling (as_text t.state_spelling e)
  pub stands : (other : V) → t.state_spelling other ≡ t.state_spelling e.1 → StandsAsWell t other e.1

-- one entry is taken from the front of the bytes, and put behind the old ones
pub record TakesEntry {V O R Q A : Type 0} (t : Meaning V O R Q A) (bytes : List ℕ) (old : List (List ℕ × V)) (rest : List ℕ) (new : List (List ℕ × V)) : Type 0 where
  pub taken : List ℕ × V
  pub good : IsTaken t taken
  pub above : IsAbove taken.0 (keys_of old)
  pub entries : new ≡ old ++ taken ∷ []
  pub spelled : bytes ≡ entry_spelling t.state_spelling taken ++ rest

-- this many entries, whose keys rise, are taken from the front of the bytes
pub record AreTaken {V O R Q A : Type 0} (t : Meaning V O R Q A) (bytes : List ℕ) (count : ℕ) (rest : List ℕ) (entries : List (List ℕ × V)) : Type 0 where
  pub many : length entries ≡ count
  pub good : AllByRecursion (IsTaken t) entries
  pub ordered : IsStrictlySortedBy (slice_cmp nat_cmp) (keys_of entries)
  pub spelled : bytes ≡ flat_map (entry_spelling t.state_spelling) entries ++ rest
