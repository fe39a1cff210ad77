-- The entries of a map as they stand in a table.
use Rattle.std.specs.Prelude.{◌≡◌, ℕ, if◌then◌else◌, Some, List, length}
use Rattle.std.specs.Map.{keys_of}
use Rattle.std.specs.Ordering.{nat_cmp}
use Rattle.std.specs.Cmp.Lexicographic.{slice_cmp}
use Rattle.std.specs.List.Sorted.{IsStrictlySortedBy}
use Rattle.mrdt_model.specs.declared.time.Time.{Time}
use Rattle.mrdt_model.specs.Spelled.{capped}
use Rattle.mrdt_model.specs.Laws.{Meaning}
use Rattle.mrdt_map.specs.Keyed.{same_key, value_at, entry_spelling, AppliesAt}

-- how many bytes an entry is spelled in, as 64 bits hold it
abbrev pub entry_size : {V : Type 0} → (V → List ℕ) → List ℕ × V → ℕ
entry_size spelling e = capped (length (entry_spelling spelling e))

-- an operation on the value at a key: the values at other keys stay
pub record AppliesOn {V O R Q A : Type 0} (t : Meaning V O R Q A) (key : List ℕ) (old : List (List ℕ × V)) (operation : O) (time : Time) (new : List (List ℕ × V)) (reply : R) : Type 0 where
  pub made : V
  pub ordered : IsStrictlySortedBy (slice_cmp nat_cmp) (keys_of new)
  pub values : (k : List ℕ) → value_at new k ≡ (if same_key key k then Some made else value_at old k)
  pub applies : AppliesAt t (value_at old key) operation time made reply
