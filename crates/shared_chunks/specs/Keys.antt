-- Entries that are found by their keys, and an index of them.
use Rattle.std.specs.Prelude.{◌≡◌, ℕ, ◌≤◌, List, None, Some, slice_get}
use Rattle.std.specs.declared.cmp.Ordering.{Ordering}
use Rattle.std.specs.declared.option.Option.{Option}
use Rattle.std.specs.BTreeMap.{BTreeMap, get}
use Rattle.std.specs.Option.{option_map_or}
use Rattle.std.specs.Ordering.{nat_cmp, ordering_then}

-- an entry stands at n, and this is its key
abbrev pub HasKey : {X : Type 0} → (X → Option (ℕ × ℕ)) → List X → ℕ → ℕ × ℕ → Type 0
HasKey key_of entries n key = option_map_or key_of (slice_get entries n) None ≡ Some key

-- how keys are ordered
abbrev pub key_cmp : ℕ × ℕ → ℕ × ℕ → Ordering
key_cmp x y = ordering_then (nat_cmp x.0 y.0) (nat_cmp x.1 y.1)

-- for each entry that has a key, the index has the place of an entry with this key, there or before it
abbrev pub IsIndex : {X : Type 0} → (X → Option (ℕ × ℕ)) → List X → BTreeMap (ℕ × ℕ) ℕ → Type 0
IsIndex key_of entries index =
    (n : ℕ) (key : ℕ × ℕ) → HasKey key_of entries n key → (k : ℕ) × (get key_cmp index key ≡ Some k) × (k ≤ n) × HasKey key_of entries k key
