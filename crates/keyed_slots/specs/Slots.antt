-- Slots in the order of their keys, which are lists of bytes.
use Rattle.std.specs.Prelude.{◌≡◌, ℕ, ◌≤◌, Bool, false, Option, None, Some, List, map, take, drop, length, slice_get}
use Rattle.std.specs.List.{AllByRecursion}
use Rattle.std.specs.Map.{lookup}
use Rattle.std.specs.declared.cmp.Ordering.TheVariants.{Less}
use Rattle.std.specs.Ordering.{nat_cmp, is_eq, is_lt}
use Rattle.std.specs.Cmp.Lexicographic.{slice_cmp}
use Rattle.std.specs.List.Sorted.{IsStrictlySortedBy}

-- whether two keys are the same
abbrev pub same_key : List ℕ → List ℕ → Bool
same_key j k = is_eq (slice_cmp nat_cmp j k)

-- the key is above all of these
abbrev pub IsAbove : List ℕ → List (List ℕ) → Type 0
IsAbove key keys = AllByRecursion (λ j. slice_cmp nat_cmp j key ≡ Less) keys

-- the keys of the slots rise
abbrev pub AreRising : {S : Type 0} → (S → List ℕ) → List S → Type 0
AreRising key_of slots = IsStrictlySortedBy (slice_cmp nat_cmp) (map key_of slots)

-- whether a slot's key stands before this one
abbrev pub is_before : {S : Type 0} → (S → List ℕ) → List ℕ → S → Bool
is_before key_of key s = is_lt (slice_cmp nat_cmp (key_of s) key)

-- the keys before a place stand before this one, and those from it on do not
pub record IsPlaceOf {S : Type 0} (key_of : S → List ℕ) (key : List ℕ) (slots : List S) (place : ℕ) : Type 0 where
  pub within : place ≤ length slots
  pub before : AllByRecursion (λ j. slice_cmp nat_cmp j key ≡ Less) (map key_of (take place slots))
  pub behind : AllByRecursion (λ j. is_lt (slice_cmp nat_cmp j key) ≡ false) (map key_of (drop place slots))

-- the slot at the place of a key has that key; where there is none, all keys from there on stand behind it
abbrev pub IsFound : {S : Type 0} → (S → List ℕ) → List ℕ → List S → ℕ → Option S → Type 0
IsFound key_of key slots place None = AllByRecursion (λ j. slice_cmp nat_cmp key j ≡ Less) (map key_of (drop place slots))
IsFound key_of key slots place (Some s) = (slice_get slots place ≡ Some s) × (key_of s ≡ key)

-- the slots from some place on
pub record IsRest {S : Type 0} (slots rest : List S) : Type 0 where
  pub place : ℕ
  pub same : rest ≡ drop place slots

-- the key of a slot that is a key with a value
abbrev pub slot_key : {V : Type 0} → List ℕ × V → List ℕ
slot_key s = s.0

-- what such slots have at a key
abbrev pub value_at : {V : Type 0} → List (List ℕ × V) → List ℕ → Option V
value_at slots k = lookup (same_key k) slots
