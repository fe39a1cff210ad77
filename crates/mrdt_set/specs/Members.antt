-- Elements with their live times, in byte order.
use Rattle.std.specs.Prelude.{◌≡◌, ◌≢◌, ℕ, ◌<◌, ◌^◌, Bool, true, if◌then◌else◌, Option, None, Some, is_some, List, [], ◌∷◌, ◌++◌, length}
use Rattle.std.specs.List.{AllByRecursion}
use Rattle.std.specs.Map.{lookup, keys_of}
use Rattle.std.specs.Ordering.{nat_cmp, is_eq}
use Rattle.std.specs.Cmp.Lexicographic.{slice_cmp}
use Rattle.std.specs.List.Sorted.{IsStrictlySortedBy}
use Rattle.mrdt_model.specs.Spelled.{IsBytes, capped}
use Rattle.branch_wire.specs.Fields.{field, counted}
use Rattle.live_set.specs.declared.kept.Kept.{Kept}
use Rattle.live_set.specs.Entries.{kept_times, IsRising, MergesEntries}
use Rattle.live_set.specs.Payloads.{IsNothing, nothing_spelling}
use Rattle.live_set.specs.Spelling.{live_spelling, AreLive}

abbrev pub Times : Type 0
Times = List (Kept (Unit {0}))

abbrev pub same_element : List ℕ → List ℕ → Bool
same_element j k = is_eq (slice_cmp nat_cmp j k)

-- the live times of an element that has some
abbrev pub times_at : List (List ℕ × Times) → List ℕ → Option Times
times_at members k = lookup (same_element k) members

-- the elements rise in byte order, each once
abbrev pub AreInOrder : List (List ℕ × Times) → Type 0
AreInOrder members = IsStrictlySortedBy (slice_cmp nat_cmp) (keys_of members)

-- the new members have these times at one element, and what the old ones have at all others
abbrev pub ChangesOnly : List ℕ → Option Times → List (List ℕ × Times) → List (List ℕ × Times) → Type 0
ChangesOnly element times old new = (k : List ℕ) → times_at new k ≡ (if same_element element k then times else times_at old k)

-- no times are none
abbrev pub some_times : Times → Option Times
some_times [] = None
some_times (k ∷ times) = Some (k ∷ times)

abbrev pub all_times : Option Times → Times
all_times None = []
all_times (Some times) = times

-- At an element the merged times are, where there are some, the merge of what base, left and right have there.
pub record IsMergedAt (base left right merged : Option Times) : Type 0 where
  pub some : merged ≡ some_times (all_times merged)
  pub rising : IsRising (kept_times (all_times merged))
  pub merges : MergesEntries (all_times base) (all_times left) (all_times right) (all_times merged)

-- times that a side may have at an element: rising, and some, or none at all
pub record IsKept (times : Option Times) : Type 0 where
  pub some : times ≡ some_times (all_times times)
  pub rising : IsRising (kept_times (all_times times))

-- so it is at each element of which the left side has such times
abbrev pub AreMerged : List (List ℕ × Times) → List (List ℕ × Times) → List (List ℕ × Times) → List (List ℕ × Times) → Type 0
AreMerged base left right merged = (k : List ℕ) → IsKept (times_at left k) → IsMergedAt (times_at base k) (times_at left k) (times_at right k) (times_at merged k)

-- merged at the elements of the right side, and as in the left side at all others
pub record IsRightMergedAt (base left right merged : Option Times) : Type 0 where
  pub there : is_some right ≡ true → IsKept left → IsMergedAt base left right merged
  pub apart : right ≡ None → merged ≡ left

abbrev pub IsRightMerged : List (List ℕ × Times) → List (List ℕ × Times) → List (List ℕ × Times) → List (List ℕ × Times) → Type 0
IsRightMerged base left right merged = (k : List ℕ) → IsRightMergedAt (times_at base k) (times_at left k) (times_at right k) (times_at merged k)

-- an element, and behind it its times
abbrev pub member_spelling : List ℕ × Times → List ℕ
member_spelling e = field e.0 ++ live_spelling nothing_spelling e.1

abbrev pub set_spelling : List (List ℕ × Times) → List ℕ
set_spelling members = counted member_spelling members

-- how many bytes a member is spelled in, as 64 bits hold it
abbrev pub member_size : List ℕ × Times → ℕ
member_size e = capped (length (member_spelling e))

-- a short element with one time at least
abbrev pub IsMember : List ℕ × Times → Type 0
IsMember e = IsBytes e.0 × (length e.0 < 2 ^ 64) × AreLive IsNothing e.1 × (e.1 ≢ [])

-- members of the grammar: few enough to be counted, and by rising element
pub record AreMembers (members : List (List ℕ × Times)) : Type 0 where
  pub few : length members < 2 ^ 64
  pub rising : AreInOrder members
  pub each : AllByRecursion IsMember members

-- the bytes spell such members
abbrev pub IsSetSpelling : List ℕ → Type 0
IsSetSpelling bytes = (members : List (List ℕ × Times)) × AreMembers members × (bytes ≡ set_spelling members)
