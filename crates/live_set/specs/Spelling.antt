-- How entries are spelled: a count, and that many times and payloads, times rising.
use Rattle.std.specs.Prelude.{◌≡◌, ◌<◌, ◌^◌, ℕ, List, ◌++◌, length}
use Rattle.std.specs.List.{AllByRecursion}
use Rattle.mrdt_model.specs.Times.{IsTime}
use Rattle.branch_wire.specs.Fields.{time_field, counted}
use Rattle.live_set.specs.declared.kept.Kept.{Kept}
use Rattle.live_set.specs.Entries.{kept_times, IsRising}

-- a time, and behind it its payload
abbrev pub kept_spelling : {V : Type 0} → (V → List ℕ) → Kept V → List ℕ
kept_spelling spelling k = time_field k.time ++ spelling k.payload

abbrev pub live_spelling : {V : Type 0} → (V → List ℕ) → List (Kept V) → List ℕ
live_spelling spelling entries = counted (kept_spelling spelling) entries

abbrev pub KeptFits : {V : Type 0} → (V → Type 0) → Kept V → Type 0
KeptFits fits k = IsTime k.time × fits k.payload

-- entries of the grammar: few enough to be counted, in range, and by rising time
pub record AreLive {V : Type 0} (fits : V → Type 0) (entries : List (Kept V)) : Type 0 where
  pub few : length entries < 2 ^ 64
  pub rising : IsRising (kept_times entries)
  pub each : AllByRecursion (KeptFits fits) entries

-- the bytes spell such entries
abbrev pub IsLiveSpelling : {V : Type 0} → (V → Type 0) → (V → List ℕ) → List ℕ → Type 0
IsLiveSpelling {V} fits spelling bytes = (entries : List (Kept V)) × AreLive fits entries × (bytes ≡ live_spelling spelling entries)
