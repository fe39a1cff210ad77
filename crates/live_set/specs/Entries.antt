-- Entries by time.
use Rattle.std.specs.Prelude.{◌≡◌, if◌then◌else◌, Option, None, Some, List, [], ◌∷◌, ◌++◌, map}
use Rattle.mrdt_model.specs.declared.time.Time.{Time}
use Rattle.mrdt_model.specs.Times.{same_time, is_earlier}
use Rattle.mrdt_model.specs.Executions.{AllIn}
use Rattle.live_set.specs.declared.kept.Kept.{Kept}

abbrev pub kept_times : {V : Type 0} → List (Kept V) → List Time
kept_times entries = map (λ k. k.time) entries

-- each time of the list is before this one
abbrev pub AllBefore : List Time → Time → Type 0
AllBefore ts t = AllIn (λ s. is_earlier s t) ts

-- each time is before all that stand behind it
abbrev pub IsRising : List Time → Type 0
IsRising [] = Unit {0}
IsRising (t ∷ ts) = AllIn (is_earlier t) ts × IsRising ts

-- the payload of the entry at a time
abbrev pub payload_at : {V : Type 0} → List (Kept V) → Time → Option V
payload_at [] t = None
payload_at (k ∷ entries) t = if same_time t k.time then Some k.payload else payload_at entries t

-- What stays at a time, of what base, left and right have there: what a side has and the base has not, and
-- what all three have. The left's stays where both sides have one.
abbrev pub staying : {V : Type 0} → Option V → Option V → Option V → Option V
staying None None right = right
staying None (Some v) right = Some v
staying (Some b) (Some v) (Some w) = Some v
staying (Some b) (Some v) None = None
staying (Some b) None right = None

-- the merged entries have at each time what stays there
abbrev pub MergesEntries : {V : Type 0} → List (Kept V) → List (Kept V) → List (Kept V) → List (Kept V) → Type 0
MergesEntries base left right merged = (t : Time) → payload_at merged t ≡ staying (payload_at base t) (payload_at left t) (payload_at right t)

-- an entry in its place, where it takes the place of one of the same time
abbrev pub place : {V : Type 0} → Kept V → List (Kept V) → List (Kept V)
place k [] = k ∷ []
place k (j ∷ entries) = if is_earlier j.time k.time then j ∷ place k entries else (k ∷ (if same_time j.time k.time then entries else j ∷ entries))

-- the entries by rising time, the first of each time
abbrev pub by_time : {V : Type 0} → List (Kept V) → List (Kept V)
by_time [] = []
by_time (k ∷ entries) = place k (by_time entries)

-- the entries, and behind them a payload, if there is one
abbrev pub with_payload : {V : Type 0} → List (Kept V) → Time → Option V → List (Kept V)
with_payload entries t None = entries
with_payload entries t (Some v) = entries ++ record { time = t; payload = v } ∷ []
