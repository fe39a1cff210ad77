-- Where a time stands among entries, and entries that change at one time.
use Rattle.std.specs.Prelude.{◌≡◌, ℕ, Bool, true, false, if◌then◌else◌, Option, None, List, [], ◌∷◌, ◌++◌, length}
use Rattle.mrdt_model.specs.declared.time.Time.{Time}
use Rattle.mrdt_model.specs.Times.{same_time, is_earlier}
use Rattle.mrdt_model.specs.Executions.{AllIn}
use Rattle.live_set.specs.declared.kept.Kept.{Kept}
use Rattle.live_set.specs.Entries.{kept_times, AllBefore, payload_at, staying}

-- all entries are later than the time; or the first is at it, and all others are later
abbrev pub BeginsAt : {V : Type 0} → Time → Bool → List (Kept V) → Type 0
BeginsAt t false entries = AllIn (is_earlier t) (kept_times entries)
BeginsAt t true [] = ⊥
BeginsAt t true (k ∷ entries) = (t ≡ k.time) × AllIn (is_earlier t) (kept_times entries)

-- so many entries are before the time, and the others begin at it, or behind it
pub record IsFound {V : Type 0} (entries : List (Kept V)) (t : Time) (place : ℕ) (here : Bool) : Type 0 where
  pub front : List (Kept V)
  pub back : List (Kept V)
  pub many : length front ≡ place
  pub whole : entries ≡ front ++ back
  pub before : AllBefore (kept_times front) t
  pub behind : BeginsAt t here back

-- the new entries have nothing at a time, and at all others what the old ones have
abbrev pub LosesTime : {V : Type 0} → Time → List (Kept V) → List (Kept V) → Type 0
LosesTime time old new = (t : Time) → payload_at new t ≡ (if same_time t time then None else payload_at old t)

-- the new entries have at a time what stays there of what base, they and right have, and at all others what the old
-- ones have
abbrev pub ChangesAt : {V : Type 0} → Time → Option V → Option V → List (Kept V) → List (Kept V) → Type 0
ChangesAt time base right old new = (t : Time) → payload_at new t ≡ (if same_time t time then staying base (payload_at old t) right else payload_at old t)
