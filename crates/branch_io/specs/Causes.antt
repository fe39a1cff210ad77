-- When a call on the outside may fail.
use Rattle.std.specs.Prelude.{◌≡◌, ◌≢◌, ℕ, ◌+◌, ◌-◌, ◌^◌, ◌≤◌, min, Result, Err, OnOk, OnErr}

-- the count rose, or stands at its last value
abbrev pub Rose : ℕ → ℕ → Type 0
Rose before now = min (before + 1) (2 ^ 64 - 1) ≤ now

-- the count of faults never falls, it rose where the call failed, and it stays where the call succeeded
pub record HasCause {T E : Type 0} (before now : ℕ) (result : Result T E) : Type 0 where
  pub later : before ≤ now
  pub failed : OnErr result (Rose before now)
  pub succeeded : OnOk result (now ≡ before)

-- the same of a call that is refused for other reasons too: the count rose where this refusal, the fault, came, and
-- stays after every other answer
pub record HasCauseOf {T E : Type 0} (fault : E) (before now : ℕ) (result : Result T E) : Type 0 where
  pub later : before ≤ now
  pub failed : result ≡ Err fault → Rose before now
  pub others : result ≢ Err fault → now ≡ before
