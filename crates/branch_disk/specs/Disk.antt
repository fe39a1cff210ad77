-- What the calls of a disk of two parts do, and what a crash may leave.
use Rattle.std.specs.Prelude.{◌≡◌, ◌⊎◌, ℕ, ◌+◌, ◌≤◌, max, List, ◌++◌, length, take, drop, Option, Some}
use Rattle.branch_disk.specs.declared.part.Part.{Part}
use Rattle.branch_disk.specs.declared.part.Part.TheVariants.{Objects, Heads}

-- the bytes of both parts
pub record Files : Type 0 where
  pub objects : List ℕ
  pub heads : List ℕ

abbrev pub bytes_of : Part → Files → List ℕ
bytes_of Objects files = files.objects
bytes_of Heads files = files.heads

-- one part goes on by this step, and the other stays
abbrev pub OnPart : Part → (List ℕ → List ℕ → Type 0) → Files → Files → Type 0
OnPart Objects step old new = step old.objects new.objects × (new.heads ≡ old.heads)
OnPart Heads step old new = step old.heads new.heads × (new.objects ≡ old.objects)

-- old with these bytes at this place
abbrev pub put : ℕ → List ℕ → List ℕ → List ℕ
put at bytes old = take at old ++ bytes ++ drop (at + length bytes) old

-- new is old with these bytes at this place
abbrev pub Holds : ℕ → List ℕ → List ℕ → List ℕ → Type 0
Holds at bytes old new = new ≡ put at bytes old

-- after a write of n bytes that a crash cuts short: any bytes in the range and past the old end, the same elsewhere
pub record Torn (at n : ℕ) (old new : List ℕ) : Type 0 where
  pub before : take at new ≡ take at old
  pub after : drop (at + n) new ≡ drop (at + n) old
  pub no_shorter : length old ≤ length new
  pub no_longer : length new ≤ max (length old) (at + n)

-- one of these files, after a step
abbrev pub After : (Files → Files → Type 0) → (Files → Type 0) → Files → Type 0
After step images c = (d : Files) × images d × step d c

-- what is told goes on to be told, and by this step
abbrev pub Tells : (Files → Files → Type 0) → Option Files → Option Files → Type 0
Tells step old new = (f : Files) → old ≡ Some f → (g : Files) × (new ≡ Some g) × step f g

-- what is told goes on to be told, by whatever step
abbrev pub StillTells : Option Files → Option Files → Type 0
StillTells old new = (f : Files) → old ≡ Some f → (g : Files) × (new ≡ Some g)

-- each image has in this part what is told
abbrev pub IsSure : Part → Option Files → (Files → Type 0) → Type 0
IsSure part told images = (f : Files) → told ≡ Some f → (c : Files) → images c → bytes_of part c ≡ bytes_of part f

-- At each moment from old to new a crash leaves files that have P.
pub record LeavesOnly {D : Type 0} (moment : D → ℕ) (left_since : D → ℕ → Files → Type 0) (old new : D) (P : Files → Type 0) : Type 0 where
  pub later : moment old ≤ moment new
  pub each : (c : Files) → left_since new (moment old) c → P c
  -- for a run that began earlier
  pub before : (t : ℕ) (c : Files) → t ≤ moment old → left_since new t c → left_since old t c ⊎ P c
  pub keeps : (t : ℕ) (c : Files) → t ≤ moment old → left_since old t c → left_since new t c
