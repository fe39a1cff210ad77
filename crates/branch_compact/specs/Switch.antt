-- Two disks, of which one is current, and the switch from one to the other.
use Rattle.std.specs.Prelude.{◌≡◌, ℕ, Bool, List, [], ◌∷◌, length, take, nat_le, ◌&&◌, IsTrue, if◌then◌else◌}
use Rattle.std.specs.Str.{bytes_eq}
use Rattle.mrdt_model.specs.Laws.{Meaning}
use Rattle.branch_disk.specs.Disk.{Files, Torn}
use Rattle.branch_history.specs.declared.moves.Move.{Move}
use Rattle.branch_names.specs.declared.terms.Terms.{Terms}
use Rattle.branch_machine.specs.Fixed.{fix}
use Rattle.branch_files.specs.Stands.{Stands}
use Rattle.branch_files.specs.Reading.{Opens, ReadsAs}
use Rattle.branch_compact.specs.Compact.{compact}

-- the heads have at least 65 bytes, the first of which is 1
abbrev pub is_current : Files → Bool
is_current files = nat_le 65 (length files.heads) && bytes_eq (take 1 files.heads) (1 ∷ [])

-- the first disk where it is current, else the second
abbrev pub current : Files → Files → Files
current first second = if is_current first then first else second

-- the files differ in the first byte of the heads at most
pub record AreTornAtFirst (old new : Files) : Type 0 where
  pub objects : new.objects ≡ old.objects
  pub heads : Torn 0 1 old.heads new.heads

-- while the first byte of the first disk is written, and after it, two disks read as the history
-- while the first is current, and as the compact one that the second stands for once it is not
abbrev pub SwitchesToSecond : {S O R Q A : Type 0} → Meaning S O R Q A → Type 0
SwitchesToSecond {S} {O} {R} m =
    (terms : Terms) (address : List ℕ → List ℕ) (moves : List (Move O R))
    (first second torn : Files) → IsTrue (is_current first)
    → ReadsAs m address first (Opens terms moves)
    → Stands (fix m terms address) (compact terms moves) second → AreTornAtFirst first torn
    → let answer = if is_current torn then moves else compact terms moves in
    ReadsAs m address (current torn second) (Opens terms answer)

-- and the other way round, where the first disk stands for the compact history but for that byte
abbrev pub SwitchesToFirst : {S O R Q A : Type 0} → Meaning S O R Q A → Type 0
SwitchesToFirst {S} {O} {R} m =
    (terms : Terms) (address : List ℕ → List ℕ) (moves : List (Move O R))
    (whole second torn : Files) → ReadsAs m address second (Opens terms moves)
    → Stands (fix m terms address) (compact terms moves) whole → AreTornAtFirst whole torn
    → let answer = if is_current torn then compact terms moves else moves in
    ReadsAs m address (current torn second) (Opens terms answer)
