-- What records and bytes of objects stand for, up to some of the records.
use Rattle.std.specs.Prelude.{◌≡◌, ℕ, ◌<◌, ◌≤◌, List, [], ◌∷◌, length, take}
use Rattle.branch_wire.specs.StoredObjects.{Begins}
use Rattle.branch_history.specs.declared.moves.Move.{Move}
use Rattle.branch_history.specs.Steps.{Step}
use Rattle.heads_journal.specs.declared.record.Record.{Record}
use Rattle.branch_machine.specs.Fixed.{Form, FixedIn, Fixed}
use Rattle.branch_machine.specs.Objects.{objects_text, region}
use Rattle.branch_machine.specs.Machine.{full_turn}
use Rattle.branch_machine.specs.Validity.{IsFullyValid}
use Rattle.branch_files.specs.Records.{record_of, records_of, IsKnownIn, AreKnown}
use Rattle.branch_files.specs.Next.{Suits}

-- the form of the files of a version
abbrev pub form_of : ℕ → Form
form_of version = record { version = version }

-- the first records are those of a valid history, all of known kinds, and the objects begin with its objects
pub record Follows {S O R Q A : Type 0} {form : Form} (fixed : FixedIn form S O R Q A) (moves : List (Move O R)) (records : List Record) (objects : List ℕ) : Type 0 where
  pub valid : IsFullyValid fixed moves
  pub within : length moves ≤ length records
  pub recorded : records_of fixed moves ≡ take (length moves) records
  pub known : AreKnown fixed moves
  pub stored : Begins (objects_text fixed moves) objects

-- the history allows this record behind it, which is of a known kind
pub record MayCome {S O R Q A : Type 0} {form : Form} (fixed : FixedIn form S O R Q A) (moves : List (Move O R)) (r : Record) : Type 0 where
  pub room : length moves < fixed.terms.limits.moves
  pub known : IsKnownIn form.version r
  pub suits : Suits fixed moves r

-- a step of the machine makes a move that has this record, and this region
pub record Remakes {S O R Q A : Type 0} (fixed : Fixed S O R Q A) (moves : List (Move O R)) (step : Step O Q) (r : Record) (bytes : List ℕ) : Type 0 where
  pub made : Move O R
  pub makes : (full_turn fixed moves step).made ≡ made ∷ []
  pub recorded : record_of fixed moves made ≡ r
  pub stored : region fixed moves made ≡ bytes
