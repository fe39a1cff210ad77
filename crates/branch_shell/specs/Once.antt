-- What is written that no line is answered with.
use Rattle.std.specs.Prelude.{◌≡◌, ◌⊎◌, ℕ, List, []}
use Rattle.std.specs.declared.option.Option.{Option}
use Rattle.std.specs.Io.KnownBytes.{Appends}
use Rattle.branch_io.specs.Causes.{Rose}
use Rattle.branch_shell.specs.declared.status.Status.{Status}
use Rattle.branch_shell.specs.declared.status.Status.TheVariants.{Done, Usage, StoreRefused, DiskFault, ReadFault, WriteFault, LineTooLong, InputTooLong, Memory}
use Rattle.branch_shell.specs.Reading.{IsFirstPart, GivesPart}

-- a first part of a text of which this is true
abbrev pub IsPartOf : (List ℕ → Type 0) → List ℕ → Type 0
IsPartOf P text = (whole : List ℕ) × P whole × IsFirstPart text whole

-- what was written that no line is answered with, given the texts of success and of a refusal
abbrev pub WroteOnce : (List ℕ → Type 0) → (List ℕ → Type 0) → Status → List ℕ → Type 0
WroteOnce success refusal Done text = success text
WroteOnce success refusal StoreRefused text = refusal text
WroteOnce success refusal DiskFault text = text ≡ []
WroteOnce success refusal WriteFault text = IsPartOf (λ whole. success whole ⊎ refusal whole) text
WroteOnce success refusal Memory text = text ≡ []
WroteOnce success refusal Usage text = ⊥
WroteOnce success refusal ReadFault text = ⊥
WroteOnce success refusal LineTooLong text = ⊥
WroteOnce success refusal InputTooLong text = ⊥

-- some text was given, which a command may write that answers no line
abbrev pub Answers : (List ℕ → Type 0) → (List ℕ → Type 0) → Status → Option (List ℕ)
    → Option (List ℕ) → Type 0
Answers success refusal status given_old given_new = (text : List ℕ)
    × Appends given_old given_new text × WroteOnce success refusal status text

-- the text was given and the run ends with this status; or a first part of it was, and the sink
-- failed
abbrev pub Says : List ℕ → Status → Status → Option (List ℕ) → Option (List ℕ) → ℕ → ℕ → Type 0
Says text status result given_old given_new before now =
    ((result ≡ status) × Appends given_old given_new text × (now ≡ before))
    ⊎ ((result ≡ WriteFault) × GivesPart given_old given_new text × Rose before now)
