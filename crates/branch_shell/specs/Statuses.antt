-- How a run ends, by what it took from its source, gave to its sink and left on its disk.
use Rattle.std.specs.Prelude.{◌≡◌, ℕ, ◌^◌, ◌<◌, ◌≤◌, ◌⊎◌, List, [], ◌∷◌, ◌++◌, length, Result, Ok, Err, Some}
use Rattle.std.specs.declared.option.Option.{Option}
use Rattle.std.specs.Option.{ForSome}
use Rattle.std.specs.Io.KnownBytes.{IsAtEnd}
use Rattle.branch_disk.specs.Disk.{Files, LeavesOnly}
use Rattle.branch_script.specs.Lines.{lines_of}
use Rattle.branch_engine.specs.Play.{begins}
use Rattle.branch_command.specs.Commands.{Said, Init, Script, Look, Generate, Clients, Upgrade, Compact, Receive, Help}
use Rattle.branch_shell.specs.declared.status.Status.{Status}
use Rattle.branch_shell.specs.declared.status.Status.TheVariants.{Done, Usage, StoreRefused, DiskFault, ReadFault, WriteFault, LineTooLong, InputTooLong, Memory}
use Rattle.branch_shell.specs.Reading.{IsCut, AreShort, WereRead, IsFirstPart}
use Rattle.branch_shell.specs.Stores.{Stored, ReadsAsStore, IsOpenedAs}
use Rattle.branch_shell.specs.Values.{ValueType, HaveValues, documents, documents_with_sequences}
use Rattle.branch_shell.specs.Once.{WroteOnce}
use Rattle.branch_shell.specs.Telling.{ReadsAfterSome}
use Rattle.branch_shell.specs.Documents.{fixed_of, script_text, store_after, SaysUnopened}
use Rattle.branch_shell.specs.Generated.{SaysWork}
use Rattle.branch_shell.specs.Together.{SaysTogether}
use Rattle.branch_shell.specs.Looks.{SaysLook, SaysNoLook}
use Rattle.mrdt_old_doc.specs.OldDocument.{old_document}
use Rattle.branch_shell.specs.declared.choose.Values.{Values}
use Rattle.branch_shell.specs.declared.choose.Values.TheVariants.{Documents, WithSequences}

-- the text is that of the input's whole lines, behind which this is left
pub record TellsWholeLines {S O R Q A : Type 0} (of : ValueType S O R Q A)
    (address : List ℕ → List ℕ) (store : Stored O R) (input text rest : List ℕ) : Type 0 where
  pub whole : List ℕ
  pub cut : IsCut input whole rest
  pub text_is : text ≡ script_text of address store (lines_of whole)

-- the text is a first part of that of lines that were read
pub record TellsPart {S O R Q A : Type 0} (of : ValueType S O R Q A) (address : List ℕ → List ℕ)
    (store : Stored O R) (left : Option (List ℕ)) (input text : List ℕ) : Type 0 where
  pub lines : List (List ℕ)
  pub read : WereRead left input lines
  pub part : IsFirstPart text (script_text of address store lines)

-- the text is that of the lines before one that was read
pub record TellsBefore {S O R Q A : Type 0} (of : ValueType S O R Q A) (address : List ℕ → List ℕ)
    (store : Stored O R) (left : Option (List ℕ)) (input text : List ℕ) : Type 0 where
  pub before : List (List ℕ)
  pub line : List ℕ
  pub read : WereRead left input (before ++ line ∷ [])
  pub text_is : text ≡ script_text of address store before

-- what a script wrote of the input that it read over a store, with what is left of the source
abbrev pub WroteOver : {S O R Q A : Type 0} → ValueType S O R Q A → (List ℕ → List ℕ) → Stored O R
    → Option (List ℕ) → Status → List ℕ → List ℕ → Type 0
WroteOver of address store left Done input text = IsAtEnd left × (length input < 2 ^ 32)
    × AreShort (lines_of input) × (text ≡ script_text of address store (lines_of input))
WroteOver of address store left Usage input text = ⊥
WroteOver of address store left StoreRefused input text = ⊥
WroteOver of address store left DiskFault input text = TellsBefore of address store left input text
WroteOver of address store left ReadFault input text = (length input < 2 ^ 32) × (rest : List ℕ)
    × (length rest < 4096) × TellsWholeLines of address store input text rest
WroteOver of address store left WriteFault input text = TellsPart of address store left input text
WroteOver of address store left LineTooLong input text = (rest : List ℕ) × (length rest ≡ 4096)
    × TellsWholeLines of address store input text rest
WroteOver of address store left InputTooLong input text = (length input ≡ 2 ^ 32) × (rest : List ℕ)
    × (length rest < 4096) × TellsWholeLines of address store input text rest
WroteOver of address store left Memory input text = TellsPart of address store left input text

-- a script: before a line is read it is refused, or it fails to open the store; else it runs over
-- the store that opening found
abbrev pub ScriptWrote : {S O R Q A : Type 0} → ValueType S O R Q A → (List ℕ → List ℕ)
    → Option Files → Option (List ℕ) → Status → List ℕ → List ℕ → Type 0
ScriptWrote {S} {O} {R} of address told left status input text =
    ((input ≡ []) × WroteOnce (λ whole. ⊥) (SaysUnopened of address told) status text)
    ⊎ ((store : Stored O R) × IsOpenedAs of.kind of.meaning address told store
    × (length input ≤ 2 ^ 32) × WroteOver of address store left status input text)

-- What a command over one disk, with values of this type, wrote of the input that it read, by the
-- status that it ended with; `init`, `upgrade` and `compact` work over two disks, and help over none;
-- what `receive` wrote is said with what it leaves.
abbrev pub WroteOf : {S O R Q A : Type 0} → ValueType S O R Q A → (List ℕ → List ℕ) → Said
    → Option Files → Option (List ℕ) → Status → List ℕ → List ℕ → Type 0
WroteOf of address Script told left status input text =
    ScriptWrote of address told left status input text
WroteOf of address (Look look) told left status input text = (input ≡ [])
    × WroteOnce (SaysLook of address told look) (SaysNoLook of old_document address told look) status
    text
WroteOf of address (Generate work) told left status input text = (input ≡ [])
    × WroteOnce (SaysWork of address told work) (SaysUnopened of address told) status text
WroteOf of address (Clients clients) told left status input text = (input ≡ [])
    × WroteOnce (SaysTogether of address told clients) (SaysUnopened of address told) status text
WroteOf of address (Init numbers) told left status input text = ⊥
WroteOf of address Upgrade told left status input text = ⊥
WroteOf of address Compact told left status input text = ⊥
WroteOf of address (Receive name) told left status input text = ⊥
WroteOf of address Help told left status input text = ⊥

-- what it wrote where a store has these values
abbrev pub WroteBy : Values → (List ℕ → List ℕ) → Said → Option Files → Option (List ℕ) → Status
    → List ℕ → List ℕ → Type 0
WroteBy Documents address command told left status input text =
    WroteOf documents address command told left status input text
WroteBy WithSequences address command told left status input text =
    WroteOf documents_with_sequences address command told left status input text

-- what it wrote, by the values that the files have
abbrev pub Wrote : (List ℕ → List ℕ) → Said → Option Files → Option (List ℕ) → Status → List ℕ
    → List ℕ → Type 0
Wrote address command told left status input text = (values : Values)
    × ForSome told (HaveValues values) × WroteBy values address command told left status input text

-- the files read as the store after some of the lines that were read
abbrev pub HoldsSome : {S O R Q A : Type 0} → ValueType S O R Q A → (List ℕ → List ℕ) → Stored O R
    → Option (List ℕ) → List ℕ → Files → Type 0
HoldsSome of address store left input c = (lines : List (List ℕ)) × WereRead left input lines
    × ReadsAfterSome of.forms (fixed_of of address store) (begins store.history) lines [] c

-- all of the lines but the last
abbrev pub but_last : List (List ℕ) → List (List ℕ)
but_last [] = []
but_last (line ∷ []) = []
but_last (line ∷ next ∷ lines) = line ∷ but_last (next ∷ lines)

-- the files read as the store after the lines that were answered, or after one line more, of whose
-- reply not all was given
abbrev pub HoldsAnswered : {S O R Q A : Type 0} → ValueType S O R Q A → (List ℕ → List ℕ)
    → Stored O R → Option (List ℕ) → List ℕ → List ℕ → Files → Type 0
HoldsAnswered of address store left input text c =
    (lines : List (List ℕ)) × WereRead left input lines
    × ReadsAfterSome of.forms (fixed_of of address store) (begins store.history) lines text c
    × IsFirstPart (script_text of address store (but_last lines)) text

-- What a crash leaves of a script's disk: at each moment the store after some of the lines that
-- were read; at the end after the lines that were answered, or one more; and after `Done` after
-- all.
pub record Survives {S O R Q A D : Type 0} (may_leave : D → Files → Type 0) (moment : D → ℕ)
    (left_since : D → ℕ → Files → Type 0) (of : ValueType S O R Q A) (address : List ℕ → List ℕ)
    (store : Stored O R) (old new : D) (left : Option (List ℕ)) (status : Status)
    (input text : List ℕ) : Type 0 where
  pub any_moment : LeavesOnly moment left_since old new (HoldsSome of address store left input)
  pub answered : (c : Files) → may_leave new c → HoldsAnswered of address store left input text c
  pub complete : status ≡ Done → (c : Files) → may_leave new c
      → ReadsAsStore of.meaning address (store_after of address store (lines_of input)) c

-- what a script did over a store: what it wrote of the input, and what a crash leaves
pub record Runs {S O R Q A D : Type 0} (may_leave : D → Files → Type 0) (moment : D → ℕ)
    (left_since : D → ℕ → Files → Type 0) (of : ValueType S O R Q A) (address : List ℕ → List ℕ)
    (store : Stored O R) (old new : D) (left : Option (List ℕ)) (status : Status)
    (input text : List ℕ) : Type 0 where
  pub wrote : WroteOver of address store left status input text
  pub size : length input ≤ 2 ^ 32
  pub survives :
      Survives may_leave moment left_since of address store old new left status input text

-- the status of a script that ran to its end, or was stopped
abbrev pub status_of : Result (Unit {0}) Status → Status
status_of (Ok done) = Done
status_of (Err status) = status
