-- What replayed records and objects say of the files that have them.
use Rattle.std.specs.Prelude.{◌≡◌, ℕ, List, []}
use Rattle.std.specs.declared.option.Option.{Option}
use Rattle.std.specs.declared.option.Option.TheVariants.{None, Some}
use Rattle.mrdt_model.specs.Laws.{Meaning}
use Rattle.branch_disk.specs.Disk.{Files}
use Rattle.branch_wire.specs.StoredObjects.{Begins}
use Rattle.branch_names.specs.declared.terms.Terms.{Terms}
use Rattle.branch_history.specs.declared.moves.Move.{Move}
use Rattle.heads_journal.specs.declared.record.Record.{Record}
use Rattle.heads_journal.specs.declared.reading.Stop.{Stop}
use Rattle.heads_journal.specs.declared.reading.Stop.TheVariants as stop
use Rattle.heads_journal.specs.Heads as heads
use Rattle.heads_journal.specs.Reading as heads_reading
use Rattle.branch_machine.specs.Fixed.{Form, fix_in}
use Rattle.branch_machine.specs.Objects.{objects_text}
use Rattle.branch_files.specs.Records.{header_in, records_of}
use Rattle.branch_files.specs.Reading.{Answer, Opens, NotAStore, BadRecord, BadObject, BadCommit, Truncated, ReadsIn, ReadsInOf}
use Rattle.commit_replay.specs.declared.refused.ReplayRefused.{ReplayRefused}
use Rattle.commit_replay.specs.declared.refused.ReplayRefused.TheVariants as refused
use Rattle.commit_replay.specs.Follows.{Follows}
use Rattle.commit_replay.specs.Refusals.{ReplayRefusedAs}

-- what files read as whose records are all those of a history, given why there are no more records
abbrev pub answer_of : {O R : Type 0} → Terms → List (Move O R) → Option Stop → Answer O R
answer_of terms moves None = Opens terms moves
answer_of terms moves (Some (stop.Truncated part place)) = Truncated part place
answer_of terms moves (Some (stop.BadRecord number)) = BadRecord number

-- the files of a form read as a refusal says, for one that asks for a kind of values
abbrev pub ReadsAsRefused : {S O R Q A : Type 0} → Form → ℕ → Meaning S O R Q A → (List ℕ → List ℕ) → Files → ReplayRefused → Type 0
ReadsAsRefused form kind m address files refused.NotAStore = ReadsInOf form kind m address files NotAStore
ReadsAsRefused form kind m address files (refused.BadRecord number) = ReadsInOf form kind m address files (BadRecord number)
ReadsAsRefused form kind m address files (refused.Truncated part place) = ReadsInOf form kind m address files (Truncated part place)
ReadsAsRefused form kind m address files (refused.BadObject place) = ReadsInOf form kind m address files (BadObject place)
ReadsAsRefused form kind m address files (refused.BadCommit number) = ReadsInOf form kind m address files (BadCommit number)
ReadsAsRefused form kind m address files refused.Memory = Unit {0}

-- What the records of files' heads and the files' objects are replayed to, the files read as, in each form, for one that asks for the kind that their header has.
abbrev pub ReadsAsReplayed : {S O R Q A : Type 0} → Meaning S O R Q A → Type 0
ReadsAsReplayed {S} {O} {R} m =
    (form : Form) (terms : Terms) (address : List ℕ → List ℕ) (files : Files) (records : List Record) (stop : Option Stop)
    → heads_reading.ReadsAs files.heads (header_in form terms) records stop
    → ((moves : List (Move O R)) → Follows (fix_in form m terms address) moves records files.objects → records_of (fix_in form m terms address) moves ≡ records
    → ReadsInOf form terms.kind m address files (answer_of terms moves stop))
    × ((refusal : ReplayRefused) → ReplayRefusedAs (fix_in form m terms address) records files.objects refusal → ReadsAsRefused form terms.kind m address files refusal)

-- Files whose heads have no header of a form are no store's in that form.
abbrev pub ReadsAsNoStore : {S O R Q A : Type 0} → Meaning S O R Q A → Type 0
ReadsAsNoStore {S} {O} {R} m =
    (form : Form) (address : List ℕ → List ℕ) (files : Files) → ((terms : Terms) → heads.HasHeader (header_in form terms) files.heads → ⊥) → ReadsIn form m address files NotAStore

-- And where they have none with a kind of values, the files are none for one that asks for this kind.
abbrev pub ReadsAsNoneOfKind : {S O R Q A : Type 0} → Meaning S O R Q A → Type 0
ReadsAsNoneOfKind {S} {O} {R} m =
    (form : Form) (kind : ℕ) (address : List ℕ → List ℕ) (files : Files) → heads.HasNone form.version kind files.heads → ReadsInOf form kind m address files NotAStore

-- Files whose heads have a header of a form are a store's in that form where the objects begin with those of the empty history, and else they are none's.
abbrev pub ReadsAsStore : {S O R Q A : Type 0} → Meaning S O R Q A → Type 0
ReadsAsStore {S} {O} {R} m =
    (form : Form) (terms : Terms) (address : List ℕ → List ℕ) (files : Files) → heads.HasHeader (header_in form terms) files.heads
    → (Begins (objects_text (fix_in form m terms address) []) files.objects → ¬ ReadsIn form m address files NotAStore)
    × ((Begins (objects_text (fix_in form m terms address) []) files.objects → ⊥) → ReadsIn form m address files NotAStore)
