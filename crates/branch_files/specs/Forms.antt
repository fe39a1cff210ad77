-- What reading the files of a store answers, whatever form they have.
use Rattle.std.specs.Prelude.{◌≡◌, ◌≢◌, ◌↔◌, ℕ, ◌+◌, ◌*◌, List, [], ◌∷◌, ◌++◌, length, map}
use Rattle.std.specs.declared.option.Option.{Option}
use Rattle.mrdt_model.specs.Laws.{Meaning}
use Rattle.branch_wire.specs.Reading.{HasLength64}
use Rattle.branch_wire.specs.Objects.{CommitFields, commit_object}
use Rattle.branch_wire.specs.declared.action.Action.TheVariants as wire
use Rattle.branch_objects_codec.specs.Grammar.{IsCommit}
use Rattle.branch_disk.specs.Disk.{Files}
use Rattle.branch_names.specs.declared.terms.Terms.{Terms}
use Rattle.branch_history.specs.declared.moves.Move.{Move}
use Rattle.branch_history.specs.declared.moves.Move.TheVariants as move
use Rattle.branch_history.specs.History.{received_commit}
use Rattle.branch_machine.specs.Fixed.{Form, present, fix_in}
use Rattle.branch_machine.specs.Objects.{store_after, pairs_of, address_at, action_of}
use Rattle.branch_machine.specs.Laws.{HasSize}
use Rattle.branch_machine.specs.Validity.{IsFullyValid}
use Rattle.heads_journal.specs.declared.record.Record.{Record}
use Rattle.heads_journal.specs.Format.{IsHeader}
use Rattle.branch_files.specs.Records.{header_in, record_of, records_of, gate_of}
use Rattle.branch_files.specs.Stands.{Stands, Spans}
use Rattle.branch_files.specs.Next.{MakesCommit, IsNext, IsValuePart, IsMade, bytes_behind}
use Rattle.branch_files.specs.Reading.{Answer, Opens, NotAStore, ReadsIn, ReadsInOf, ReadsAs}

-- files of a form have one answer at most
abbrev pub ReadsInOneWay : {S O R Q A : Type 0} → Form → Meaning S O R Q A → Type 0
ReadsInOneWay {S} {O} {R} form m =
    (address : List ℕ → List ℕ) → HasSize address → (files : Files) → HasLength64 files.objects → (a b : Answer O R) → ReadsIn form m address files a → ReadsIn form m address files b → a ≡ b

-- no files are without one, in any form
abbrev pub ReadsAll : {S O R Q A : Type 0} → Form → Meaning S O R Q A → Type 0
ReadsAll {S} {O} {R} form m = (address : List ℕ → List ℕ) (files : Files) → ¬ ((a : Answer O R) → ReadsIn form m address files a → ⊥)

-- what the files stand for, if it is valid and a header of the form may have its terms, is what they read as
abbrev pub ReadsWhatStands : {S O R Q A : Type 0} → Form → Meaning S O R Q A → Type 0
ReadsWhatStands {S} {O} {R} form m =
    (terms : Terms) (address : List ℕ → List ℕ) (moves : List (Move O R)) (files : Files)
    → IsHeader (header_in form terms) → IsFullyValid (fix_in form m terms address) moves → Stands (fix_in form m terms address) moves files → ReadsIn form m address files (Opens terms moves)

-- what the files read as is valid, and they stand for it, with a header of the form
abbrev pub StandsForWhatIsRead : {S O R Q A : Type 0} → Form → Meaning S O R Q A → Type 0
StandsForWhatIsRead {S} {O} {R} form m =
    (terms : Terms) (address : List ℕ → List ℕ) (moves : List (Move O R)) (files : Files)
    → ReadsIn form m address files (Opens terms moves) → IsHeader (header_in form terms) × IsFullyValid (fix_in form m terms address) moves × Stands (fix_in form m terms address) moves files

-- to read files of the form that is written today is to read files
abbrev pub ReadsAsToday : {S O R Q A : Type 0} → Meaning S O R Q A → Type 0
ReadsAsToday {S} {O} {R} m = (address : List ℕ → List ℕ) (files : Files) (a : Answer O R) → ReadsIn present m address files a ↔ ReadsAs m address files a

-- files of a form have one answer at most for one that asks for a kind of values
abbrev pub ReadsOfAKindInOneWay : {S O R Q A : Type 0} → Form → Meaning S O R Q A → Type 0
ReadsOfAKindInOneWay {S} {O} {R} form m =
    (kind : ℕ) (address : List ℕ → List ℕ) → HasSize address → (files : Files) → HasLength64 files.objects
    → (a b : Answer O R) → ReadsInOf form kind m address files a → ReadsInOf form kind m address files b → a ≡ b

-- no files are without one
abbrev pub ReadsAllOfAKind : {S O R Q A : Type 0} → Form → Meaning S O R Q A → Type 0
ReadsAllOfAKind {S} {O} {R} form m = (kind : ℕ) (address : List ℕ → List ℕ) (files : Files) → ¬ ((a : Answer O R) → ReadsInOf form kind m address files a → ⊥)

-- files read as a history for one that asks for the kind of its terms, and as no history for one that asks for another
abbrev pub ReadsForItsKind : {S O R Q A : Type 0} → Form → Meaning S O R Q A → Type 0
ReadsForItsKind {S} {O} {R} form m =
    (kind : ℕ) (address : List ℕ → List ℕ) (files : Files) (terms : Terms) (moves : List (Move O R))
    → ReadsInOf form kind m address files (Opens terms moves) ↔ ((terms.kind ≡ kind) × ReadsIn form m address files (Opens terms moves))

-- what such files read as, they read as for one that asks for this kind
abbrev pub ReadsAllForItsKind : {S O R Q A : Type 0} → Form → Meaning S O R Q A → Type 0
ReadsAllForItsKind {S} {O} {R} form m =
    (kind : ℕ) (address : List ℕ → List ℕ) (files : Files) (terms : Terms) (moves : List (Move O R))
    → ReadsInOf form kind m address files (Opens terms moves) → (a : Answer O R) → ReadsIn form m address files a → ReadsInOf form kind m address files a

-- files that read as a history are no store for one that asks for another kind
abbrev pub IsNoneOfOthers : {S O R Q A : Type 0} → Form → Meaning S O R Q A → Type 0
IsNoneOfOthers {S} {O} {R} form m =
    (kind : ℕ) (address : List ℕ → List ℕ) (files : Files) (terms : Terms) (moves : List (Move O R))
    → ReadsIn form m address files (Opens terms moves) → terms.kind ≢ kind → ReadsInOf form kind m address files NotAStore

-- files that read as no store are none for one that asks for any kind
abbrev pub IsNoneOfAny : {S O R Q A : Type 0} → Form → Meaning S O R Q A → Type 0
IsNoneOfAny {S} {O} {R} form m =
    (kind : ℕ) (address : List ℕ → List ℕ) (files : Files)
    → ReadsIn form m address files NotAStore → ReadsInOf form kind m address files NotAStore

-- files of version 1 read as they do for one that asks for the kind 0
abbrev pub ReadsOldAsFirstKind : {S O R Q A : Type 0} → Form → Meaning S O R Q A → Type 0
ReadsOldAsFirstKind {S} {O} {R} form m =
    form.version ≡ 1 → (address : List ℕ → List ℕ) (files : Files) (a : Answer O R) → ReadsIn form m address files a ↔ ReadsInOf form 0 m address files a

-- the next gate stands 64 bytes behind that before the last record
abbrev pub HasGates : {S O R Q A : Type 0} → Form → Meaning S O R Q A → Type 0
HasGates {S} {O} {R} form m =
    (terms : Terms) (address : List ℕ → List ℕ) → HasSize address → (moves : List (Move O R)) → IsFullyValid (fix_in form m terms address) moves
    → gate_of (fix_in form m terms address) moves ≡ 64 * (length moves + 1)

-- a move appends its record
abbrev pub AppendsRecords : {S O R Q A : Type 0} → Form → Meaning S O R Q A → Type 0
AppendsRecords {S} {O} {R} form m =
    (terms : Terms) (address : List ℕ → List ℕ) (moves : List (Move O R)) (made : Move O R)
    → records_of (fix_in form m terms address) (moves ++ made ∷ []) ≡ records_of (fix_in form m terms address) moves ++ record_of (fix_in form m terms address) moves made ∷ []

-- Reading goes on behind a record and the objects of a move of the machine, and behind each record that may come next of a move without a commit.
abbrev pub GoesOn : {S O R Q A : Type 0} → Form → Meaning S O R Q A → Type 0
GoesOn {S} {O} {R} form m =
    (terms : Terms) (address : List ℕ → List ℕ) (files : Files) (moves : List (Move O R)) (r : Record)
    → let fixed = fix_in form m terms address in
    Spans fixed moves files → IsNext fixed moves files.heads r
    → ((made : IsMade fixed moves r (bytes_behind fixed moves files.objects r)) → Spans fixed (moves ++ made.0 ∷ []) files)
    × (¬ MakesCommit r → (made : Move O R) × (record_of fixed moves made ≡ r) × Spans fixed (moves ++ made ∷ []) files)

-- the objects behind a history spell the operation and the reply of the move that stands there
abbrev pub TellsOperations : {S O R Q A : Type 0} → Form → Meaning S O R Q A → Type 0
TellsOperations {S} {O} {R} form m =
    (terms : Terms) (address : List ℕ → List ℕ) → HasSize address → (files : Files) → HasLength64 files.objects
    → (moves : List (Move O R)) (r : ℕ) (op : O) (reply : R) → let fixed = fix_in form m terms address in
    let made = move.Operation r op reply in
    Spans fixed (moves ++ made ∷ []) files
    → (first : List ℕ) (c : CommitFields) → IsValuePart fixed first → IsCommit c → bytes_behind fixed moves files.objects (record_of fixed moves made) ≡ first ++ commit_object c
    → c.action ≡ wire.Operation (m.op_spelling op) (m.reply_spelling reply)

-- and so all that the move of a commit that was received carries
abbrev pub TellsReceived : {S O R Q A : Type 0} → Form → Meaning S O R Q A → Type 0
TellsReceived {S} {O} {R} form m =
    (terms : Terms) (address : List ℕ → List ℕ) → HasSize address → (files : Files) → HasLength64 files.objects
    → (moves : List (Move O R)) (parents : List ℕ) (origin clock : ℕ) (act : Option (O × R)) → let fixed = fix_in form m terms address in
    let made = move.Received parents origin clock act in
    let commits = (store_after fixed moves).commits in
    Spans fixed (moves ++ made ∷ []) files
    → (first : List ℕ) (c : CommitFields) → IsValuePart fixed first → IsCommit c → bytes_behind fixed moves files.objects (record_of fixed moves made) ≡ first ++ commit_object c
    → (c.parents ≡ map (address_at address (pairs_of fixed commits)) parents) × (c.branch ≡ origin) × (c.clock ≡ clock)
    × (c.action ≡ action_of fixed parents (received_commit commits parents origin clock act).event)
