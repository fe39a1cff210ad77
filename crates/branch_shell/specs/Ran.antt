-- What a run of a command did: what it wrote of the input that it read, and what a crash leaves of
-- its disk.
use Rattle.std.specs.Prelude.{◌≡◌, ◌⊎◌, ℕ, Bool, true, false, List, [], Some}
use Rattle.std.specs.declared.option.Option.{Option}
use Rattle.std.specs.Option.{ForSome}
use Rattle.mrdt_model.specs.Laws.{Meaning}
use Rattle.branch_disk.specs.declared.disk.Disk.{Ghosts}
use Rattle.branch_disk.specs.Disk.{Files, LeavesOnly}
use Rattle.branch_names.specs.declared.terms.Terms.{Terms}
use Rattle.branch_script.specs.Lines.{lines_of}
use Rattle.store_core.specs.Inits.{IsEmpty}
use Rattle.store_core.specs.Opens.{ReadsAsNone}
use Rattle.branch_command.specs.Commands.{Said, Init, Script, Look, Generate, Clients, Upgrade, Compact, Receive, Help}
use Rattle.branch_command.specs.Terms.{AreTerms}
use Rattle.branch_command.specs.Work.{Clients as ClientsGiven}
use Rattle.branch_shell.specs.declared.choose.Values.{Values}
use Rattle.branch_shell.specs.declared.choose.Values.TheVariants.{Documents, WithSequences}
use Rattle.branch_shell.specs.declared.status.Status.{Status}
use Rattle.branch_shell.specs.declared.status.Status.TheVariants.{Done, StoreRefused, DiskFault, Memory}
use Rattle.branch_shell.specs.Documents.{store_after}
use Rattle.branch_shell.specs.Values.{ValueType, documents, documents_with_sequences}
use Rattle.branch_shell.specs.Generated.{drawn_lines, HoldsAfterSome}
use Rattle.branch_shell.specs.Statuses.{WroteOf, HoldsSome, HoldsAnswered}
use Rattle.branch_shell.specs.Once.{WroteOnce}
use Rattle.branch_shell.specs.Stores.{Stored, ReadsAsStore, ReadsAsEmpty, ReadsAsNoneOrEmpty, SaysReady, SaysNotEmpty}
use Rattle.branch_shell.specs.Disks.{Disks, held, other, LeavesAsBefore, StaysSame, AreChosen, NoneChosen}
use Rattle.branch_shell.specs.Compacting.{RanCompact}
use Rattle.store_compact.specs.declared.answers.Which.{Which}
use Rattle.branch_shell.specs.Together.{RanTogether, SurvivesClients}
use Rattle.branch_shell.specs.Upgrading.{RanUpgrade}
use Rattle.branch_shell.specs.Bundling.{RanReceive}
use Rattle.mrdt_old_doc.specs.OldDocument.{old_document}

-- the disk tells files that read as the store, whose values are of this type's kind
pub record HoldsStore {S O R Q A D : Type 0} (disk : Ghosts D) (of : ValueType S O R Q A)
    (address : List ℕ → List ℕ) (old : D) (store : Stored O R) : Type 0 where
  pub files : Files
  pub told : disk.contents old ≡ Some files
  pub kind : store.terms.kind ≡ of.kind
  pub reads : ReadsAsStore of.meaning address store files

-- The store was not opened, since the disk failed or memory was short: nothing was read or written,
-- and a crash leaves only what one might have left at the start.
pub record FailsToOpen {D : Type 0} (disk : Ghosts D) (old new : D) (status : Status)
    (input text : List ℕ) : Type 0 where
  pub why : (status ≡ DiskFault) ⊎ (status ≡ Memory)
  pub no_input : input ≡ []
  pub no_text : text ≡ []
  pub any_moment : LeavesAsBefore disk old new

-- The store was opened at some moment. Before it a crash leaves only what one might have left at the
-- start, and from it on files that are some of these; at the end one of those, and after `Done` what
-- all came to.
pub record LeavesOpened {D : Type 0} (disk : Ghosts D) (old new : D) (status : Status)
    (some ended all : Files → Type 0) : Type 0 where
  pub opened : D
  pub before : LeavesAsBefore disk old opened
  pub any_moment : LeavesOnly disk.moment disk.left_since opened new some
  pub at_end : (c : Files) → disk.may_leave new c → ended c
  pub complete : status ≡ Done → (c : Files) → disk.may_leave new c → all c

-- What a crash leaves of the disk of a script over a store: from the opening on the store after some
-- of the lines that were read; at the end after those that were answered, or one more; and after
-- `Done` after all.
abbrev pub LeavesScript : {S O R Q A D : Type 0} → Ghosts D → ValueType S O R Q A
    → (List ℕ → List ℕ) → Stored O R → D → D → Option (List ℕ) → Status → List ℕ → List ℕ → Type 0
LeavesScript disk of address store old new left status input text =
    FailsToOpen disk old new status input text
    ⊎ LeavesOpened disk old new status (HoldsSome of address store left input)
    (HoldsAnswered of address store left input text)
    (ReadsAsStore of.meaning address (store_after of address store (lines_of input)))

-- The same of generated work, whose lines are drawn: from the opening on the store after some of its
-- lines, in order; and after `Done` after all.
abbrev pub LeavesWork : {S O R Q A D : Type 0} → Ghosts D → ValueType S O R Q A
    → (List ℕ → List ℕ) → Stored O R → List (List ℕ) → D → D → Status → List ℕ → List ℕ → Type 0
LeavesWork disk of address store lines old new status input text =
    FailsToOpen disk old new status input text
    ⊎ LeavesOpened disk old new status (HoldsAfterSome of address store lines)
    (HoldsAfterSome of address store lines)
    (ReadsAsStore of.meaning address (store_after of address store lines))

-- What a command leaves that changes a store: this, of each store as which the files read at the
-- start; and where they read as none, only what a crash might have left before.
pub record LeavesStore {S O R Q A D : Type 0} (disk : Ghosts D) (of : ValueType S O R Q A)
    (address : List ℕ → List ℕ) (old new : D) (P : Stored O R → Type 0) : Type 0 where
  pub over : (store : Stored O R) → HoldsStore disk of address old store → P store
  pub none : (files : Files) → disk.contents old ≡ Some files
      → ReadsAsNone of.kind of.meaning address files → LeavesAsBefore disk old new

-- What `init` leaves: where each image was empty, no store or one of no moves at each moment; after
-- `Done` the latter; and of files with a byte only what a crash might have left before.
pub record LeavesInit {S O R Q A D : Type 0} (disk : Ghosts D) (meaning : Meaning S O R Q A)
    (address : List ℕ → List ℕ) (P : Terms → Type 0) (old new : D) (status : Status)
    : Type 0 where
  pub any_moment : ((c : Files) → disk.may_leave old c → IsEmpty c)
      → LeavesOnly disk.moment disk.left_since old new (ReadsAsNoneOrEmpty meaning address P)
  pub made : status ≡ Done → (c : Files) → disk.may_leave new c → ReadsAsEmpty meaning address P c
  pub kept : (files : Files) → disk.contents old ≡ Some files → ¬ IsEmpty files
      → LeavesAsBefore disk old new

-- What a look leaves: only what a crash might have left before; and after `Done` the store,
-- whatever might have been left of it.
pub record LeavesLooked {S O R Q A D : Type 0} (disk : Ghosts D) (of : ValueType S O R Q A)
    (address : List ℕ → List ℕ) (old new : D) (status : Status) : Type 0 where
  pub any_moment : LeavesAsBefore disk old new
  pub keeps : status ≡ Done → (store : Stored O R) → HoldsStore disk of address old store
      → (c : Files) → disk.may_leave new c → ReadsAsStore of.meaning address store c

-- What clients leave of a store that was opened at some moment: before it only what a crash might have
-- left at the start, and from it on a part of the history that they came to.
pub record LeavesShared {S O R Q A D : Type 0} (disk : Ghosts D) (of : ValueType S O R Q A)
    (address : List ℕ → List ℕ) (store : Stored O R) (clients : ClientsGiven) (old new : D)
    (status : Status) : Type 0 where
  pub opened : D
  pub before : LeavesAsBefore disk old opened
  pub since : SurvivesClients disk of address store clients opened new status

-- What a crash leaves of the disk of clients over a store: they failed to open it, or worked on it.
abbrev pub LeavesClients : {S O R Q A D : Type 0} → Ghosts D → ValueType S O R Q A
    → (List ℕ → List ℕ) → Stored O R → ClientsGiven → D → D → Status → List ℕ → List ℕ → Type 0
LeavesClients disk of address store clients old new status input text =
    FailsToOpen disk old new status input text
    ⊎ LeavesShared disk of address store clients old new status

-- What clients leave: after `Done` the store with the history whose report was written; and however
-- they end, at each moment a part of the history that they came to.
pub record LeavesTogether {S O R Q A D : Type 0} (disk : Ghosts D) (of : ValueType S O R Q A)
    (address : List ℕ → List ℕ) (clients : ClientsGiven) (old new : D) (status : Status)
    (input text : List ℕ) : Type 0 where
  pub ran : status ≡ Done
      → RanTogether disk.may_leave of address (disk.contents old) clients new text
  pub leaves : LeavesStore disk of address old new
      (λ store. LeavesClients disk of address store clients old new status input text)

-- what a crash leaves of the disk of a command over one disk, with values of this type
abbrev pub Leaves : {S O R Q A D : Type 0} → Ghosts D → ValueType S O R Q A → (List ℕ → List ℕ)
    → Said → D → D → Option (List ℕ) → Status → List ℕ → List ℕ → Type 0
Leaves disk of address Script old new left status input text =
    LeavesStore disk of address old new
    (λ store. LeavesScript disk of address store old new left status input text)
Leaves disk of address (Look look) old new left status input text =
    LeavesLooked disk of address old new status
Leaves disk of address (Generate work) old new left status input text =
    LeavesStore disk of address old new
    (λ store. LeavesWork disk of address store (drawn_lines work) old new status input text)
Leaves disk of address (Clients clients) old new left status input text =
    LeavesTogether disk of address clients old new status input text
Leaves disk of address (Init numbers) old new left status input text = ⊥
Leaves disk of address Upgrade old new left status input text = ⊥
Leaves disk of address Compact old new left status input text = ⊥
Leaves disk of address (Receive name) old new left status input text = ⊥
Leaves disk of address Help old new left status input text = ⊥

-- What a run of a command over one disk, with values of this type, did, which ended with this status:
-- what it wrote of the input that it read, behind which this is left of its source; and what a crash
-- leaves of its disk, of which it changed nothing where it was refused.
pub record Ran {S O R Q A D : Type 0} (disk : Ghosts D) (of : ValueType S O R Q A)
    (address : List ℕ → List ℕ) (command : Said) (old new : D) (left : Option (List ℕ))
    (status : Status) (input text : List ℕ) : Type 0 where
  pub wrote : WroteOf of address command (disk.contents old) left status input text
  pub leaves : Leaves disk of address command old new left status input text
  pub refused : status ≡ StoreRefused → LeavesAsBefore disk old new

-- neither disk has a byte, and the text says that a store is made
abbrev pub SaysMade : Option Files → Option Files → List ℕ → Type 0
SaysMade first second text = ForSome second IsEmpty × SaysReady first text

-- one of the disks has a byte, and the text says so
abbrev pub SaysNotMade : Option Files → Option Files → List ℕ → Type 0
SaysNotMade first second text = SaysNotEmpty first text ⊎ SaysNotEmpty second text

-- What `init` did, which makes a store of such terms on the first disk, where neither has a byte.
-- Where the second has one, the first is as it was. Nothing is written to the second.
pub record RanInit {S O R Q A D : Type 0} (disk : Ghosts D) (meaning : Meaning S O R Q A)
    (address : List ℕ → List ℕ) (P : Terms → Type 0) (old new : Disks D) (status : Status)
    (text : List ℕ) : Type 0 where
  pub wrote : WroteOnce (SaysMade (disk.contents old.first) (disk.contents old.second))
      (SaysNotMade (disk.contents old.first) (disk.contents old.second)) status text
  pub leaves : LeavesInit disk meaning address P old.first new.first status
  pub refused : status ≡ StoreRefused → LeavesAsBefore disk old.first new.first
  pub full : (files : Files) → disk.contents old.second ≡ Some files → ¬ IsEmpty files
      → new.first ≡ old.first
  pub second : StaysSame disk old.second new.second

-- what it did, by the flag that asks for sequences
abbrev pub RanInitFor : {D : Type 0} → Ghosts D → (List ℕ → List ℕ) → (Terms → Type 0) → Bool
    → Disks D → Disks D → Status → List ℕ → Type 0
RanInitFor disk address P true old new status text =
    RanInit disk documents_with_sequences.meaning address P old new status text
RanInitFor disk address P false old new status text =
    RanInit disk documents.meaning address P old new status text

-- What a command did to the current disk, this one of the two, with values of this type, and to the
-- other: `upgrade` and `compact` work on both, and every other command leaves the other as it was.
-- `receive` may end refused with moves made.
abbrev pub RanChosen : {S O R Q A D : Type 0} → Ghosts D → ValueType S O R Q A → (List ℕ → List ℕ)
    → Said → Which → D → D → D → D → Option (List ℕ) → Status → List ℕ → List ℕ → Type 0
RanChosen disk of address Upgrade which old new aside aside_new left status input text =
    (input ≡ []) × RanUpgrade disk address old new aside aside_new status text
RanChosen disk of address Compact which old new aside aside_new left status input text =
    (input ≡ []) × RanCompact disk of address which old new aside aside_new status text
RanChosen disk of address (Receive name) which old new aside aside_new left status input text =
    RanReceive disk of.kind of.meaning old_document address name old new left status input text
    × (aside_new ≡ aside)
RanChosen disk of address command which old new aside aside_new left status input text =
    Ran disk of address command old new left status input text × (aside_new ≡ aside)

-- what it did where the current disk has these values
abbrev pub RanBy : {D : Type 0} → Values → Ghosts D → (List ℕ → List ℕ) → Said → Which → D → D → D
    → D → Option (List ℕ) → Status → List ℕ → List ℕ → Type 0
RanBy Documents disk address command which old new aside aside_new left status input text =
    RanChosen disk documents address command which old new aside aside_new left status input text
RanBy WithSequences disk address command which old new aside aside_new left status input text =
    RanChosen disk documents_with_sequences address command which old new aside aside_new left
    status input text

-- What a command did that works on the current disk: it was chosen, with the values that it has, and
-- there the disks were as they are in between.
pub record RanOnCurrent {D : Type 0} (disk : Ghosts D) (address : List ℕ → List ℕ) (command : Said)
    (old new : Disks D) (left : Option (List ℕ)) (status : Status) (input text : List ℕ)
    : Type 0 where
  pub which : Which
  pub values : Values
  pub between : Disks D
  pub chosen : AreChosen disk old between which values
  pub ran : RanBy values disk address command which (held which between) (held which new)
      (other which between) (other which new) left status input text

-- What a run of a command did over two disks: `init` works on the first, help on none, and every
-- other command on the current one, unless none was chosen.
abbrev pub RanOverBoth : {D : Type 0} → Ghosts D → (List ℕ → List ℕ) → Said → Disks D → Disks D
    → Option (List ℕ) → Status → List ℕ → List ℕ → Type 0
RanOverBoth disk address (Init numbers) old new left status input text = (input ≡ [])
    × RanInitFor disk address (AreTerms numbers) numbers.sequences old new status text
RanOverBoth disk address Help old new left status input text = (input ≡ []) × (new ≡ old)
RanOverBoth disk address command old new left status input text =
    NoneChosen disk old new status input text
    ⊎ RanOnCurrent disk address command old new left status input text
