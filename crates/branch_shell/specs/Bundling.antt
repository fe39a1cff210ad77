-- Stores that exchange branches as bundles: what `address`, `send` and `receive` write, and what is
-- left of the disk.
use Rattle.std.specs.Prelude.{◌≡◌, ◌⊎◌, ℕ, ◌^◌, ◌<◌, ◌≤◌, List, [], ◌++◌, length, Some, None}
use Rattle.std.specs.declared.option.Option.{Option}
use Rattle.std.specs.Io.KnownBytes.{IsAtEnd, Consumes}
use Rattle.branch_io.specs.Causes.{Rose}
use Rattle.mrdt_model.specs.Laws.{Meaning}
use Rattle.branch_disk.specs.declared.disk.Disk.{Ghosts}
use Rattle.branch_disk.specs.Disk.{Files, LeavesOnly}
use Rattle.branch_names.specs.declared.branch.Branch.{Branch}
use Rattle.branch_names.specs.Heads.{branch_named}
use Rattle.branch_history.specs.declared.moves.Move.{Move}
use Rattle.branch_history.specs.History.{store_of}
use Rattle.branch_history.specs.Steps.{NameTaken, BadBundle, OwnOrigin, TimeClash, Exhausted, ValueTooLarge, FullCommits, FullBranches, FullMoves, Collision}
use Rattle.branch_machine.specs.Fixed.{Fixed, fix}
use Rattle.branch_machine.specs.Objects.{address_at, pairs_of}
use Rattle.branch_bundle_laws.specs.Bundles.{Bundle, bundle_of}
use Rattle.branch_bundle_laws.specs.Text.{bundle_text, IsBundle}
use Rattle.branch_bundle_laws.specs.Receiving.{Receipt, NoBundle, Stopped, NotPlaced, Placed, ReceivesFree}
use Rattle.branch_bundle_laws.specs.Laws.{Sends}
use Rattle.branch_receipts.specs.Receipts.{Keeps, HasReceived, IsAcceptable}
use Rattle.branch_print.specs.Sent.{address_text, received_text, stop_text}
use Rattle.store_receive.specs.declared.answers.NotReceived.{NotReceived}
use Rattle.store_receive.specs.declared.answers.NotReceived.TheVariants as unreceived
use Rattle.store_receive.specs.Received.{AreFirstMoves}
use Rattle.branch_shell.specs.declared.status.Status.{Status}
use Rattle.branch_shell.specs.declared.status.Status.TheVariants.{ReadFault, InputTooLong, Memory}
use Rattle.branch_shell.specs.Once.{WroteOnce}
use Rattle.branch_shell.specs.Stores.{Stored, ReadsAsStore, IsOpenedAs, SaysRefused}
use Rattle.branch_shell.specs.Disks.{LeavesAsBefore}

-- the branches of a store
abbrev pub branches_of : {O R : Type 0} → Stored O R → List Branch
branches_of store = (store_of store.terms.origin store.history).branches

-- what is fixed for it
abbrev pub fixed_for : {S O R Q A : Type 0} → Meaning S O R Q A → (List ℕ → List ℕ) → Stored O R
    → Fixed S O R Q A
fixed_for meaning address store = fix meaning store.terms address

-- the text of the address of one of its commits
abbrev pub address_said : {S O R Q A : Type 0} → Meaning S O R Q A → (List ℕ → List ℕ) → Stored O R
    → ℕ → List ℕ
address_said meaning address store commit =
    let commits = (store_of store.terms.origin store.history).commits in
    address_text (address_at address (pairs_of (fixed_for meaning address store) commits) commit)

-- the bytes of the bundle of one of its commits, in the version of its layout, for a store that has
-- the commits with these addresses
abbrev pub bundle_said : {S O R Q A : Type 0} → Meaning S O R Q A → (List ℕ → List ℕ)
    → List (List ℕ) → Stored O R → ℕ → List ℕ
bundle_said meaning address here store commit =
    bundle_text store.terms.layout
    (bundle_of (fixed_for meaning address store) store.history commit here)

-- the branch of this number has the name, and the text says so
abbrev pub TellsTaken : {O R : Type 0} → Stored O R → List ℕ → List ℕ → Type 0
TellsTaken store name text = (number : ℕ) × (branch_named (branches_of store) name ≡ Some number)
    × (text ≡ stop_text 0 (NameTaken number))

-- a text of the store that opening found
abbrev pub SaysOf : {S O R Q A : Type 0} → ℕ → Meaning S O R Q A → (List ℕ → List ℕ)
    → Option Files → (Stored O R → List ℕ → Type 0) → List ℕ → Type 0
SaysOf {S} {O} {R} kind meaning address told P text = (store : Stored O R)
    × IsOpenedAs kind meaning address told store × P store text

-- why nothing is received: no store was opened, or a branch there has the name
abbrev pub SaysTaken : {S O R Q A T P X B C : Type 0} → ℕ → Meaning S O R Q A → Meaning T P X B C
    → (List ℕ → List ℕ) → Option Files → List ℕ → List ℕ → Type 0
SaysTaken kind meaning old address told name text = SaysRefused kind meaning old address told text
    ⊎ SaysOf kind meaning address told (λ store. TellsTaken store name) text

-- The source was not looked at, and no move was made: no store was opened, or a branch there has the
-- name.
pub record DoesNotReceive {S O R Q A T P X B C D : Type 0} (disk : Ghosts D) (kind : ℕ)
    (meaning : Meaning S O R Q A) (old_meaning : Meaning T P X B C) (address : List ℕ → List ℕ)
    (name : List ℕ) (old new : D) (status : Status) (input text : List ℕ) : Type 0 where
  pub no_input : input ≡ []
  pub wrote : WroteOnce (λ whole. ⊥)
      (SaysTaken kind meaning old_meaning address (disk.contents old) name) status text
  pub kept : LeavesAsBefore disk old new

-- the text of how the receiving of bytes ended
abbrev pub receipt_text : Receipt → List ℕ
receipt_text NoBundle = stop_text 0 BadBundle
receipt_text (Stopped item refusal) = stop_text item refusal
receipt_text (NotPlaced refusal) = stop_text 0 refusal
receipt_text (Placed count number head) = received_text count number head

-- a branch was placed, or it was not
abbrev pub IsSuccess : Receipt → Type 0
IsSuccess (Placed count number head) = Unit {0}
IsSuccess receipt = ⊥

abbrev pub IsRefusal : Receipt → Type 0
IsRefusal (Placed count number head) = ⊥
IsRefusal receipt = Unit {0}

-- the store with more moves
abbrev pub with_moves : {O R : Type 0} → Stored O R → List (Move O R) → Stored O R
with_moves store made = record { terms = store.terms; history = store.history ++ made }

-- Where the bytes are those of the bundle of a commit of a sender of the same layout, for one that
-- has the commits here with these addresses, and the store holds what was left out, it accepts them.
abbrev pub AcceptsSaid : {S O R Q A : Type 0} → Meaning S O R Q A → (List ℕ → List ℕ) → Stored O R
    → List ℕ → List (Move O R) → Receipt → Type 0
AcceptsSaid {S} {O} {R} meaning address store bytes made receipt =
    (sender : Stored O R) (tip : ℕ) (here : List (List ℕ))
    → let one = fixed_for meaning address sender in
    let other = fixed_for meaning address store in
    Sends one sender.history tip here other store.history
    → bytes ≡ bundle_said meaning address here sender tip
    → IsAcceptable one sender.history tip other (store.history ++ made) receipt

-- Bytes were received into a store under a free name, and answered so: these files read as the store
-- with the moves that were made of them, in which all older commits and branches stand, and where a
-- branch was placed this one and the bundle. What a valid store sent is accepted.
pub record IsAnswered {S O R Q A : Type 0} (meaning : Meaning S O R Q A) (address : List ℕ → List ℕ)
    (store : Stored O R) (bytes name : List ℕ) (images : Files → Type 0) (receipt : Receipt)
    : Type 0 where
  pub made : List (Move O R)
  pub received : ReceivesFree (fixed_for meaning address store) store.history bytes name receipt made
  pub reads : (c : Files) → images c → ReadsAsStore meaning address (with_moves store made) c
  pub has : HasReceived (fixed_for meaning address store) store.history bytes name made receipt
  pub accepts : AcceptsSaid meaning address store bytes made receipt

-- The files read as the store with the moves of a first part of the items of the bundle that the
-- bytes spell in its layout, or of all and of the branch, behind which all older commits and branches
-- stand; or as the store.
abbrev pub ReadsOnTheWay : {S O R Q A : Type 0} → Meaning S O R Q A → (List ℕ → List ℕ)
    → Stored O R → List ℕ → List ℕ → Files → Type 0
ReadsOnTheWay {S} {O} {R} meaning address store bytes name c =
    ReadsAsStore meaning address store c
    ⊎ ((bundle : Bundle) × IsBundle store.terms.layout bundle
    × (bytes ≡ bundle_text store.terms.layout bundle) × (made : List (Move O R))
    × AreFirstMoves (fixed_for meaning address store) store.history bundle name made
    × Keeps (fixed_for meaning address store) store.history name made
    × ReadsAsStore meaning address (with_moves store made) c)

-- a text of how the receiving of bytes ended, by a receipt of which this is true
abbrev pub SaysReceipt : {S O R Q A : Type 0} → Meaning S O R Q A → (List ℕ → List ℕ)
    → Stored O R → List ℕ → List ℕ → (Files → Type 0) → (Receipt → Type 0) → List ℕ → Type 0
SaysReceipt meaning address store bytes name images P text = (receipt : Receipt) × P receipt
    × IsAnswered meaning address store bytes name images receipt × (text ≡ receipt_text receipt)

-- What was written, by the status, of the input that was read, behind which this is left of the
-- source; with what a crash leaves at the end.
abbrev pub WroteReceived : {S O R Q A : Type 0} → Meaning S O R Q A → (List ℕ → List ℕ)
    → Stored O R → List ℕ → (Files → Type 0) → Option (List ℕ) → Status → List ℕ → List ℕ → Type 0
WroteReceived meaning address store name images left ReadFault input text =
    (length input < 2 ^ 32) × (text ≡ [])
WroteReceived meaning address store name images left InputTooLong input text =
    (length input ≡ 2 ^ 32) × (text ≡ [])
WroteReceived meaning address store name images left Memory input text =
    (length input ≤ 2 ^ 32) × (text ≡ [])
WroteReceived meaning address store name images left status input text = IsAtEnd left
    × (length input < 2 ^ 32)
    × WroteOnce (SaysReceipt meaning address store input name images IsSuccess)
    (SaysReceipt meaning address store input name images IsRefusal) status text

-- a status with which no bytes were received: the source failed, or had too many
abbrev pub IsUnread : Status → Type 0
IsUnread ReadFault = Unit {0}
IsUnread InputTooLong = Unit {0}
IsUnread status = ⊥

-- The store that was opened over this disk has no branch of the name, and the source was read. What
-- was written; and at each moment the files read as the store, or as it with moves of the bundle that
-- was read. Where the source was not read to its end the disk is as it was, whatever the status.
pub record ReceivesFrom {S O R Q A D : Type 0} (disk : Ghosts D) (meaning : Meaning S O R Q A)
    (address : List ℕ → List ℕ) (name : List ℕ) (store : Stored O R) (opened new : D)
    (left : Option (List ℕ)) (status : Status) (input text : List ℕ) : Type 0 where
  pub free : branch_named (branches_of store) name ≡ None
  pub wrote : WroteReceived meaning address store name (disk.may_leave new) left status input text
  pub moments : LeavesOnly disk.moment disk.left_since opened new
      (ReadsOnTheWay meaning address store input name)
  pub unread : IsUnread status → new ≡ opened
  pub untouched : IsAtEnd left ⊎ (new ≡ opened)

-- Receiving into a store that was opened over this disk: a branch has the name, or the source was
-- read.
abbrev pub TakenFrom : {S O R Q A D : Type 0} → Ghosts D → Meaning S O R Q A → (List ℕ → List ℕ)
    → List ℕ → Stored O R → D → D → Option (List ℕ) → Status → List ℕ → List ℕ → Type 0
TakenFrom disk meaning address name store opened new left status input text =
    ((input ≡ []) × WroteOnce (λ whole. ⊥) (TellsTaken store name) status text × (new ≡ opened))
    ⊎ ReceivesFrom disk meaning address name store opened new left status input text

-- It was opened at some moment, before which a crash leaves only what one might have left at the
-- start.
pub record DoesReceive {S O R Q A D : Type 0} (disk : Ghosts D) (meaning : Meaning S O R Q A)
    (address : List ℕ → List ℕ) (name : List ℕ) (store : Stored O R) (old new : D)
    (left : Option (List ℕ)) (status : Status) (input text : List ℕ) : Type 0 where
  pub opened : D
  pub before : LeavesAsBefore disk old opened
  pub since : ReceivesFrom disk meaning address name store opened new left status input text

-- What `receive` did, which ended with this status: what it wrote of the input that it read, and
-- what a crash leaves of its disk.
abbrev pub RanReceive : {S O R Q A T P X B C D : Type 0} → Ghosts D → ℕ → Meaning S O R Q A
    → Meaning T P X B C → (List ℕ → List ℕ) → List ℕ → D → D → Option (List ℕ) → Status → List ℕ
    → List ℕ → Type 0
RanReceive {S} {O} {R} disk kind meaning old_meaning address name old new left status input text =
    DoesNotReceive disk kind meaning old_meaning address name old new status input text
    ⊎ ((store : Stored O R) × IsOpenedAs kind meaning address (disk.contents old) store
    × DoesReceive disk meaning address name store old new left status input text)

-- the text of why a bundle was not received; none, where the cause is the disk or the memory
abbrev pub not_received_text : NotReceived → Option (List ℕ)
not_received_text unreceived.NoBundle = Some (stop_text 0 BadBundle)
not_received_text (unreceived.BadBundle item) = Some (stop_text item BadBundle)
not_received_text (unreceived.OwnOrigin item) = Some (stop_text item OwnOrigin)
not_received_text (unreceived.TimeClash item number) = Some (stop_text item (TimeClash number))
not_received_text (unreceived.Exhausted clock) = Some (stop_text 0 (Exhausted clock))
not_received_text (unreceived.ValueTooLarge length) = Some (stop_text 0 (ValueTooLarge length))
not_received_text (unreceived.FullCommits count) = Some (stop_text 0 (FullCommits count))
not_received_text (unreceived.FullMoves count) = Some (stop_text 0 (FullMoves count))
not_received_text (unreceived.Collision address stored fresh) =
    Some (stop_text 0 (Collision address stored fresh))
not_received_text (unreceived.NameTaken number) = Some (stop_text 0 (NameTaken number))
not_received_text (unreceived.FullBranches count) = Some (stop_text 0 (FullBranches count))
not_received_text unreceived.DiskFault = None
not_received_text unreceived.Memory = None

-- how much was read where reading stopped before the end
abbrev pub StopsBehind : Status → List ℕ → Type 0
StopsBehind ReadFault input = length input < 2 ^ 32
StopsBehind InputTooLong input = length input ≡ 2 ^ 32
StopsBehind Memory input = length input ≤ 2 ^ 32
StopsBehind status input = ⊥

abbrev pub StopsReading : Option (List ℕ) → Option (List ℕ) → Status → Type 0
StopsReading left_old left_new status = (input : List ℕ) × Consumes left_old left_new input
    × StopsBehind status input

-- the source's count rose where reading failed, and stays else
abbrev pub SourceReason : ℕ → ℕ → Status → Type 0
SourceReason before now ReadFault = Rose before now
SourceReason before now status = now ≡ before
