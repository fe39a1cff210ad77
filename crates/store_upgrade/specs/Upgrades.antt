-- What an upgrade answers, and what it leaves of the two disks.
use Rattle.std.specs.Prelude.{◌≡◌, ◌≢◌, ◌⊎◌, ℕ, ◌≤◌, List, Option, Result, Err}
use Rattle.std.specs.Option.{ForSome}
use Rattle.branch_io.specs.Causes.{Rose}
use Rattle.branch_disk.specs.Disk.{Files, LeavesOnly}
use Rattle.branch_disk.specs.declared.disk.Disk.{Ghosts}
use Rattle.branch_names.specs.declared.terms.Terms.{Terms}
use Rattle.branch_doc.specs.Forms.{DocOp, DocReply, DocQuery, DocAnswer}
use Rattle.branch_doc.specs.Document.{DocState, document}
use Rattle.mrdt_old_doc.specs.OldDocument.{OldDocOp, old_document, renewed_op}
use Rattle.branch_history.specs.declared.moves.Move.{Move}
use Rattle.branch_history.specs.Commits.{visible}
use Rattle.branch_history.specs.History.{store_of}
use Rattle.branch_machine.specs.Fixed.{Fixed, fix, fix_in}
use Rattle.branch_machine.specs.Validity.{IsFullyValid}
use Rattle.branch_files.specs.Reading.{Answer, Opens, NotAStore, BadRecord, BadObject, BadCommit, Truncated, ReadsIn}
use Rattle.branch_renewal.specs.Renewed.{renewed_moves}
use Rattle.store_core.specs.declared.answers.OpenRefused.{OpenRefused}
use Rattle.store_core.specs.declared.answers.OpenRefused.TheVariants as open_refusal
use Rattle.store_core.specs.Inits.{IsEmpty, HasBytes}
use Rattle.store_core.specs.Opens.{old_form, ReadsOnlyIn}
use Rattle.moves_again.specs.declared.answers.MakeRefused.{MakeRefused}
use Rattle.moves_again.specs.declared.answers.MakeRefused.TheVariants as make_refusal
use Rattle.store_upgrade.specs.declared.answers.UpgradeRefused.{UpgradeRefused}
use Rattle.store_upgrade.specs.declared.answers.UpgradeRefused.TheVariants as refusal
use Rattle.moves_again.specs.Again.{NoneOrSome, StopsAt, AllMade}

-- a first disk that cannot be read is not upgraded, for the same reason
abbrev pub open_refused : OpenRefused → UpgradeRefused
open_refused open_refusal.NotAStore = refusal.NotAStore
open_refused (open_refusal.BadRecord number) = refusal.BadRecord number
open_refused (open_refusal.Truncated part place) = refusal.Truncated part place
open_refused (open_refusal.BadObject place) = refusal.BadObject place
open_refused (open_refusal.BadCommit number) = refusal.BadCommit number
open_refused open_refusal.DiskFault = refusal.DiskFault
open_refused open_refusal.Memory = refusal.Memory

-- and so where its moves cannot be made again
abbrev pub make_refused : MakeRefused → UpgradeRefused
make_refused (make_refusal.NotEmpty length) = refusal.NotEmpty length
make_refused (make_refusal.Refused number) = refusal.Upgrade number
make_refused make_refusal.DiskFault = refusal.DiskFault
make_refused make_refusal.Memory = refusal.Memory

-- a store of today's documents
abbrev pub today : (List ℕ → List ℕ) → Terms → Fixed DocState DocOp DocReply DocQuery DocAnswer
today address terms = fix document terms address

-- the moves of a history of the first version, made of today's operations
abbrev pub moves_today : List (Move OldDocOp DocReply) → List (Move DocOp DocReply)
moves_today moves = renewed_moves renewed_op moves

-- files read in the first version as this answer, and as no other
abbrev pub ReadsOldAs : (List ℕ → List ℕ) → Answer OldDocOp DocReply → Files → Type 0
ReadsOldAs address answer files =
    ReadsIn old_form old_document address files answer × ReadsOnlyIn old_form old_document address answer files

-- what the first disk tells reads in the first version as these terms and moves alone, which are valid
pub record WasRead {D : Type 0} (disk : Ghosts D) (address : List ℕ → List ℕ) (first : D) (terms : Terms)
    (moves : List (Move OldDocOp DocReply)) : Type 0 where
  pub reads : ForSome (disk.contents first) (ReadsOldAs address (Opens terms moves))
  pub valid : IsFullyValid (fix_in old_form old_document terms address) moves

-- The first disk was read so, and its moves are being made of the second. Where each image of that was empty, each image at
-- each moment since is no store, or stands for some first ones of these moves.
pub record Begun {D : Type 0} (disk : Ghosts D) (address : List ℕ → List ℕ) (first second now : D) : Type 0 where
  pub terms : Terms
  pub moves : List (Move OldDocOp DocReply)
  pub read : WasRead disk address first terms moves
  pub moments : ((c : Files) → disk.may_leave second c → IsEmpty c)
      → LeavesOnly disk.moment disk.left_since second now (NoneOrSome (today address terms) (moves_today moves))

-- each query has at each commit the answer that it had in the first version
abbrev pub AnswersAlike : Terms → List (Move OldDocOp DocReply) → Type 0
AnswersAlike terms moves =
    (n : ℕ) (q : DocQuery)
    → document.answer_of (visible (store_of terms.origin (moves_today moves)).commits n) q
    ≡ old_document.answer_of (visible (store_of terms.origin moves).commits n) q

-- all moves of the first disk are made of the second, which was empty: there are so many, and each image stands for them
pub record Upgraded {D : Type 0} (disk : Ghosts D) (address : List ℕ → List ℕ) (first second : D) (count : ℕ) (now : D) : Type 0 where
  pub begun : Begun disk address first second now
  pub empty : ForSome (disk.contents second) IsEmpty
  pub made : AllMade (today address begun.terms) (moves_today begun.moves) count (disk.may_leave now)
  pub answers : AnswersAlike begun.terms begun.moves

-- the first disk reads so in the first version, and nothing is done to the second
abbrev pub NotRead : {D : Type 0} → Ghosts D → (List ℕ → List ℕ) → D → D → D → Answer OldDocOp DocReply → Type 0
NotRead disk address first second now answer =
    ForSome (disk.contents first) (ReadsOldAs address answer) × (now ≡ second)

-- Why a store is not upgraded, and what is left of the second disk.
abbrev pub UpgradeRefusedAs : {D : Type 0} → Ghosts D → (List ℕ → List ℕ) → D → D → D → UpgradeRefused → Type 0
UpgradeRefusedAs disk address first second now refusal.NotAStore = NotRead disk address first second now NotAStore
UpgradeRefusedAs disk address first second now (refusal.BadRecord number) = NotRead disk address first second now (BadRecord number)
UpgradeRefusedAs disk address first second now (refusal.Truncated part place) = NotRead disk address first second now (Truncated part place)
UpgradeRefusedAs disk address first second now (refusal.BadObject place) = NotRead disk address first second now (BadObject place)
UpgradeRefusedAs disk address first second now (refusal.BadCommit number) = NotRead disk address first second now (BadCommit number)
UpgradeRefusedAs disk address first second now (refusal.NotEmpty length) =
    Begun disk address first second now × ForSome (disk.contents second) (HasBytes length)
    × (disk.contents now ≡ disk.contents second)
UpgradeRefusedAs disk address first second now (refusal.Upgrade number) =
    (begun : Begun disk address first second now) × ForSome (disk.contents second) IsEmpty
    × StopsAt (today address begun.terms) (moves_today begun.moves) number (disk.may_leave now)
UpgradeRefusedAs disk address first second now refusal.DiskFault = (now ≡ second) ⊎ Begun disk address first second now
UpgradeRefusedAs disk address first second now refusal.Memory = (now ≡ second) ⊎ Begun disk address first second now

-- a disk's count of faults never falls, and no count changes but where the fault is answered: then one of the two rose, and
-- the other stays
pub record HasCauseOfEither (first_before first_now second_before second_now : ℕ) (refused : UpgradeRefused) : Type 0 where
  pub first_later : first_before ≤ first_now
  pub second_later : second_before ≤ second_now
  pub failed : refused ≡ refusal.DiskFault
      → (Rose first_before first_now × (second_now ≡ second_before))
      ⊎ ((first_now ≡ first_before) × Rose second_before second_now)
  pub others : refused ≢ refusal.DiskFault → (first_now ≡ first_before) × (second_now ≡ second_before)
