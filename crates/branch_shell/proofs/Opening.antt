-- A store from its opening on: what is left where it was opened, and where it was not.
use Rattle.std.proofs.Common.{◌⊎◌, ◌≡◌, ℕ, ◌≤◌, List, [], refl, ap, ◌∙◌, inl, inr}
use Rattle.branch_disk.specs.declared.disk.Disk.{Ghosts}
use Rattle.branch_disk.specs.Disk.{Files}
use Rattle.branch_disk.specs.Moments.{started}
use Rattle.branch_files.specs.Reading.{Opens, ReadsAs, ReadsAsOf}
use Rattle.branch_files.proofs.OfAKind.{own-kind}
use Rattle.branch_files.proofs.Today.{today-reads}
use Rattle.branch_machine.specs.Fixed.{present}
use Rattle.branch_names.specs.declared.terms.Terms.{Terms}
use Rattle.branch_shell.specs.declared.status.Status.{Status}
use Rattle.branch_shell.specs.declared.status.Status.TheVariants.{Done, Usage, StoreRefused, DiskFault, ReadFault, WriteFault, LineTooLong, InputTooLong, Memory}
use Rattle.branch_shell.specs.Documents.{SaysUnopened}
use Rattle.branch_shell.specs.Once.{WroteOnce}
use Rattle.branch_shell.specs.Disks.{LeavesAsBefore}
use Rattle.branch_shell.specs.Ran.{HoldsStore, FailsToOpen}
use Rattle.branch_shell.specs.Stores.{Stored, IsOpenedAs}
use Rattle.branch_shell.specs.Values.{ValueType}
use Rattle.branch_history.specs.declared.moves.Move.{Move}

-- files that read as a store of a kind read so for one that asks for this kind
pub for_its_kind : {S O R Q A : Type 0} (of : ValueType S O R Q A) (address : List ℕ → List ℕ) (files : Files) (terms : Terms) (history : List (Move O R)) → terms.kind ≡ of.kind
    → ReadsAs of.meaning address files (Opens terms history) → ReadsAsOf of.kind of.meaning address files (Opens terms history)
for_its_kind of address files terms history first reads =
    own-kind present of.kind of.meaning address files terms history first (today-reads of.meaning address files (Opens terms history) reads)

module _ {S O R Q A : Type 0} (of : ValueType S O R Q A) (address : List ℕ → List ℕ) {D : Type 0} (disk : Ghosts D)
    (counts_now : (d : D) (t : ℕ) (c : Files) → t ≤ disk.moment d → disk.may_leave d c → disk.left_since d t c)
    (only_now : (d : D) (c : Files) → disk.left_since d (disk.moment d) c → disk.may_leave d c) where
  abbrev stored : Terms → List (Move O R) → Stored O R
  stored terms history = record { terms = terms; history = history }

  -- the store that opening found is the one as which the files read
  pub store_read : (old : D) (store found : Stored O R) → HoldsStore disk of address old store
      → IsOpenedAs of.kind of.meaning address (disk.contents old) found → found ≡ store
  store_read old store found holds opened =
      let same : Opens store.terms store.history ≡ Opens found.terms found.history =
      opened.only holds.files holds.told (Opens store.terms store.history) holds.reads in
      let terms : found.terms ≡ store.terms = cc same in
      let history : found.history ≡ store.history = cc same in
      ap (λ (l : Terms). stored l found.history) terms ∙ ap (stored store.terms) history

  -- nothing was done
  pub untouched : (old : D) → LeavesAsBefore disk old old
  untouched old = started disk.moment disk.left_since old (disk.may_leave old) (only_now old)

  -- files that are refused are no store
  no_refusal : (old : D) (store : Stored O R) (text : List ℕ) → HoldsStore disk of address old store
      → SaysUnopened of address (disk.contents old) text → ⊥
  no_refusal old store text holds says =
      says.1.no_store holds.files holds.told store.terms store.history
      (for_its_kind of address holds.files store.terms store.history holds.kind holds.reads)

  -- what was written of a store that was not opened: nothing
  no_text : (old : D) (store : Stored O R) (status : Status) (text : List ℕ) → HoldsStore disk of address old store
      → WroteOnce (λ whole. ⊥) (SaysUnopened of address (disk.contents old)) status text
      → (text ≡ []) × ((status ≡ DiskFault) ⊎ (status ≡ Memory))
  no_text old store Done text holds w = absurd w
  no_text old store Usage text holds w = absurd w
  no_text old store StoreRefused text holds w = absurd (no_refusal old store text holds w)
  no_text old store DiskFault text holds w = (w, inl refl)
  no_text old store ReadFault text holds w = absurd w
  no_text old store WriteFault text holds (whole, (inl not), part) = absurd not
  no_text old store WriteFault text holds (whole, (inr says), part) =
      absurd (no_refusal old store whole holds says)
  no_text old store LineTooLong text holds w = absurd w
  no_text old store InputTooLong text holds w = absurd w
  no_text old store Memory text holds w = (w, inr refl)

  -- a run that only failed to open its store
  pub failed : (old new : D) (store : Stored O R) (status : Status) (text : List ℕ) → HoldsStore disk of address old store
      → LeavesAsBefore disk old new
      → WroteOnce (λ whole. ⊥) (SaysUnopened of address (disk.contents old)) status text
      → FailsToOpen disk old new status [] text
  failed old new store status text holds all w =
      let none = no_text old store status text holds w in
      record {
        why = none.1;
        no_input = refl;
        no_text = none.0;
        any_moment = all;
      }
