-- The store that a disk holds.
use Rattle.std.specs.Prelude.{◌≡◌, ◌⊎◌, ℕ, List, []}
use Rattle.std.specs.declared.option.Option.{Option}
use Rattle.std.specs.Option.{ForSome}
use Rattle.mrdt_model.specs.Laws.{Meaning}
use Rattle.branch_disk.specs.Disk.{Files}
use Rattle.branch_names.specs.declared.terms.Terms.{Terms}
use Rattle.branch_history.specs.declared.moves.Move.{Move}
use Rattle.branch_machine.specs.Fixed.{fix}
use Rattle.branch_machine.specs.Validity.{IsFullyValid}
use Rattle.branch_files.specs.Reading.{Answer, Opens, NotAStore, BadRecord, BadObject, BadCommit, Truncated, ReadsAs, ReadsAsOf, ReadsIn}
use Rattle.branch_print.specs.Reports.{ready_text, not_empty_text, no_store_text, old_version_text, bad_record_text, bad_object_text, bad_commit_text, truncated_text}
use Rattle.store_core.specs.Inits.{IsEmpty}
use Rattle.store_core.specs.Opens.{old_form, ReadsOnlyAs, ReadsAsNone}

-- a store: its terms and its history
pub record Stored (O R : Type 0) : Type 0 where
  pub terms : Terms
  pub history : List (Move O R)

-- the files read as the store
abbrev pub ReadsAsStore : {S O R Q A : Type 0} → Meaning S O R Q A → (List ℕ → List ℕ) → Stored O R
    → Files → Type 0
ReadsAsStore meaning address store files = ReadsAs meaning address files
    (Opens store.terms store.history)

-- The store that opening found, asked for this kind: its history is valid, its values are of the kind
-- and, of a disk that tells, the files read as the store and as nothing else.
pub record IsOpenedAs {S O R Q A : Type 0} (kind : ℕ) (meaning : Meaning S O R Q A)
    (address : List ℕ → List ℕ) (told : Option Files) (store : Stored O R) : Type 0 where
  pub valid : IsFullyValid (fix meaning store.terms address) store.history
  pub kind_is : store.terms.kind ≡ kind
  pub reads : ForSome told (ReadsAsStore meaning address store)
  pub only : ForSome told (ReadsOnlyAs meaning address (Opens store.terms store.history))

-- Why opening was refused: of a disk that tells, the files read as this answer for one that asks
-- for this kind, and as no store.
pub record IsRefusedAs {S O R Q A : Type 0} (kind : ℕ) (meaning : Meaning S O R Q A)
    (address : List ℕ → List ℕ) (told : Option Files) (answer : Answer O R) : Type 0 where
  pub reads : ForSome told (λ files. ReadsAsOf kind meaning address files answer)
  pub no_store : ForSome told (ReadsAsNone kind meaning address)

-- the files are a store's of the old version, as far as their beginning goes
abbrev pub IsOldVersion : {S O R Q A : Type 0} → Meaning S O R Q A → (List ℕ → List ℕ) → Files
    → Type 0
IsOldVersion old address files = ¬ ReadsIn old_form old address files NotAStore

-- The text of why files are refused that read as this answer; what opens is not. Files that are no
-- store may be of the old version, over its own documents.
abbrev pub IsRefusalText : {S O R Q A P X : Type 0} → Meaning S O R Q A → (List ℕ → List ℕ)
    → Option Files → Answer P X → List ℕ → Type 0
IsRefusalText old address told (Opens terms history) text = ⊥
IsRefusalText old address told NotAStore text =
    (ForSome told (λ files. ReadsIn old_form old address files NotAStore)
    × (text ≡ no_store_text))
    ⊎ (ForSome told (IsOldVersion old address) × (text ≡ old_version_text))
IsRefusalText old address told (BadRecord number) text = text ≡ bad_record_text number
IsRefusalText old address told (BadObject place) text = text ≡ bad_object_text place
IsRefusalText old address told (BadCommit number) text = text ≡ bad_commit_text number
IsRefusalText old address told (Truncated part place) text = text ≡ truncated_text part place

-- the text of why files are refused, asked for this kind
abbrev pub SaysRefused : {S O R Q A T P X B C : Type 0} → ℕ → Meaning S O R Q A → Meaning T P X B C
    → (List ℕ → List ℕ) → Option Files → List ℕ → Type 0
SaysRefused {S} {O} {R} kind meaning old address told text = (answer : Answer O R)
    × IsRefusedAs kind meaning address told answer × IsRefusalText old address told answer text

abbrev pub SaysReady : Option Files → List ℕ → Type 0
SaysReady told text = ForSome told IsEmpty × (text ≡ ready_text)

abbrev pub SaysNotEmpty : Option Files → List ℕ → Type 0
SaysNotEmpty told text = ForSome told (λ files. ¬ IsEmpty files) × (text ≡ not_empty_text)

-- these terms, and no others
abbrev pub AreThese : Terms → Terms → Type 0
AreThese these terms = terms ≡ these

-- the files read as a store of no moves, of whose terms this is true
abbrev pub ReadsAsEmpty : {S O R Q A : Type 0} → Meaning S O R Q A → (List ℕ → List ℕ)
    → (Terms → Type 0) → Files → Type 0
ReadsAsEmpty meaning address P files = (terms : Terms) × P terms
    × ReadsAs meaning address files (Opens terms [])

-- a crash left no store, or one of no moves
abbrev pub ReadsAsNoneOrEmpty : {S O R Q A : Type 0} → Meaning S O R Q A → (List ℕ → List ℕ)
    → (Terms → Type 0) → Files → Type 0
ReadsAsNoneOrEmpty meaning address P files = ReadsAs meaning address files NotAStore
    ⊎ ReadsAsEmpty meaning address P files
