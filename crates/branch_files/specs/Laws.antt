-- What reading the files of a store answers, in the form that is written today.
use Rattle.std.specs.Prelude.{◌≡◌, ℕ, List}
use Rattle.mrdt_model.specs.Laws.{Meaning}
use Rattle.branch_wire.specs.Reading.{HasLength64}
use Rattle.branch_disk.specs.Disk.{Files}
use Rattle.branch_names.specs.declared.terms.Terms.{Terms}
use Rattle.branch_history.specs.declared.moves.Move.{Move}
use Rattle.branch_machine.specs.Fixed.{present, fix}
use Rattle.branch_machine.specs.Laws.{HasSize}
use Rattle.branch_machine.specs.Validity.{IsFullyValid}
use Rattle.branch_files.specs.Stands.{Stands}
use Rattle.branch_files.specs.Reading.{Answer, Opens, ReadsAs}
use Rattle.branch_files.specs.Forms as forms

-- files have one answer at most
abbrev pub ReadsInOneWay : {S O R Q A : Type 0} → Meaning S O R Q A → Type 0
ReadsInOneWay {S} {O} {R} m =
    (address : List ℕ → List ℕ) → HasSize address → (files : Files) → HasLength64 files.objects → (a b : Answer O R) → ReadsAs m address files a → ReadsAs m address files b → a ≡ b

-- no files are without one
abbrev pub ReadsAll : {S O R Q A : Type 0} → Meaning S O R Q A → Type 0
ReadsAll {S} {O} {R} m = (address : List ℕ → List ℕ) (files : Files) → ¬ ((a : Answer O R) → ReadsAs m address files a → ⊥)

-- what the files stand for, if it is valid, is what they read as
abbrev pub ReadsWhatStands : {S O R Q A : Type 0} → Meaning S O R Q A → Type 0
ReadsWhatStands {S} {O} {R} m =
    (terms : Terms) (address : List ℕ → List ℕ) (moves : List (Move O R)) (files : Files)
    → IsFullyValid (fix m terms address) moves → Stands (fix m terms address) moves files → ReadsAs m address files (Opens terms moves)

-- what the files read as is valid, and they stand for it
abbrev pub StandsForWhatIsRead : {S O R Q A : Type 0} → Meaning S O R Q A → Type 0
StandsForWhatIsRead {S} {O} {R} m =
    (terms : Terms) (address : List ℕ → List ℕ) (moves : List (Move O R)) (files : Files)
    → ReadsAs m address files (Opens terms moves) → IsFullyValid (fix m terms address) moves × Stands (fix m terms address) moves files

-- the next gate stands 64 bytes behind that before the last record
abbrev pub HasGates : {S O R Q A : Type 0} → Meaning S O R Q A → Type 0
HasGates m = forms.HasGates present m

-- a move appends its record
abbrev pub AppendsRecords : {S O R Q A : Type 0} → Meaning S O R Q A → Type 0
AppendsRecords m = forms.AppendsRecords present m

-- Reading goes on behind a record and the objects of a move of the machine, and behind each record that may come next of a move without a commit.
abbrev pub GoesOn : {S O R Q A : Type 0} → Meaning S O R Q A → Type 0
GoesOn m = forms.GoesOn present m

-- the objects behind a history spell the operation and the reply of the move that stands there
abbrev pub TellsOperations : {S O R Q A : Type 0} → Meaning S O R Q A → Type 0
TellsOperations m = forms.TellsOperations present m

-- and so all that the move of a commit that was received carries
abbrev pub TellsReceived : {S O R Q A : Type 0} → Meaning S O R Q A → Type 0
TellsReceived m = forms.TellsReceived present m
