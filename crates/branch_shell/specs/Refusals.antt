-- The refusals to open, what files read as where they come, and their texts.
use Rattle.std.specs.Prelude.{ℕ, List, Some, None}
use Rattle.mrdt_model.specs.Laws.{Meaning}
use Rattle.branch_disk.specs.Disk.{Files}
use Rattle.branch_files.specs.Reading.{NotAStore, ReadsAsOf, ReadsIn}
use Rattle.store_core.specs.Opens.{old_form, OpenRefusedAs}
use Rattle.branch_shell.specs.Stores.{IsOldVersion}
use Rattle.std.specs.declared.option.Option.{Option}
use Rattle.store_core.specs.declared.answers.OpenRefused.{OpenRefused}
use Rattle.store_core.specs.declared.answers.OpenRefused.TheVariants as refusal
use Rattle.branch_shell.specs.declared.unopened.Unopened.{Unopened}
use Rattle.branch_shell.specs.declared.unopened.Unopened.TheVariants.{OldVersion, Refused}
use Rattle.branch_print.specs.Reports.{no_store_text, old_version_text, bad_record_text, bad_object_text, bad_commit_text, truncated_text}

-- none, where the cause is the disk or the memory
abbrev pub open_refusal_text : OpenRefused → Option (List ℕ)
open_refusal_text refusal.NotAStore = Some no_store_text
open_refusal_text (refusal.BadRecord number) = Some (bad_record_text number)
open_refusal_text (refusal.BadObject place) = Some (bad_object_text place)
open_refusal_text (refusal.BadCommit number) = Some (bad_commit_text number)
open_refusal_text (refusal.Truncated part place) = Some (truncated_text part place)
open_refusal_text refusal.DiskFault = None
open_refusal_text refusal.Memory = None

abbrev pub unopened_text : Unopened → Option (List ℕ)
unopened_text OldVersion = Some old_version_text
unopened_text (Refused why) = open_refusal_text why

-- what files that read as no store read as in the old version
abbrev pub FoundAs : {S O R Q A : Type 0} → Meaning S O R Q A → (List ℕ → List ℕ) → Unopened
    → Files → Type 0
FoundAs old address OldVersion files = IsOldVersion old address files
FoundAs old address (Refused refusal.NotAStore) files = ReadsIn old_form old address files NotAStore
FoundAs old address (Refused refusal.DiskFault) files = Unit {0}
FoundAs old address (Refused refusal.Memory) files = Unit {0}
FoundAs old address (Refused why) files = ⊥

-- the files read as the refusal says, asked for this kind; those that read as no store, also in the
-- old version
abbrev pub UnopenedAs : {S O R Q A T P X B C : Type 0} → ℕ → Meaning S O R Q A → Meaning T P X B C
    → (List ℕ → List ℕ) → Unopened → Files → Type 0
UnopenedAs kind meaning old address OldVersion files =
    ReadsAsOf kind meaning address files NotAStore × IsOldVersion old address files
UnopenedAs kind meaning old address (Refused refusal.NotAStore) files =
    ReadsAsOf kind meaning address files NotAStore × ReadsIn old_form old address files NotAStore
UnopenedAs kind meaning old address (Refused why) files =
    OpenRefusedAs kind meaning address why files
