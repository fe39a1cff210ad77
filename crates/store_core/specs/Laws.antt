-- What holds of the bytes of every store.
use Rattle.std.specs.Prelude.{◌≡◌, ℕ, ◌+◌, ◌*◌, max, List, ◌++◌, length}
use Rattle.mrdt_model.specs.Laws.{Meaning}
use Rattle.branch_disk.specs.Disk.{Files}
use Rattle.branch_names.specs.declared.terms.Terms.{Terms}
use Rattle.branch_history.specs.declared.moves.Move.{Move}
use Rattle.branch_machine.specs.Fixed.{fix}
use Rattle.branch_machine.specs.Laws.{HasSize}
use Rattle.branch_machine.specs.Objects.{end_of}
use Rattle.branch_machine.specs.Validity.{IsFullyValid}
use Rattle.store_core.specs.Contents.{files_with}

-- a longer history's files cover those of its first part
abbrev pub CoversFirstParts : {S O R Q A : Type 0} → Meaning S O R Q A → Type 0
CoversFirstParts {S} {O} {R} m =
    (terms : Terms) (address : List ℕ → List ℕ) (first second : List (Move O R)) (old : Files)
    → let fixed = fix m terms address in
    files_with fixed (first ++ second) (files_with fixed first old) ≡ files_with fixed (first ++ second) old

-- the files are as long as the history's, or as the old ones
abbrev pub HasLengths : {S O R Q A : Type 0} → Meaning S O R Q A → Type 0
HasLengths {S} {O} {R} m =
    (terms : Terms) (address : List ℕ → List ℕ) → HasSize address → (moves : List (Move O R)) → IsFullyValid (fix m terms address) moves → (old : Files)
    → let files = files_with (fix m terms address) moves old in
    (length files.objects ≡ max (end_of (fix m terms address) moves) (length old.objects)) × (length files.heads ≡ max (64 * length moves + 65) (length old.heads))
