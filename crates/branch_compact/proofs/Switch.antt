-- A disk that is current whose first byte alone was written is as it was.
use Rattle.std.proofs.Common.{◌≡◌, ℕ, Bool, true, false, List, [], ◌∷◌, ◌++◌, length, take, drop, refl, ap, sym, ◌∙◌, IsTrue, subst}
use Rattle.std.specs.Prelude.{nat_le, bytes_eq, if◌then◌else◌}
use Rattle.std.proofs.lemmas.Bool.{and_parts}
use Rattle.std.proofs.lemmas.List.{take-append-drop}
use Rattle.std.proofs.lemmas.Slice.Eq.{bytes_eq-Decides}
use Rattle.mrdt_model.specs.Laws.{Meaning, KeepsLaws}
use Rattle.branch_disk.specs.Disk.{Files}
use Rattle.branch_history.specs.declared.moves.Move.{Move}
use Rattle.branch_names.specs.declared.terms.Terms.{Terms}
use Rattle.branch_machine.specs.Fixed.{fix}
use Rattle.branch_files.specs.Records.{history_text}
use Rattle.branch_files.specs.Stands.{Stands}
use Rattle.branch_files.specs.Reading.{Opens, ReadsAs}
use Rattle.branch_files.proofs.Stands.{read, stands}
use Rattle.branch_compact.specs.Compact.{compact}
use Rattle.branch_compact.specs.Switch.{is_current, current, AreTornAtFirst}
use Rattle.branch_compact.proofs.Compacted.{compact-fully_valid}

-- a disk that is current begins with the byte 1
current-begins : (files : Files) → IsTrue (is_current files) → take 1 files.heads ≡ 1 ∷ []
current-begins files is = (bytes_eq-Decides (take 1 files.heads) (1 ∷ [])).0 (and_parts (nat_le 65 (length files.heads)) (bytes_eq (take 1 files.heads) (1 ∷ [])) is).1

-- files that differ in the first byte at most, and begin alike, are the same
untorn : (old new : Files) → AreTornAtFirst old new → take 1 old.heads ≡ 1 ∷ [] → take 1 new.heads ≡ 1 ∷ [] → new ≡ old
untorn old new torn was is =
    let heads : new.heads ≡ old.heads =
    sym (take-append-drop 1 new.heads) ∙ ap (λ (l : List ℕ). l ++ drop 1 new.heads) (is ∙ sym was) ∙ ap (λ (l : List ℕ). take 1 old.heads ++ l) torn.heads.after ∙ take-append-drop 1 old.heads in
    ap (λ (l : List ℕ). record { objects = l; heads = new.heads }) torn.objects ∙ ap (λ (l : List ℕ). record { objects = old.objects; heads = l }) heads

-- a text that begins with the byte 1
begins : (text file : List ℕ) → take (length (1 ∷ text)) file ≡ 1 ∷ text → take 1 file ≡ 1 ∷ []
begins text [] is = cc
begins text (x ∷ file) is = let same : x ≡ 1 = cc is in ap (λ n. n ∷ []) same

module _ {S O R Q A : Type 0} (m : Meaning S O R Q A) (laws : KeepsLaws m) (terms : Terms) (address : List ℕ → List ℕ) (moves : List (Move O R)) where
  abbrev fewer : List (Move O R)
  fewer = compact terms moves

  -- what two disks read as, where it is known of each
  either : (first second : Files) (one two : List (Move O R)) (b : Bool) → (b ≡ true → ReadsAs m address first (Opens terms one)) → (b ≡ false → ReadsAs m address second (Opens terms two))
      → ReadsAs m address (if b then first else second) (Opens terms (if b then one else two))
  either first second one two true here there = here refl
  either first second one two false here there = there refl

  -- files that stand for the compact history of one that was read
  pub reads-compact : (files others : Files) → ReadsAs m address files (Opens terms moves) → Stands (fix m terms address) fewer others → ReadsAs m address others (Opens terms fewer)
  reads-compact files others reads stand =
      let was = stands m address files terms moves reads in
      read m address others terms fewer (compact-fully_valid (fix m terms address) laws moves was.0) stand

  pub to-second : (first second torn : Files) → IsTrue (is_current first) → ReadsAs m address first (Opens terms moves) → Stands (fix m terms address) fewer second → AreTornAtFirst first torn
      → ReadsAs m address (current torn second) (Opens terms (if is_current torn then moves else fewer))
  to-second first second torn is reads stand apart =
      either torn second moves fewer (is_current torn)
      (λ here. subst (λ (f : Files). ReadsAs m address f (Opens terms moves)) (sym (untorn first torn apart (current-begins first is) (current-begins torn here))) reads)
      (λ _. reads-compact first second reads stand)

  pub to-first : (whole second torn : Files) → ReadsAs m address second (Opens terms moves) → Stands (fix m terms address) fewer whole → AreTornAtFirst whole torn
      → ReadsAs m address (current torn second) (Opens terms (if is_current torn then fewer else moves))
  to-first whole second torn reads stand apart =
      either torn second fewer moves (is_current torn)
      (λ here.
      let was = begins (drop 1 (history_text (fix m terms address) fewer)) whole.heads stand.heads.front in
      subst (λ (f : Files). ReadsAs m address f (Opens terms fewer)) (sym (untorn whole torn apart was (current-begins torn here))) (reads-compact second whole reads stand))
      (λ _. reads)
