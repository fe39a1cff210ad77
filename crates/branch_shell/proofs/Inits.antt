-- What is left of a disk of which a store is made.
use Rattle.std.proofs.Common.{◌≡◌, ℕ, List, [], length, refl, ap, inl, inr, arith}
use Rattle.mrdt_model.specs.Laws.{Meaning}
use Rattle.branch_disk.specs.Disk.{Files, LeavesOnly}
use Rattle.branch_disk.specs.Moments.{weakened}
use Rattle.branch_names.specs.declared.terms.Terms.{Terms}
use Rattle.branch_wire.specs.Fields.{version}
use Rattle.branch_machine.specs.Fixed.{fix, present}
use Rattle.branch_machine.specs.Validity.{IsFullyValid}
use Rattle.branch_files.specs.Reading.{NotAStore}
use Rattle.branch_files.specs.Forms.{ReadsAsToday}
use Rattle.branch_files.specs.Laws.{ReadsWhatStands}
use Rattle.commit_replay.specs.Laws.{ReadsAsNoStore}
use Rattle.store_core.specs.Images.{AllStand, NoneOrEmpty}
use Rattle.store_core.specs.Inits.{IsEmpty, HasBytes}
use Rattle.branch_shell.specs.Stores.{ReadsAsEmpty, ReadsAsNoneOrEmpty}

-- files with bytes are not empty
pub has_bytes : (n : ℕ) (files : Files) → HasBytes n files → IsEmpty files → ⊥
has_bytes n files has empty =
    let objects : length files.objects ≡ 0 = ap length empty.0 in
    let heads : length files.heads ≡ 0 = ap length empty.1 in
    has.1 (omega (arith, has.0, objects, heads))

module _ {S O R Q A : Type 0} (m : Meaning S O R Q A) (address : List ℕ → List ℕ) (stands : ReadsWhatStands m) (no_store : ReadsAsNoStore m)
    (today : ReadsAsToday m) where
  no_moves : (terms : Terms) → IsFullyValid (fix m terms address) []
  unfolding IsFullyValid
  no_moves terms = tt

  pub empty_store : (terms : Terms) (P : Terms → Type 0) → P terms → (images : Files → Type 0) → AllStand (fix m terms address) [] images → (c : Files) → images c → ReadsAsEmpty m address P c
  empty_store terms P is images all c image = (terms, is, stands terms address [] c (no_moves terms) (all c image))

  none_or_empty : (terms : Terms) (P : Terms → Type 0) → P terms → (c : Files) → NoneOrEmpty (fix m terms address) c → ReadsAsNoneOrEmpty m address P c
  none_or_empty terms P is c (inl none) = inl ((today address c NotAStore).0
      (no_store present address c (λ there has. none (record { version = version; terms = there }) has)))
  none_or_empty terms P is c (inr empty) = inr (terms, is, stands terms address [] c (no_moves terms) empty)

  module _ {D : Type 0} (may_leave : D → Files → Type 0) (moment : D → ℕ) (left_since : D → ℕ → Files → Type 0) where
    pub made_empty : (terms : Terms) (P : Terms → Type 0) → P terms → (old new : D) → LeavesOnly moment left_since old new (NoneOrEmpty (fix m terms address)) → LeavesOnly moment left_since old new (ReadsAsNoneOrEmpty m address P)
    made_empty terms P is old new all = weakened moment left_since old new (NoneOrEmpty (fix m terms address)) (ReadsAsNoneOrEmpty m address P) all (none_or_empty terms P is)

module _ {S O R Q A : Type 0} (m : Meaning S O R Q A) (address : List ℕ → List ℕ) where
  -- empty files read as no store
  pub empty_reads : (P : Terms → Type 0) (c : Files) → IsEmpty c → ReadsAsNoneOrEmpty m address P c
  empty_reads P c empty =
      let none : length c.heads ≡ 0 = ap length empty.1 in
      inl (inl (refl, λ terms spans. omega (arith, spans.gate, none)))

  -- terms of which this is true are such of which that is true
  pub empty_map : (P Q : Terms → Type 0) → ((terms : Terms) → P terms → Q terms) → (c : Files) → ReadsAsEmpty m address P c → ReadsAsEmpty m address Q c
  empty_map P Q f c (terms, is, reads) = (terms, f terms is, reads)

  pub none_or_empty_map : (P Q : Terms → Type 0) → ((terms : Terms) → P terms → Q terms) → (c : Files) → ReadsAsNoneOrEmpty m address P c → ReadsAsNoneOrEmpty m address Q c
  none_or_empty_map P Q f c (inl none) = inl none
  none_or_empty_map P Q f c (inr empty) = inr (empty_map P Q f c empty)
