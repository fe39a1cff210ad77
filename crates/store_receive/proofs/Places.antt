-- What the core answers where a branch is placed, as what is told of it here.
use Rattle.std.proofs.Common.{◌≡◌, ◌≢◌, inl, inr, ℕ, ◌<◌, arith, true, false, List, [], ◌∷◌, length, refl, ap, sym, ◌∙◌}
use Rattle.std.specs.Prelude.{Result, Ok, Err, IsTrue}
use Rattle.mrdt_model.specs.Laws.{Meaning}
use Rattle.branch_io.specs.Causes.{HasCauseOf}
use Rattle.branch_disk.specs.Disk.{Files, LeavesOnly}
use Rattle.branch_disk.specs.declared.disk.Disk.{Ghosts}
use Rattle.branch_disk.specs.Moments.{weakened}
use Rattle.branch_names.specs.Names.{is_name}
use Rattle.branch_history.specs.declared.moves.Move.{Move}
use Rattle.branch_history.specs.Steps.{Refusal, Outcome, Refused, Forked as ForkedAs, Place, Turn}
use Rattle.branch_history.specs.Steps as machine
use Rattle.branch_history.specs.Machine.{answers}
use Rattle.branch_machine.specs.Fixed.{Fixed, fix}
use Rattle.branch_machine.specs.Objects.{store_after}
use Rattle.branch_machine.specs.Validity.{IsFullyValid}
use Rattle.machine_answers.specs.Answers as answer
use Rattle.branch_bundle_laws.specs.Receiving.{placing}
use Rattle.store_seen.specs.declared.answers.Forked.{Forked}
use Rattle.store_core.specs.declared.answers.PlaceRefused.{PlaceRefused}
use Rattle.store_core.specs.declared.answers.PlaceRefused.TheVariants as refusal
use Rattle.store_core.specs.Answers.{place_answer, Leaves}
use Rattle.store_core.specs.Images.{AllStand, WithOrWithout}
use Rattle.store_core.specs.Views.{StoreView}
use Rattle.store_receive.specs.declared.answers.Placed.{Placed}
use Rattle.store_receive.specs.declared.answers.NotReceived.{NotReceived}
use Rattle.store_receive.specs.declared.answers.NotReceived.TheVariants as unreceived
use Rattle.store_receive.specs.Received.{place_stopped, IsPlaced, RefusesBranch, IsNotPlaced, StandsAfterPlace}
use Rattle.store_receive.proofs.Ends.{placed-head, place-valid, stayed}

module _ {D S O R Q A : Type 0} (disk : Ghosts D) (meaning : Meaning S O R Q A) (address : List ℕ → List ℕ) (name : List ℕ) (n : ℕ) (old new : StoreView (Move O R) D) where
  abbrev fixed : Fixed S O R Q A
  fixed = fix meaning old.terms address

  abbrev t : Turn O R A
  t = placing fixed old.history name n

  abbrev forked_as : ℕ → ℕ → Outcome A R
  forked_as number head = ForkedAs number head

  abbrev Takes : Result Forked PlaceRefused → Type 0
  Takes result = answer.Takes t old.history new.history (place_answer result)

  abbrev LeavesSo : Result Forked PlaceRefused → Type 0
  LeavesSo result = Leaves {A = A} disk meaning address (Place name n) old new (place_answer result)

  pub was-placed : (forked : Forked) → Takes (Ok forked) → LeavesSo (Ok forked) → (p : Placed) → p.branch ≡ forked.number → p.head ≡ forked.head → IsPlaced fixed name n old new p
  was-placed forked takes leaves p number head =
      let outcome : t.outcome ≡ ForkedAs forked.number forked.head = ap (λ (u : Turn O R A). u.outcome) takes.turns.1 in
      let head_is : forked.head ≡ n = placed-head fixed old.history name n forked.number forked.head outcome in
      record {
        head = head ∙ head_is;
        outcome = outcome ∙ ap (λ (k : ℕ). forked_as k forked.head) (sym number) ∙ ap (forked_as p.branch) head_is;
        now = leaves.keeps ∙ ap (λ (h : List (Move O R)). record old { history = h; disk = new.disk }) takes.history;
      }

  refuses : (r : Refusal) → t ≡ answers (Refused r) → new ≡ old → RefusesBranch fixed name n old new r
  refuses r is same = record { refused = ap (λ (u : Turn O R A). u.outcome) is; same = same }

  pub was-refused : (e : PlaceRefused) → old.failed ≡ false → Takes (Err e) → LeavesSo (Err e) → IsNotPlaced fixed name n old new (place_stopped e)
  was-refused (refusal.NameTaken number) worked takes leaves = inl (machine.NameTaken number, refl, refuses (machine.NameTaken number) takes.turns leaves.keeps)
  was-refused (refusal.FullBranches count) worked takes leaves = inl (machine.FullBranches count, refl, refuses (machine.FullBranches count) takes.turns leaves.keeps)
  was-refused (refusal.FullMoves count) worked takes leaves = inl (machine.FullMoves count, refl, refuses (machine.FullMoves count) takes.turns leaves.keeps)
  was-refused refusal.DiskFault worked takes leaves = inr (inr (refl, leaves.keeps))
  was-refused (refusal.Failed moves) worked takes leaves = let clash : false ≡ true = sym worked ∙ leaves.worked in absurd (cc clash)
  was-refused refusal.Memory worked takes leaves = inr (inl (refl, leaves.keeps))

  module _ (valid : IsFullyValid fixed old.history) (named : IsTrue (is_name name)) (there : n < length (store_after fixed old.history).commits)
      (stands : AllStand fixed old.history (disk.may_leave old.disk)) (only_now : (d : D) (c : Files) → disk.left_since d (disk.moment d) c → disk.may_leave d c) where
    with_branch : (m : Move O R) → t.made ≡ m ∷ [] → (c : Files) → WithOrWithout fixed old.history t.made c → StandsAfterPlace fixed old.history name n c
    with_branch m one c (inl before) = inl before
    with_branch m one c (inr after) = inr (place-valid fixed old.history name n valid named there m one, after)

    made_moments : (m : Move O R) → t.made ≡ m ∷ [] → LeavesOnly disk.moment disk.left_since old.disk new.disk (WithOrWithout fixed old.history t.made)
        → LeavesOnly disk.moment disk.left_since old.disk new.disk (StandsAfterPlace fixed old.history name n)
    made_moments m one all = weakened disk.moment disk.left_since old.disk new.disk (WithOrWithout fixed old.history t.made) (StandsAfterPlace fixed old.history name n) all (with_branch m one)

    still_moments : new ≡ old → LeavesOnly disk.moment disk.left_since old.disk new.disk (StandsAfterPlace fixed old.history name n)
    still_moments same = stayed disk fixed old.history old.disk new.disk (ap (λ (v : StoreView (Move O R) D). v.disk) same) stands only_now (StandsAfterPlace fixed old.history name n) (λ c before. inl before)

    pub place-moments : (result : Result Forked PlaceRefused) → old.failed ≡ false → Takes result → LeavesSo result → LeavesOnly disk.moment disk.left_since old.disk new.disk (StandsAfterPlace fixed old.history name n)
    place-moments (Ok forked) worked takes leaves = made_moments takes.turns.0 (ap (λ (u : Turn O R A). u.made) takes.turns.1) (leaves.moments worked)
    place-moments (Err (refusal.NameTaken number)) worked takes leaves = still_moments leaves.keeps
    place-moments (Err (refusal.FullBranches count)) worked takes leaves = still_moments leaves.keeps
    place-moments (Err (refusal.FullMoves count)) worked takes leaves = still_moments leaves.keeps
    place-moments (Err refusal.DiskFault) worked takes leaves = made_moments takes.turns.0 takes.turns.1 (leaves.moments worked)
    place-moments (Err (refusal.Failed moves)) worked takes leaves = still_moments leaves.keeps
    place-moments (Err refusal.Memory) worked takes leaves = still_moments leaves.keeps

  quiet : {T : Type 0} (result : Result T NotReceived) → disk.faults new.disk ≡ disk.faults old.disk → result ≢ Err unreceived.DiskFault → HasCauseOf unreceived.DiskFault (disk.faults old.disk) (disk.faults new.disk) result
  quiet result same never = record { later = omega (arith, same); failed = λ is. absurd (never is); others = λ is. same }

  pub placed-cause : (forked : Forked) (p : Placed) → LeavesSo (Ok forked) → HasCauseOf {T = Placed} unreceived.DiskFault (disk.faults old.disk) (disk.faults new.disk) (Ok p)
  placed-cause forked p leaves = quiet (Ok p) leaves.faults (λ is. cc is)

  pub refused-cause : (e : PlaceRefused) → old.failed ≡ false → LeavesSo (Err e) → HasCauseOf {T = Placed} unreceived.DiskFault (disk.faults old.disk) (disk.faults new.disk) (Err (place_stopped e))
  refused-cause (refusal.NameTaken number) worked leaves = quiet (Err (unreceived.NameTaken number)) leaves.faults (λ is. cc is)
  refused-cause (refusal.FullBranches count) worked leaves = quiet (Err (unreceived.FullBranches count)) leaves.faults (λ is. cc is)
  refused-cause (refusal.FullMoves count) worked leaves = quiet (Err (unreceived.FullMoves count)) leaves.faults (λ is. cc is)
  refused-cause refusal.DiskFault worked leaves = record { later = leaves.faults.0; failed = λ is. leaves.faults.1; others = λ never. absurd (never refl) }
  refused-cause (refusal.Failed moves) worked leaves = let clash : false ≡ true = sym worked ∙ leaves.worked in absurd (cc clash)
  refused-cause refusal.Memory worked leaves = quiet (Err unreceived.Memory) leaves.faults (λ is. cc is)
