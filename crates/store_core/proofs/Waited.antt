-- What moves that waited left, from what was put on the disk.
use Rattle.std.proofs.Common.{◌≡◌, inl, ℕ, ◌≤◌, Bool, true, false, List, [], ◌∷◌, ◌++◌, length, refl, sym, ◌∙◌, ap, subst, arith, Result, Ok, Err}
use Rattle.std.specs.Prelude.{OnOk}
use Rattle.branch_io.specs.Causes.{Rose}
use Rattle.branch_disk.specs.Disk.{Files, LeavesOnly}
use Rattle.branch_disk.specs.Moments.{started, now_too}
use Rattle.branch_disk.specs.declared.disk.Disk.{Ghosts}
use Rattle.mrdt_model.specs.Laws.{Meaning}
use Rattle.branch_history.specs.declared.moves.Move.{Move}
use Rattle.heads_journal.specs.declared.journal.Journal.{Journal}
use Rattle.heads_journal.specs.Journals.{count_of, has_failed}
use Rattle.branch_machine.specs.Fixed.{fix}
use Rattle.branch_machine.specs.Validity.{IsFullyValid}
use Rattle.recorded_history.specs.Views.{RecordedView}
use Rattle.store_core.specs.Batches.{ExactlyAll, LeavesMoves}
use Rattle.store_core.specs.Contents.{LeavesExactly, MayTear, PutsExactly}
use Rattle.store_core.specs.Images.{AllStand, MayBeLeft, WithFirst}
use Rattle.store_core.specs.Keeps.{IsCore}
use Rattle.store_core.specs.Views.{StoreView}
use Rattle.store_core.proofs.Answered.{view_of}
use Rattle.store_core.proofs.Puts.{none_first}

-- there is a first move, and then the bytes are exactly those of the longer history
pub exactly-some : {D S O R Q A : Type 0} (meaning : Meaning S O R Q A) (address : List ℕ → List ℕ) (disk : Ghosts D) (old new : StoreView (Move O R) D) (made : List (Move O R))
    → 1 ≤ length made → LeavesExactly meaning address disk.contents old new → ExactlyAll meaning address disk.contents old new made
exactly-some meaning address disk old new [] some exact = absurd (omega arith)
exactly-some meaning address disk old new (m ∷ made) some exact = exact

-- a call that failed before fails, or one that works works
pub not_both : {b : Bool} → b ≡ false → b ≡ true → ⊥
not_both works fails = let e : false ≡ true = sym works ∙ fails in cc e

module _ {D S O R Q A : Type 0} (disk : Ghosts D) (meaning : Meaning S O R Q A) (address : List ℕ → List ℕ) where
  -- the disk was not called
  pub left-still : {T E : Type 0} (only_now : (d : D) (c : Files) → disk.left_since d (disk.moment d) c → disk.may_leave d c) (old : StoreView (Move O R) D) (made : List (Move O R))
      (stands : old.failed ≡ false → AllStand (fix meaning old.terms address) old.history (disk.may_leave old.disk)) (result : Result T E)
      → (old.failed ≡ false → OnOk result (IsFullyValid (fix meaning old.terms address) (old.history ++ made))) → (old.failed ≡ false → OnOk result (ExactlyAll meaning address disk.contents old old made))
      → LeavesMoves disk meaning address made old old result
  left-still only_now old made stands result valid exact = record {
    stands = stands;
    moments = λ works. started disk.moment disk.left_since old.disk _ (λ c left. none_first (fix meaning old.terms address) old.history made c (stands works c (only_now old.disk c left)));
    left = λ works c image. none_first (fix meaning old.terms address) old.history made c (stands works c image);
    valid = valid;
    exact = exact;
    torn = λ works fails. absurd (not_both works fails);
    later = omega arith;
    caused = λ works fails. absurd (not_both works fails);
    quiet = λ _. refl;
  }

  module _ (old : StoreView (Move O R) D) (d1 : D) (made : List (Move O R)) (worked : old.failed ≡ false)
      (moments : LeavesOnly disk.moment disk.left_since old.disk d1 (WithFirst (fix meaning old.terms address) old.history made))
      (counts_now : (d : D) (t : ℕ) (c : Files) → t ≤ disk.moment d → disk.may_leave d c → disk.left_since d t c)
      (valid : IsFullyValid (fix meaning old.terms address) (old.history ++ made)) where
    left : (c : Files) → disk.may_leave d1 c → WithFirst (fix meaning old.terms address) old.history made c
    left c image = now_too disk.moment disk.left_since disk.may_leave counts_now _ _ _ moments c image

    on-ok : {T E : Type 0} (result : Result T E) → OnOk result (IsFullyValid (fix meaning old.terms address) (old.history ++ made))
    on-ok (Ok told) = valid
    on-ok (Err e) = tt

    abbrev pub with_moves : StoreView (Move O R) D
    with_moves = record old { history = old.history ++ made; disk = d1 }

    abbrev pub with_fault : StoreView (Move O R) D
    with_fault = record old { failed = true; disk = d1 }

    -- the moves were put on the disk
    pub left-put : {T E : Type 0} (told : T) → 1 ≤ length made → AllStand (fix meaning old.terms address) (old.history ++ made) (disk.may_leave d1)
        → LeavesExactly meaning address disk.contents old with_moves → disk.faults d1 ≡ disk.faults old.disk → LeavesMoves {T = T} {E = E} disk meaning address made old with_moves (Ok told)
    left-put told some stand exact same = record {
      stands = λ _. stand;
      moments = λ _. moments;
      left = λ _. left;
      valid = λ _. valid;
      exact = λ _. exactly-some meaning address disk old with_moves made some exact;
      torn = λ _ fails. absurd (not_both worked fails);
      later = omega (arith, same);
      caused = λ _ fails. absurd (not_both worked fails);
      quiet = λ _. same;
    }

    -- the disk failed under them
    pub left-fault : {T E : Type 0} (result : Result T E) → MayTear meaning address (let r : RecordedView (Move O R) = record { written = old.history; pending = made; terms = old.terms } in r) (disk.contents old.disk) (disk.contents d1)
        → disk.faults old.disk ≤ disk.faults d1 → Rose (disk.faults old.disk) (disk.faults d1) → LeavesMoves disk meaning address made old with_fault result
    left-fault result torn later rose = record {
      stands = λ works. absurd (not_both works refl);
      moments = λ _. moments;
      left = λ _. left;
      valid = λ _. on-ok result;
      exact = λ works. absurd (not_both works refl);
      torn = λ _ _. torn;
      later = later;
      caused = λ _ _. rose;
      quiet = λ fails. absurd (not_both worked (sym fails));
    }

  -- moves that wait, and what was put on the disk of them
  module _ (r0 r1 : RecordedView (Move O R)) (made : List (Move O R)) (waits : r1 ≡ record r0 { pending = made }) (d0 opened : D) (failed0 : Bool) (worked : failed0 ≡ false) where
    abbrev before : StoreView (Move O R) D
    before = view_of r0 failed0 d0 opened

    abbrev settled_by : RecordedView (Move O R) → RecordedView (Move O R)
    settled_by x = record { written = x.written ++ x.pending; pending = []; terms = x.terms }

    pub none_waits : made ≡ [] → r0.pending ≡ [] → r1 ≡ r0
    none_waits none settled = waits ∙ ap (λ (ms : List (Move O R)). record r0 { pending = ms }) (none ∙ sym settled)

    pub still_stands : (failed0 ≡ false → AllStand (fix meaning r0.terms address) r0.written (disk.may_leave d0)) → AllStand (fix meaning r1.terms address) r1.written (disk.may_leave d0)
    still_stands stands = subst (λ (x : RecordedView (Move O R)). AllStand (fix meaning x.terms address) x.written (disk.may_leave d0)) (sym waits) (stands worked)

    pub all_moments : (d1 : D) → LeavesOnly disk.moment disk.left_since d0 d1 (WithFirst (fix meaning r1.terms address) r1.written r1.pending) → LeavesOnly disk.moment disk.left_since d0 d1 (WithFirst (fix meaning r0.terms address) r0.written made)
    all_moments d1 moments = subst (λ (x : RecordedView (Move O R)). LeavesOnly disk.moment disk.left_since d0 d1 (WithFirst (fix meaning x.terms address) x.written x.pending)) waits moments

    pub all_valid : IsFullyValid (fix meaning r1.terms address) (r1.written ++ r1.pending) → IsFullyValid (fix meaning r0.terms address) (r0.written ++ made)
    all_valid valid = subst (λ (x : RecordedView (Move O R)). IsFullyValid (fix meaning x.terms address) (x.written ++ x.pending)) waits valid

    pub all_stand : (d1 : D) → AllStand (fix meaning r1.terms address) (r1.written ++ r1.pending) (disk.may_leave d1) → AllStand (fix meaning r0.terms address) (r0.written ++ made) (disk.may_leave d1)
    all_stand d1 stands = subst (λ (x : RecordedView (Move O R)). AllStand (fix meaning x.terms address) (x.written ++ x.pending) (disk.may_leave d1)) waits stands

    pub all_exact : (d1 : D) → PutsExactly meaning address r1 (disk.contents d0) (disk.contents d1) → LeavesExactly meaning address disk.contents before (record before { history = r0.written ++ made; disk = d1 })
    all_exact d1 exact = subst (λ (x : RecordedView (Move O R)). PutsExactly meaning address x (disk.contents d0) (disk.contents d1)) waits exact

    pub all_torn : (d1 : D) → MayTear meaning address r1 (disk.contents d0) (disk.contents d1) → MayTear meaning address (let r : RecordedView (Move O R) = record { written = r0.written; pending = made; terms = r0.terms } in r) (disk.contents d0) (disk.contents d1)
    all_torn d1 torn = subst (λ (x : RecordedView (Move O R)). MayTear meaning address x (disk.contents d0) (disk.contents d1)) waits torn

    pub all_few : (n : ℕ) → length (r1.written ++ r1.pending) ≤ n → length (r0.written ++ made) ≤ n
    all_few n few = subst (λ (x : RecordedView (Move O R)). length (x.written ++ x.pending) ≤ n) waits few

    module _ (r2 : RecordedView (Move O R)) (d1 : D) (failed1 : Bool) where
      -- they were settled
      pub settled_is : r2 ≡ record { written = r1.written ++ r1.pending; pending = []; terms = r1.terms } → failed1 ≡ false → view_of r2 failed1 d1 opened ≡ record before { history = r0.written ++ made; disk = d1 }
      settled_is settled works =
          ap (λ (x : RecordedView (Move O R)). view_of x failed1 d1 opened) (settled ∙ ap settled_by waits)
          ∙ ap (λ (b : Bool). let v : StoreView (Move O R) D = record { history = r0.written ++ made; terms = r0.terms; failed = b; disk = d1; opened = opened } in v) (works ∙ sym worked)

      -- or they were undone
      pub undone_is : r2 ≡ record r1 { pending = [] } → failed1 ≡ true → view_of r2 failed1 d1 opened ≡ record before { failed = true; disk = d1 }
      undone_is undone fails =
          ap (λ (x : RecordedView (Move O R)). view_of x failed1 d1 opened) (undone ∙ ap (λ (x : RecordedView (Move O R)). record x { pending = [] }) waits)
          ∙ ap (λ (b : Bool). let v : StoreView (Move O R) D = record { history = r0.written; terms = r0.terms; failed = b; disk = d1; opened = opened } in v) fails

      module _ (journal0 journal1 : Journal) (kept : IsCore meaning address disk.may_leave disk.faults r0 journal0 d0 opened failed0) where
        -- the store keeps what it keeps
        pub all_keep : IsFullyValid (fix meaning r1.terms address) (r1.written ++ r1.pending) → r2 ≡ record { written = r1.written ++ r1.pending; pending = []; terms = r1.terms } → failed1 ≡ false → has_failed journal1 ≡ false
            → count_of journal1 ≡ length (r1.written ++ r1.pending) → AllStand (fix meaning r1.terms address) (r1.written ++ r1.pending) (disk.may_leave d1)
            → disk.faults d1 ≡ disk.faults d0 → IsCore meaning address disk.may_leave disk.faults r2 journal1 d1 opened failed1
        all_keep valid settled works working counted stands same =
            let whole : r2 ≡ record { written = r0.written ++ made; pending = []; terms = r0.terms } = settled ∙ ap settled_by waits in
            let long : length (r1.written ++ r1.pending) ≡ length (r0.written ++ made) = ap (λ (x : RecordedView (Move O R)). length (x.written ++ x.pending)) waits in
            let stand = all_stand d1 stands in
            let quiet : disk.faults d1 ≡ disk.faults opened = same ∙ kept.quiet worked in
            subst (λ (x : RecordedView (Move O R)). IsCore meaning address disk.may_leave disk.faults x journal1 d1 opened failed1) (sym whole) (record {
              settled = refl;
              valid = all_valid valid;
              counted = counted ∙ long;
              working = λ _. working;
              stands = λ _. stand;
              left = λ c image. inl (stand c image);
              later = omega (arith, quiet);
              caused = λ fails. absurd (not_both works fails);
              quiet = λ _. quiet;
            })

        pub fault_keeps : r2 ≡ record r1 { pending = [] } → failed1 ≡ true → count_of journal1 ≡ count_of journal0
            → ((c : Files) → disk.may_leave d1 c → MayBeLeft (fix meaning r1.terms address) r1.written c)
            → disk.faults d0 ≤ disk.faults d1 → Rose (disk.faults d0) (disk.faults d1) → IsCore meaning address disk.may_leave disk.faults r2 journal1 d1 opened failed1
        fault_keeps undone fails uncounted may_be later rose =
            let back : r2 ≡ record r0 { pending = [] } = undone ∙ ap (λ (x : RecordedView (Move O R)). record x { pending = [] }) waits in
            let quiet : disk.faults d0 ≡ disk.faults opened = kept.quiet worked in
            subst (λ (x : RecordedView (Move O R)). IsCore meaning address disk.may_leave disk.faults x journal1 d1 opened failed1) (sym back) (record {
              settled = refl;
              valid = kept.valid;
              counted = uncounted ∙ kept.counted;
              working = λ works. absurd (not_both works fails);
              stands = λ works. absurd (not_both works fails);
              left = subst (λ (x : RecordedView (Move O R)). (c : Files) → disk.may_leave d1 c → MayBeLeft (fix meaning x.terms address) x.written c) waits may_be;
              later = omega (arith, later, quiet);
              caused = λ _. subst (λ (n : ℕ). Rose n (disk.faults d1)) quiet rose;
              quiet = λ works. absurd (not_both works fails);
            })
