-- What a batch answered and left, from what was landed in memory and put on the disk.
use Rattle.std.proofs.Common.{◌≡◌, ◌≢◌, inl, ℕ, ◌≤◌, ◌^◌, Bool, true, false, List, [], ◌∷◌, ◌++◌, length, refl, sym, ◌∙◌, ap, subst, arith, append-nil, Result, Ok, Err}
use Rattle.std.specs.Prelude.{All, replicate, IsErrAnd}
use mathlib.Core.List.{IsPrefix}
use Rattle.branch_io.specs.Causes.{Rose}
use Rattle.branch_disk.specs.Disk.{Files, LeavesOnly}
use Rattle.branch_disk.specs.Moments.{started, now_too}
use Rattle.branch_disk.specs.declared.disk.Disk.{Ghosts}
use Rattle.mrdt_model.specs.declared.errors.Memory.{Memory}
use Rattle.mrdt_model.specs.Laws.{Meaning}
use Rattle.branch_history.specs.declared.moves.Move.{Move}
use Rattle.heads_journal.specs.declared.journal.Journal.{Journal}
use Rattle.heads_journal.specs.declared.record.Record.{Record}
use Rattle.heads_journal.specs.Journals.{count_of, has_failed}
use Rattle.branch_machine.specs.Fixed.{fix}
use Rattle.branch_machine.specs.Validity.{IsFullyValid}
use Rattle.store_seen.specs.declared.answers.Landed.{Landed}
use Rattle.store_seen.specs.Views.{PreparedView}
use Rattle.recorded_history.specs.Views.{RecordedView}
use Rattle.store_core.specs.declared.answers.LandRefused.{LandRefused}
use Rattle.store_core.specs.declared.answers.LandRefused.TheVariants as refusal
use Rattle.store_core.specs.Batches.{batch_made, HaveLanded, AnswersBatch, ExactlyAll, LeavesBatch}
use Rattle.store_core.specs.Contents.{LeavesExactly, MayTear, PutsExactly}
use Rattle.store_core.specs.Images.{AllStand, MayBeLeft, WithFirst}
use Rattle.store_core.specs.Keeps.{IsCore}
use Rattle.store_core.specs.Views.{StoreView}
use Rattle.store_core.proofs.Answered.{view_of}
use Rattle.store_core.proofs.Batched.{answers-long}
use Rattle.store_core.proofs.Puts.{none_first}
use Rattle.store_core.proofs.Waiting.{length-records_after}

-- there is a first move, and then the bytes are exactly those of the longer history
exactly-some : {D S O R Q A : Type 0} (meaning : Meaning S O R Q A) (address : List ℕ → List ℕ) (disk : Ghosts D) (old new : StoreView (Move O R) D) (made : List (Move O R))
    → 1 ≤ length made → LeavesExactly meaning address disk.contents old new → ExactlyAll meaning address disk.contents old new made
exactly-some meaning address disk old new [] some exact = absurd (omega arith)
exactly-some meaning address disk old new (m ∷ made) some exact = exact

-- a list of no length
no_items : {X : Type 0} (xs : List X) → length xs ≡ 0 → xs ≡ []
no_items [] none = refl
no_items (x ∷ xs) none = absurd (omega arith)

-- jobs that were prepared on a store were prepared on what it holds
module _ {D O R : Type 0} (jobs later : List (PreparedView O R)) (same : later ≡ jobs) (v w : StoreView (Move O R) D) (is : v ≡ w) where
  pub looks_at : All (λ job. IsPrefix job.seen.history w.history) jobs → All (λ job. IsPrefix job.seen.history v.history) later
  looks_at all =
      subst (All (λ (job : PreparedView O R). IsPrefix job.seen.history v.history)) (sym same)
      (subst (λ (x : StoreView (Move O R) D). All (λ (job : PreparedView O R). IsPrefix job.seen.history x.history) jobs) (sym is) all)

  pub terms_at : All (λ job. job.seen.terms ≡ w.terms) jobs → All (λ job. job.seen.terms ≡ v.terms) later
  terms_at all =
      subst (All (λ (job : PreparedView O R). job.seen.terms ≡ v.terms)) (sym same)
      (subst (λ (x : StoreView (Move O R) D). All (λ (job : PreparedView O R). job.seen.terms ≡ x.terms) jobs) (sym is) all)

module _ {D S O R Q A : Type 0} (disk : Ghosts D) (meaning : Meaning S O R Q A) (address : List ℕ → List ℕ) (jobs : List (PreparedView O R)) where
  -- both clauses of a call
  pub record Ended (old new : StoreView (Move O R) D) (result : Result (List (Result (Landed R) LandRefused)) Memory) : Type 0 where
    pub answers : AnswersBatch (fix meaning old.terms address) jobs old new result
    pub leaves : LeavesBatch disk meaning address jobs old new result

  -- nothing has changed
  module _ (only_now : (d : D) (c : Files) → disk.left_since d (disk.moment d) c → disk.may_leave d c) (old : StoreView (Move O R) D)
      (stands : old.failed ≡ false → AllStand (fix meaning old.terms address) old.history (disk.may_leave old.disk)) where
    abbrev made_of : List (Move O R)
    made_of = batch_made (fix meaning old.terms address) old.history jobs

    not_both : old.failed ≡ false → old.failed ≡ true → ⊥
    not_both works_on fails_on = let e : false ≡ true = sym works_on ∙ fails_on in cc e

    moments : old.failed ≡ false → LeavesOnly disk.moment disk.left_since old.disk old.disk (WithFirst (fix meaning old.terms address) old.history made_of)
    moments worked = started disk.moment disk.left_since old.disk _ (λ c left. none_first (fix meaning old.terms address) old.history made_of c (stands worked c (only_now old.disk c left)))

    left : old.failed ≡ false → (c : Files) → disk.may_leave old.disk c → WithFirst (fix meaning old.terms address) old.history made_of c
    left worked c image = none_first (fix meaning old.terms address) old.history made_of c (stands worked c image)

    -- for want of memory
    pub short : (e : Memory) → Ended old old (Err e)
    short e = record {
      answers = record { landed = tt; faulted = tt; failed = tt; short = refl };
      leaves = record {
        stands = stands;
        moments = moments;
        left = left;
        valid = λ _. tt;
        exact = λ _. tt;
        torn = λ works_on fails_on. absurd (not_both works_on fails_on);
        later = omega arith;
        caused = λ works_on fails_on. absurd (not_both works_on fails_on);
        quiet = λ _. refl;
      };
    }

    -- since the disk had failed before
    pub failed_leaves : (answers : List (Result (Landed R) LandRefused)) → old.failed ≡ true → LeavesBatch {E = Memory} disk meaning address jobs old old (Ok answers)
    failed_leaves answers had = record {
      stands = stands;
      moments = moments;
      left = left;
      valid = λ works_on. absurd (not_both works_on had);
      exact = λ works_on. absurd (not_both works_on had);
      torn = λ works_on fails_on. absurd (not_both works_on fails_on);
      later = omega arith;
      caused = λ works_on fails_on. absurd (not_both works_on fails_on);
      quiet = λ _. refl;
    }

  -- the same of a store with this recorded history
  module _ (old : StoreView (Move O R) D) (r0 : RecordedView (Move O R)) (d0 opened : D) (failed0 : Bool) (view_is : view_of r0 failed0 d0 opened ≡ old)
      (only_now : (d : D) (c : Files) → disk.left_since d (disk.moment d) c → disk.may_leave d c)
      (stands0 : failed0 ≡ false → AllStand (fix meaning r0.terms address) r0.written (disk.may_leave d0)) where
    pub short_at : (result : Result (List (Result (Landed R) LandRefused)) Memory) (P : Memory → Type 0) → IsErrAnd result P → Ended old old result
    short_at (Ok told) P is_err = absurd is_err
    short_at (Err e) P is_err = subst (λ (v : StoreView (Move O R) D). Ended v v (Err e)) view_is (short only_now (view_of r0 failed0 d0 opened) stands0 e)

    pub failed_at : (answers : List (Result (Landed R) LandRefused)) → failed0 ≡ true → LeavesBatch {E = Memory} disk meaning address jobs old old (Ok answers)
    failed_at answers had = subst (λ (v : StoreView (Move O R) D). LeavesBatch {E = Memory} disk meaning address jobs v v (Ok answers)) view_is (failed_leaves only_now (view_of r0 failed0 d0 opened) stands0 answers had)

  -- jobs that were landed in memory
  module _ (old : StoreView (Move O R) D) (r0 r1 : RecordedView (Move O R)) (d0 opened : D) (failed0 : Bool) (view_is : view_of r0 failed0 d0 opened ≡ old) (worked : failed0 ≡ false)
      (only_now : (d : D) (c : Files) → disk.left_since d (disk.moment d) c → disk.may_leave d c)
      (stands0 : failed0 ≡ false → AllStand (fix meaning r0.terms address) r0.written (disk.may_leave d0)) where
    abbrev before : StoreView (Move O R) D
    before = view_of r0 failed0 d0 opened

    abbrev made : List (Move O R)
    made = batch_made (fix meaning r0.terms address) r0.written jobs

    of_old : (new : StoreView (Move O R) D) (result : Result (List (Result (Landed R) LandRefused)) Memory) → Ended before new result → Ended old new result
    of_old new result ended = subst (λ (v : StoreView (Move O R) D). Ended v new result) view_is ended

    not_failed : failed0 ≡ true → ⊥
    not_failed fails_on = not_both only_now before stands0 worked fails_on

    -- or were not, for want of memory
    pub short_back : (result : Result (List (Result (Landed R) LandRefused)) Memory) (P : Memory → Type 0) → IsErrAnd result P → r1 ≡ r0 → Ended old (view_of r1 failed0 d0 opened) result
    short_back (Ok told) P is_err same = absurd is_err
    short_back (Err e) P is_err same = of_old (view_of r1 failed0 d0 opened) (Err e)
        (subst (λ (x : RecordedView (Move O R)). Ended before (view_of x failed0 d0 opened) (Err e)) (sym same) (short only_now before stands0 e))

    module _ (answers : List (Result (Landed R) LandRefused)) (records : List Record) (have : HaveLanded (fix meaning r0.terms address) jobs r0 r1 answers records) where
      as_many : length records ≡ length made
      as_many = ap length have.are ∙ length-records_after (fix meaning r0.terms address) r0.written made

      -- none landed
      none_made : length records ≡ 0 → made ≡ []
      none_made none = no_items made (sym as_many ∙ none)

      pub none_waits : length records ≡ 0 → r0.pending ≡ [] → r1 ≡ r0
      none_waits none settled = have.pending ∙ ap (λ (ms : List (Move O R)). record r0 { pending = ms }) (none_made none ∙ sym settled)

      pub still_stands : AllStand (fix meaning r1.terms address) r1.written (disk.may_leave d0)
      still_stands = subst (λ (x : RecordedView (Move O R)). AllStand (fix meaning x.terms address) x.written (disk.may_leave d0)) (sym have.pending) (stands0 worked)

      pub none_landed : (told : List (Result (Landed R) LandRefused)) → told ≡ answers → length records ≡ 0 → IsFullyValid (fix meaning r0.terms address) r0.written → length r0.written ≤ 2 ^ 48 → Ended old (view_of r1 failed0 d0 opened) (Ok told)
      none_landed told are none valid few =
          let is_none = none_made none in
          let whole : r0.written ++ made ≡ r0.written = ap (λ (ms : List (Move O R)). r0.written ++ ms) is_none ∙ append-nil r0.written in
          let same : view_of r1 failed0 d0 opened ≡ before = ap (λ (x : RecordedView (Move O R)). view_of x failed0 d0 opened) have.pending in
          subst (λ (l : List (Result (Landed R) LandRefused)). Ended old (view_of r1 failed0 d0 opened) (Ok l)) (sym are)
          (of_old (view_of r1 failed0 d0 opened) (Ok answers)
          (subst (λ (v : StoreView (Move O R) D). Ended before v (Ok answers)) (sym same) (record {
            answers = record {
              landed = λ _. record { answered = have.answered; history = ap (λ (h : List (Move O R)). record before { history = h }) (sym whole); few = few };
              faulted = λ _ fails_on. absurd (not_failed fails_on);
              failed = λ fails_on. absurd (not_failed fails_on);
              short = tt;
            };
            leaves = record {
              stands = stands0;
              moments = moments only_now before stands0;
              left = left only_now before stands0;
              valid = λ _. subst (IsFullyValid (fix meaning r0.terms address)) (sym whole) valid;
              exact = λ _. subst (ExactlyAll meaning address disk.contents before before) (sym is_none) refl;
              torn = λ _ fails_on. absurd (not_failed fails_on);
              later = omega arith;
              caused = λ _ fails_on. absurd (not_failed fails_on);
              quiet = λ _. refl;
            };
          })))

      module _ (some : length records ≢ 0) (r2 : RecordedView (Move O R)) (d1 : D) (failed1 : Bool)
          (any_moment : LeavesOnly disk.moment disk.left_since d0 d1 (WithFirst (fix meaning r1.terms address) r1.written r1.pending))
          (counts_now : (d : D) (t : ℕ) (c : Files) → t ≤ disk.moment d → disk.may_leave d c → disk.left_since d t c)
          (valid : IsFullyValid (fix meaning r1.terms address) (r1.written ++ r1.pending)) where
        all_moments : LeavesOnly disk.moment disk.left_since d0 d1 (WithFirst (fix meaning r0.terms address) r0.written made)
        all_moments = subst (λ (x : RecordedView (Move O R)). LeavesOnly disk.moment disk.left_since d0 d1 (WithFirst (fix meaning x.terms address) x.written x.pending)) have.pending any_moment

        all_left : (c : Files) → disk.may_leave d1 c → WithFirst (fix meaning r0.terms address) r0.written made c
        all_left c image = now_too disk.moment disk.left_since disk.may_leave counts_now _ _ _ all_moments c image

        all_valid : IsFullyValid (fix meaning r0.terms address) (r0.written ++ made)
        all_valid = subst (λ (x : RecordedView (Move O R)). IsFullyValid (fix meaning x.terms address) (x.written ++ x.pending)) have.pending valid

        -- they were put on the disk
        pub all_landed : (told : List (Result (Landed R) LandRefused)) → told ≡ answers → r2 ≡ record { written = r1.written ++ r1.pending; pending = []; terms = r1.terms } → length (r1.written ++ r1.pending) ≤ 2 ^ 48 → failed1 ≡ false
            → AllStand (fix meaning r1.terms address) (r1.written ++ r1.pending) (disk.may_leave d1) → PutsExactly meaning address r1 (disk.contents d0) (disk.contents d1)
            → disk.faults d1 ≡ disk.faults d0 → Ended old (view_of r2 failed1 d1 opened) (Ok told)
        all_landed told are settled few works stands exact same =
            let step_to : RecordedView (Move O R) → RecordedView (Move O R) = λ x. record { written = x.written ++ x.pending; pending = []; terms = x.terms } in
            let whole : r2 ≡ record { written = r0.written ++ made; pending = []; terms = r0.terms } = settled ∙ ap step_to have.pending in
            let after : StoreView (Move O R) D = record before { history = r0.written ++ made; disk = d1 } in
            let written : r2.written ≡ r0.written ++ made = ap (λ (x : RecordedView (Move O R)). x.written) whole in
            let terms : r2.terms ≡ r0.terms = ap (λ (x : RecordedView (Move O R)). x.terms) whole in
            let failed_same : failed1 ≡ failed0 = works ∙ sym worked in
            let is : view_of r2 failed1 d1 opened ≡ after = cc (written, terms, failed_same) in
            let long : length (r1.written ++ r1.pending) ≡ length (r0.written ++ made) = ap (λ (x : RecordedView (Move O R)). length (x.written ++ x.pending)) have.pending in
            let stand = subst (λ (x : RecordedView (Move O R)). AllStand (fix meaning x.terms address) (x.written ++ x.pending) (disk.may_leave d1)) have.pending stands in
            let holds = subst (λ (x : RecordedView (Move O R)). PutsExactly meaning address x (disk.contents d0) (disk.contents d1)) have.pending exact in
            subst (λ (l : List (Result (Landed R) LandRefused)). Ended old (view_of r2 failed1 d1 opened) (Ok l)) (sym are)
            (of_old (view_of r2 failed1 d1 opened) (Ok answers)
            (subst (λ (v : StoreView (Move O R) D). Ended before v (Ok answers)) (sym is) (record {
              answers = record {
                landed = λ _. record { answered = have.answered; history = refl; few = omega (arith, few, long) };
                faulted = λ _ fails_on. absurd (not_failed fails_on);
                failed = λ fails_on. absurd (not_failed fails_on);
                short = tt;
              };
              leaves = record {
                stands = λ _. stand;
                moments = λ _. all_moments;
                left = λ _. all_left;
                valid = λ _. all_valid;
                exact = λ _. exactly-some meaning address disk before after made (omega (arith, as_many, some)) holds;
                torn = λ _ fails_on. absurd (not_failed fails_on);
                later = omega (arith, same);
                caused = λ _ fails_on. absurd (not_failed fails_on);
                quiet = λ _. same;
              };
            })))

        module _ (journal0 journal1 : Journal) (kept : IsCore meaning address disk.may_leave disk.faults r0 journal0 d0 opened failed0) where
          -- the store keeps what it keeps
          pub all_keep : r2 ≡ record { written = r1.written ++ r1.pending; pending = []; terms = r1.terms } → failed1 ≡ false → has_failed journal1 ≡ false
              → count_of journal1 ≡ length (r1.written ++ r1.pending) → AllStand (fix meaning r1.terms address) (r1.written ++ r1.pending) (disk.may_leave d1)
              → disk.faults d1 ≡ disk.faults d0 → IsCore meaning address disk.may_leave disk.faults r2 journal1 d1 opened failed1
          all_keep settled works working counted stands same =
              let step_to : RecordedView (Move O R) → RecordedView (Move O R) = λ x. record { written = x.written ++ x.pending; pending = []; terms = x.terms } in
              let whole : r2 ≡ record { written = r0.written ++ made; pending = []; terms = r0.terms } = settled ∙ ap step_to have.pending in
              let long : length (r1.written ++ r1.pending) ≡ length (r0.written ++ made) = ap (λ (x : RecordedView (Move O R)). length (x.written ++ x.pending)) have.pending in
              let stand = subst (λ (x : RecordedView (Move O R)). AllStand (fix meaning x.terms address) (x.written ++ x.pending) (disk.may_leave d1)) have.pending stands in
              let quiet : disk.faults d1 ≡ disk.faults opened = same ∙ kept.quiet worked in
              subst (λ (x : RecordedView (Move O R)). IsCore meaning address disk.may_leave disk.faults x journal1 d1 opened failed1) (sym whole) (record {
                settled = refl;
                valid = all_valid;
                counted = counted ∙ long;
                working = λ _. working;
                stands = λ _. stand;
                left = λ c image. inl (stand c image);
                later = omega (arith, quiet);
                caused = λ fails_on. absurd (let e : false ≡ true = sym works ∙ fails_on in cc e);
                quiet = λ _. quiet;
              })

          pub fault_keeps : r2 ≡ record r1 { pending = [] } → failed1 ≡ true → count_of journal1 ≡ count_of journal0
              → ((c : Files) → disk.may_leave d1 c → MayBeLeft (fix meaning r1.terms address) r1.written c)
              → disk.faults d0 ≤ disk.faults d1 → Rose (disk.faults d0) (disk.faults d1) → IsCore meaning address disk.may_leave disk.faults r2 journal1 d1 opened failed1
          fault_keeps undone fails uncounted may_be later rose =
              let back : r2 ≡ record r0 { pending = [] } = undone ∙ ap (λ (x : RecordedView (Move O R)). record x { pending = [] }) have.pending in
              let quiet : disk.faults d0 ≡ disk.faults opened = kept.quiet worked in
              let not_so : failed1 ≡ false → ⊥ = λ works_on. (let e : false ≡ true = sym works_on ∙ fails in cc e) in
              subst (λ (x : RecordedView (Move O R)). IsCore meaning address disk.may_leave disk.faults x journal1 d1 opened failed1) (sym back) (record {
                settled = refl;
                valid = kept.valid;
                counted = uncounted ∙ kept.counted;
                working = λ works_on. absurd (not_so works_on);
                stands = λ works_on. absurd (not_so works_on);
                left = subst (λ (x : RecordedView (Move O R)). (c : Files) → disk.may_leave d1 c → MayBeLeft (fix meaning x.terms address) x.written c) have.pending may_be;
                later = omega (arith, later, quiet);
                caused = λ _. subst (λ (n : ℕ). Rose n (disk.faults d1)) quiet rose;
                quiet = λ works_on. absurd (not_so works_on);
              })

        -- the disk failed under them
        pub all_faulted : (faulted : List (Result (Landed R) LandRefused)) → faulted ≡ replicate (length answers) (Err refusal.DiskFault)
            → r2 ≡ record r1 { pending = [] } → failed1 ≡ true → MayTear meaning address r1 (disk.contents d0) (disk.contents d1)
            → disk.faults d0 ≤ disk.faults d1 → Rose (disk.faults d0) (disk.faults d1) → Ended old (view_of r2 failed1 d1 opened) (Ok faulted)
        all_faulted faulted are undone fails torn later rose =
            let back : r2 ≡ record r0 { pending = [] } = undone ∙ ap (λ (x : RecordedView (Move O R)). record x { pending = [] }) have.pending in
            let written : r2.written ≡ r0.written = ap (λ (x : RecordedView (Move O R)). x.written) back in
            let terms : r2.terms ≡ r0.terms = ap (λ (x : RecordedView (Move O R)). x.terms) back in
            let after : StoreView (Move O R) D = record before { failed = true; disk = d1 } in
            let is : view_of r2 failed1 d1 opened ≡ after = cc (written, terms, fails) in
            let count = answers-long (fix meaning r0.terms address) r0.written jobs answers have.answered in
            let tears = subst (λ (x : RecordedView (Move O R)). MayTear meaning address x (disk.contents d0) (disk.contents d1)) have.pending torn in
            of_old (view_of r2 failed1 d1 opened) (Ok faulted)
            (subst (λ (v : StoreView (Move O R) D). Ended before v (Ok faulted)) (sym is) (record {
              answers = record {
                landed = λ works_on. absurd (cc works_on);
                faulted = λ _ _. record { answered = are ∙ ap (λ (n : ℕ). replicate n (Err refusal.DiskFault)) count; kept = refl };
                failed = λ fails_on. absurd (not_failed fails_on);
                short = tt;
              };
              leaves = record {
                stands = λ works_on. absurd (cc works_on);
                moments = λ _. all_moments;
                left = λ _. all_left;
                valid = λ _. all_valid;
                exact = λ works_on. absurd (cc works_on);
                torn = λ _ _. tears;
                later = later;
                caused = λ _ _. rose;
                quiet = λ fails_on. absurd (not_failed (sym fails_on));
              };
            }))
