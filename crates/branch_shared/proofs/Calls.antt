-- What a crash leaves of a shared store behind each call of its core.
use Rattle.std.proofs.Common.{◌≡◌, ℕ, ◌+◌, ◌≤◌, Bool, true, false, List, [], ◌∷◌, ◌++◌, length, ap, sym, subst, ◌∙◌, arith, refl, Result, Ok, Err, IfOk, IfErr, OnOk}
use Rattle.std.specs.List.{AllByRecursion}
use Rattle.mrdt_model.specs.Laws.{Meaning}
use Rattle.branch_disk.specs.Disk.{Files, LeavesOnly}
use Rattle.branch_disk.specs.Moments.{weakened}
use Rattle.branch_disk.specs.declared.disk.Disk.{Ghosts}
use Rattle.branch_history.specs.declared.moves.Move.{Move}
use Rattle.branch_history.specs.declared.moves.Move.TheVariants as move
use Rattle.branch_history.specs.Steps.{Step, Turn}
use Rattle.branch_history.specs.Steps as machine
use Rattle.branch_machine.specs.Fixed.{Fixed, fix}
use Rattle.branch_machine.specs.Machine.{full_turn}
use Rattle.branch_machine.specs.Validity.{IsFullyValid}
use Rattle.branch_names.specs.declared.terms.Terms.{Terms}
use Rattle.machine_answers.specs.Answers.{Answer, Made, Still, Refused, Fault, Failed, Short, Takes}
use Rattle.store_seen.specs.declared.answers.Forked.{Forked}
use Rattle.store_seen.specs.declared.answers.Landed.{Landed}
use Rattle.store_seen.specs.Turns.{move_of}
use Rattle.store_seen.specs.Views.{PreparedView}
use Rattle.store_core.specs.declared.answers.LandRefused.{LandRefused}
use Rattle.store_core.specs.declared.answers.LandRefused.TheVariants as land_refusal
use Rattle.store_core.specs.declared.answers.ForkRefused.{ForkRefused}
use Rattle.store_core.specs.declared.answers.ForkRefused.TheVariants as fork_refusal
use Rattle.store_core.specs.Answers.{Leaves, turn_of}
use Rattle.store_core.specs.Batches.{AnswersBatch, LeavesBatch, batch_made}
use Rattle.store_core.specs.Images.{AllStand, WithFirst, WithOrWithout}
use Rattle.store_core.specs.Turns.{LandsAs, LandRefusedAs, LandLeaves, Forks, ForkRefusedAs, ForkLeaves, step_made}
use Rattle.store_core.specs.Views.{StoreView}
use Rattle.branch_shared.specs.Allowed.{AllowsWork}
use Rattle.branch_shared.specs.Crashes.{IsSafe, AreSure}
use Rattle.branch_shared.proofs.Crashes.{first-of, safe-grown, safe-failed, safe-same}
use Rattle.branch_shared.proofs.Entries.{GoOn}
use Rattle.branch_shared.proofs.Makes.{AllowsAll, job-allowed, fork-allowed, batch-allowed}
use Rattle.branch_shared.proofs.Surely.{sure-grown, sure-failed, sure-same}

module _ {D S O R Q A : Type 0} (disk : Ghosts D) (meaning : Meaning S O R Q A) (address : List ℕ → List ℕ) (since : ℕ) (left : ℕ → Files → Type 0) (begun : List (Move O R)) (allows : Move O R → Type 0)
    (old new : StoreView (Move O R) D) (only_now : (d : D) (c : Files) → disk.left_since d (disk.moment d) c → disk.may_leave d c) (us vs : List ℕ) (on : GoOn (disk.moment new.disk) us vs) (long : length begun + length vs ≡ length new.history) where
  abbrev own : Fixed S O R Q A
  own = fix meaning old.terms address

  -- what a crash leaves of a store, where these are the moments of its moves
  abbrev Safe : StoreView (Move O R) D → List ℕ → Type 0
  Safe core sure = IsSafe disk own since left begun allows core × AreSure disk own begun core.history sure core.disk

  -- what a call of one move may leave
  abbrev Moment : List (Move O R) → Type 0
  Moment made = LeavesOnly disk.moment disk.left_since old.disk new.disk (WithOrWithout own old.history made)

  by-first : (made : List (Move O R)) → Moment made → LeavesOnly disk.moment disk.left_since old.disk new.disk (WithFirst own old.history made)
  by-first made call = weakened disk.moment disk.left_since old.disk new.disk (WithOrWithout own old.history made) (WithFirst own old.history made) call (first-of own old.history made)

  -- one move was made
  one-made : (made : Move O R) (moves : List (Move O R)) → moves ≡ made ∷ [] → Safe old us → old.failed ≡ false → Moment moves → new.history ≡ old.history ++ made ∷ [] → IsFullyValid own new.history → AllStand own new.history (disk.may_leave new.disk) → Safe new vs
  one-made made moves one safe worked call grown valid stand =
      let first = by-first (made ∷ []) (subst Moment one call) in
      (safe-grown disk own since left begun allows old new (made ∷ []) safe.0 worked first grown valid stand, sure-grown disk own begun old new (made ∷ []) us vs only_now on long safe.1 first grown stand)

  -- the disk failed under one move
  one-failed : (made : Move O R) (moves : List (Move O R)) → moves ≡ made ∷ [] → AllByRecursion allows moves → Safe old us → old.failed ≡ false → Moment moves → new ≡ record old { failed = true; disk = new.disk } → IsFullyValid own (old.history ++ moves)
      → ((c : Files) → disk.may_leave new.disk c → WithOrWithout own old.history moves c) → Safe new vs
  one-failed made moves one may safe worked call kept valid leaves =
      let few : length moves ≤ 64 = omega (arith, ap (λ (l : List (Move O R)). length l) one) in
      let first = by-first moves call in (
        safe-failed disk own since left begun allows old new moves safe.0 worked first kept few may valid (λ c image. first-of own old.history moves c (leaves c image)),
        sure-failed disk own begun old new us vs on long safe.1 moves (ap (λ (s : StoreView (Move O R) D). s.history) kept) first,
      )

  valid-own : new.terms ≡ old.terms → IsFullyValid (fix meaning new.terms address) new.history → IsFullyValid own new.history
  valid-own terms valid = subst (λ (t : Terms). IsFullyValid (fix meaning t address) new.history) terms valid

  -- under the terms of the store's name
  pub safe-under : (terms : Terms) → old.terms ≡ terms → IsSafe disk (fix meaning terms address) since left begun allows old → AreSure disk (fix meaning terms address) begun old.history us old.disk → (Safe old us → Safe new vs)
      → IsSafe disk (fix meaning terms address) since left begun allows new × AreSure disk (fix meaning terms address) begun new.history vs new.disk
  safe-under terms limited safe sure goes =
      let done = goes (subst (λ (t : Terms). IsSafe disk (fix meaning t address) since left begun allows old) (sym limited) safe, subst (λ (t : Terms). AreSure disk (fix meaning t address) begun old.history us old.disk) (sym limited) sure) in
      (subst (λ (t : Terms). IsSafe disk (fix meaning t address) since left begun allows new) limited done.0, subst (λ (t : Terms). AreSure disk (fix meaning t address) begun new.history vs new.disk) limited done.1)

  same : Safe old us → new ≡ old → Safe new vs
  same safe is = (safe-same disk own since left begun allows old new safe.0 is, sure-same disk own begun old new us vs on long safe.1 is)

  -- a landing
  module _ (made : PreparedView O R) (may : AllowsWork allows made.seen.branch made.work) where
    abbrev landing : List (Move O R)
    landing = (full_turn own old.history (step_made made)).made

    pub safe-landed : (result : Result (Landed R) LandRefused) → Safe old us → IfOk result (λ landed. LandsAs own made old new landed.moves landed.kind) → OnOk result (AllStand own new.history (disk.may_leave new.disk))
        → IfErr result (LandRefusedAs own made old) → IfErr result (LandLeaves old new) → (old.failed ≡ false → Moment landing) → (result ≡ Err land_refusal.DiskFault → (c : Files) → disk.may_leave new.disk c → WithOrWithout own old.history landing c)
        → (result ≡ Err land_refusal.DiskFault → IsFullyValid own (old.history ++ landing)) → IsFullyValid (fix meaning new.terms address) new.history → Safe new vs
    safe-landed (Ok landed) safe lands stand refused kept call leaves fault valid =
        one-made (move_of made.seen.branch made.work) landing (ap (λ (t : Turn O R A). t.made) lands.turn_is) safe lands.worked (call lands.worked) (ap (λ (s : StoreView (Move O R) D). s.history) lands.history)
        (valid-own (ap (λ (s : StoreView (Move O R) D). s.terms) lands.history) valid) stand
    safe-landed (Err (land_refusal.Dropped branch)) safe lands stand refused kept call leaves fault valid = same safe kept
    safe-landed (Err (land_refusal.Stale newest)) safe lands stand refused kept call leaves fault valid = same safe kept
    safe-landed (Err (land_refusal.FullCommits count)) safe lands stand refused kept call leaves fault valid = same safe kept
    safe-landed (Err (land_refusal.FullMoves count)) safe lands stand refused kept call leaves fault valid = same safe kept
    safe-landed (Err (land_refusal.Collision at stored fresh)) safe lands stand refused kept call leaves fault valid = same safe kept
    safe-landed (Err land_refusal.DiskFault) safe lands stand refused kept call leaves fault valid =
        one-failed (move_of made.seen.branch made.work) landing refused.1 (job-allowed own allows old.history made may).1 safe refused.0 (call refused.0) kept (fault refl) (leaves refl)
    safe-landed (Err (land_refusal.Failed moves)) safe lands stand refused kept call leaves fault valid = same safe kept
    safe-landed (Err land_refusal.Memory) safe lands stand refused kept call leaves fault valid = same safe kept

  -- a fork
  module _ (name from : List ℕ) (may : (number source : ℕ) → allows (move.Fork name number source)) where
    abbrev forking : List (Move O R)
    forking = (full_turn own old.history (machine.Fork name from)).made

    pub safe-forked : (result : Result Forked ForkRefused) → Safe old us → IfOk result (Forks own name from old new) → OnOk result (AllStand own new.history (disk.may_leave new.disk)) → IfErr result (ForkRefusedAs own name from old) → IfErr result (ForkLeaves old new)
        → (old.failed ≡ false → Moment forking) → (result ≡ Err fork_refusal.DiskFault → (c : Files) → disk.may_leave new.disk c → WithOrWithout own old.history forking c)
        → (result ≡ Err fork_refusal.DiskFault → IsFullyValid own (old.history ++ forking)) → IsFullyValid (fix meaning new.terms address) new.history → Safe new vs
    safe-forked (Ok forked) safe forks stand refused kept call leaves fault valid =
        let made = move.Fork name forked.number forks.0 in
        one-made made forking (ap (λ (t : Turn O R A). t.made) forks.1.turn_is) safe forks.1.worked (call forks.1.worked) (ap (λ (s : StoreView (Move O R) D). s.history) forks.1.history)
        (valid-own (ap (λ (s : StoreView (Move O R) D). s.terms) forks.1.history) valid) stand
    safe-forked (Err (fork_refusal.UnknownBranch named)) safe forks stand refused kept call leaves fault valid = same safe kept
    safe-forked (Err (fork_refusal.NameTaken number)) safe forks stand refused kept call leaves fault valid = same safe kept
    safe-forked (Err (fork_refusal.FullBranches count)) safe forks stand refused kept call leaves fault valid = same safe kept
    safe-forked (Err (fork_refusal.FullMoves count)) safe forks stand refused kept call leaves fault valid = same safe kept
    safe-forked (Err fork_refusal.DiskFault) safe forks stand refused kept call leaves fault valid =
        one-failed refused.1.0 forking refused.1.1 (fork-allowed own allows old.history name from may) safe refused.0 (call refused.0) kept (fault refl) (leaves refl)
    safe-forked (Err (fork_refusal.Failed moves)) safe forks stand refused kept call leaves fault valid = same safe kept
    safe-forked (Err fork_refusal.Memory) safe forks stand refused kept call leaves fault valid = same safe kept

  -- a call that is told as an answer to a step
  pub safe-answered : (step : Step O Q) (answer : Answer A R) → AllByRecursion allows (turn_of meaning address old step).made → Safe old us → Takes (turn_of meaning address old step) old.history new.history answer → Leaves disk meaning address step old new answer → IsFullyValid (fix meaning new.terms address) new.history → Safe new vs
  safe-answered step (Made outcome moves) may safe takes leaves valid =
      let made = takes.turns.0 in
      let one = ap (λ (t : Turn O R A). t.made) takes.turns.1 in
      let grown = takes.history ∙ ap (λ (l : List (Move O R)). old.history ++ l) one in
      one-made made (turn_of meaning address old step).made one safe leaves.worked (leaves.moments leaves.worked) grown
      (valid-own (ap (λ (s : StoreView (Move O R) D). s.terms) leaves.keeps) valid)
      (subst (λ (h : List (Move O R)). AllStand own h (disk.may_leave new.disk)) (sym takes.history) leaves.stands)
  safe-answered step (Still outcome) may safe takes leaves valid = same safe leaves.keeps
  safe-answered step (Refused refusal) may safe takes leaves valid = same safe leaves.keeps
  safe-answered step Fault may safe takes leaves valid =
      one-failed takes.turns.0 (turn_of meaning address old step).made takes.turns.1 may safe leaves.worked (leaves.moments leaves.worked) leaves.keeps leaves.stands.1 leaves.stands.0
  safe-answered step (Failed moves) may safe takes leaves valid = same safe leaves.keeps
  safe-answered step Short may safe takes leaves valid = same safe leaves.keeps

  -- a batch of at most 64 jobs
  module _ (jobs : List (PreparedView O R)) (many : length jobs ≤ 64) (may : AllowsAll allows jobs) where
    abbrev Answers : Type 0
    Answers = List (Result (Landed R) LandRefused)

    safe-landings : {E : Type 0} (answers : Answers) (was is : Bool) → old.failed ≡ was → new.failed ≡ is → Safe old us → AnswersBatch {E = E} own jobs old new (Ok answers) → LeavesBatch {E = E} disk meaning address jobs old new (Ok answers) → IsFullyValid (fix meaning new.terms address) new.history → Safe new vs
    safe-landings answers was false p q safe batch leaves valid =
        let lands = batch.landed q in
        let worked = sym (ap (λ (s : StoreView (Move O R) D). s.failed) lands.history) ∙ q in
        let grown = ap (λ (s : StoreView (Move O R) D). s.history) lands.history in (
          safe-grown disk own since left begun allows old new (batch_made own old.history jobs) safe.0 worked (leaves.moments worked) grown (valid-own (ap (λ (s : StoreView (Move O R) D). s.terms) lands.history) valid) (leaves.stands q),
          sure-grown disk own begun old new (batch_made own old.history jobs) us vs only_now on long safe.1 (leaves.moments worked) grown (leaves.stands q),
        )
    safe-landings answers false true p q safe batch leaves valid =
        let fits = batch-allowed own allows old.history jobs may in
        let few : length (batch_made own old.history jobs) ≤ 64 = omega (arith, many, fits.0) in
        let kept = (batch.faulted p q).kept in (
          safe-failed disk own since left begun allows old new (batch_made own old.history jobs) safe.0 p (leaves.moments p) kept few fits.1 (leaves.valid p) (leaves.left p),
          sure-failed disk own begun old new us vs on long safe.1 (batch_made own old.history jobs) (ap (λ (s : StoreView (Move O R) D). s.history) kept) (leaves.moments p),
        )
    safe-landings answers true true p q safe batch leaves valid = same safe (batch.failed p).kept

    pub safe-batched : {E : Type 0} (answers : Answers) → Safe old us → AnswersBatch {E = E} own jobs old new (Ok answers) → LeavesBatch {E = E} disk meaning address jobs old new (Ok answers) → IsFullyValid (fix meaning new.terms address) new.history → Safe new vs
    safe-batched answers safe batch leaves valid = safe-landings answers old.failed new.failed refl refl safe batch leaves valid
