-- What the calls of a core say of a move that is made again.
use Rattle.std.proofs.Common.{◌≡◌, ◌≢◌, ◌⊎◌, inl, inr, ℕ, ◌≤◌, false, true, List, [], ◌∷◌, ◌++◌, length, refl, ap, sym, ◌∙◌, subst, Option, Some, None, arith, append-nil}
use Rattle.std.specs.Prelude.{Result, Ok, Err, slice_get}
use Rattle.std.specs.Option.{option_map, option_map_or}
use mathlib.Core.List.{IsPrefix}
use Rattle.branch_io.specs.Causes.{Rose, HasCauseOf}
use Rattle.branch_disk.specs.Disk.{Files, LeavesOnly}
use Rattle.branch_disk.specs.declared.disk.Disk.{Ghosts}
use Rattle.branch_disk.specs.Moments.{started, weakened}
use Rattle.branch_history.specs.declared.moves.Move.{Move}
use Rattle.branch_history.specs.declared.moves.Move.TheVariants as move
use Rattle.branch_names.specs.Heads.{name_of, head_of, IsKeptBranch}
use Rattle.branch_history.specs.Steps.{Step, Turn, Outcome, Refused, Same, Refusal}
use Rattle.branch_history.specs.Steps as machine
use Rattle.branch_history.specs.Machine.{answers, turn}
use Rattle.branch_machine.specs.Fixed.{Fixed, fix}
use Rattle.mrdt_model.specs.Laws.{Meaning}
use Rattle.branch_names.specs.declared.branch.Branch.{Branch}
use Rattle.branch_machine.specs.Objects.{store_after}
use Rattle.branch_machine.specs.Machine.{collision_refusal, commit_here, unless_here, unless_made, full_turn}
use Rattle.branch_files.specs.Stands.{Stands}
use Rattle.branch_renewal.specs.Laws.{MakesAgain, IsOfBytes, MakesOrRefuses, RepeatsBy, Repeats, IsRefused}
use Rattle.store_seen.specs.declared.answers.PrepareRefused.{PrepareRefused}
use Rattle.store_seen.specs.declared.answers.PrepareRefused.TheVariants as prepare_refusal
use Rattle.store_seen.specs.declared.answers.PairPrepareRefused.{PairPrepareRefused}
use Rattle.store_seen.specs.declared.answers.PairPrepareRefused.TheVariants as pair_refusal
use Rattle.store_seen.specs.Pairs.{seen_of, paired_at, MergesAs, IsWorkOf, MergeRefusedAs}
use Rattle.store_seen.specs.Turns.{at_head, step_of, move_of, PrepareRefusedAs}
use Rattle.store_seen.specs.Views.{PreparedView, SeenView, PairView, Work}
use Rattle.store_seen.specs.Views as work
use Rattle.store_core.specs.declared.answers.LandRefused.{LandRefused}
use Rattle.store_core.specs.declared.answers.LandRefused.TheVariants as land_refusal
use Rattle.store_core.specs.declared.answers.ForkRefused.{ForkRefused}
use Rattle.store_core.specs.declared.answers.ForkRefused.TheVariants as fork_refusal
use Rattle.store_core.specs.Images.{AllStand, WithOrWithout}
use Rattle.store_core.specs.Turns.{Moves, step_made, LandRefusedAs, LandLeaves, ForkRefusedAs, ForkLeaves}
use Rattle.store_core.specs.Views.{StoreView, held}
use Rattle.moves_again.specs.declared.answers.MoveRefused.{MoveRefused}
use Rattle.moves_again.specs.declared.answers.MoveRefused.TheVariants as move_refusal
use Rattle.moves_again.specs.Again.{land_refused, fork_refused, prepare_refused, merge_refused, MakesOne, MakesSo, RepeatsSome, LeavesOne, LeavesSo}

module _ {S O R Q A : Type 0} (fixed : Fixed S O R Q A) (moves : List (Move O R)) (step : Step O Q) where
  -- a turn that answers and makes no move is the full one, where it receives nothing that is here
  pub full-answers : (o : Outcome A R) → commit_here fixed moves step ≡ None → turn fixed.meaning fixed.terms moves step ≡ answers o → full_turn fixed moves step ≡ answers o
  unfolding full_turn
  full-answers o none is =
      let t : Turn O R A = turn fixed.meaning fixed.terms moves step in
      ap (λ h. unless_here h (unless_made (collision_refusal fixed moves) t.made t)) none ∙ ap (λ (u : Turn O R A). unless_made (collision_refusal fixed moves) u.made u) is

  abbrev outcome_of_refusal : Refusal → Outcome A R
  outcome_of_refusal r = Refused r

  abbrev outcome_same : Outcome A R
  outcome_same = Same

  module _ (made : Move O R) (by : RepeatsBy fixed moves made step) where
    made_is : (m : Move O R) (o : Outcome A R) → full_turn fixed moves step ≡ record { outcome = o; made = m ∷ [] } → MakesOrRefuses (full_turn fixed moves step) made → m ≡ made
    made_is m o is (inl makes) =
        let both : m ∷ [] ≡ made ∷ [] = sym (ap (λ (t : Turn O R A). t.made) is) ∙ makes in cc
    made_is m o is (inr refused) =
        let both : m ∷ [] ≡ [] = sym (ap (λ (t : Turn O R A). t.made) is) ∙ ap (λ (t : Turn O R A). t.made) refused.2 in absurd (cc)

    -- the move that the step makes is the one that is made again
    pub repeats-makes : (m : Move O R) (o : Outcome A R) → full_turn fixed moves step ≡ record { outcome = o; made = m ∷ [] } → m ≡ made
    repeats-makes m o is = made_is m o is by.turns

    refused_is : (r : Refusal) → full_turn fixed moves step ≡ answers (Refused r) → MakesOrRefuses (full_turn fixed moves step) made → IsOfBytes r
    refused_is r is (inl makes) = let both : [] ≡ made ∷ [] = sym (ap (λ (t : Turn O R A). t.made) is) ∙ makes in absurd (cc)
    refused_is r is (inr refused) =
        let both : outcome_of_refusal refused.0 ≡ outcome_of_refusal r = sym (ap (λ (t : Turn O R A). t.outcome) refused.2) ∙ ap (λ (t : Turn O R A). t.outcome) is in
        let same : refused.0 ≡ r = cc in
        subst IsOfBytes same refused.1

    -- it is refused for bytes alone
    pub repeats-refused : (r : Refusal) → full_turn fixed moves step ≡ answers (Refused r) → IsRefused fixed moves made
    repeats-refused r is = record { step = step; again = by.again; refusal = r; bytes = refused_is r is by.turns; refuses = is }

    same_never : full_turn fixed moves step ≡ answers Same → MakesOrRefuses (full_turn fixed moves step) made → ⊥
    same_never is (inl makes) = let both : [] ≡ made ∷ [] = sym (ap (λ (t : Turn O R A). t.made) is) ∙ makes in cc
    same_never is (inr refused) =
        let both : outcome_of_refusal refused.0 ≡ outcome_same = sym (ap (λ (t : Turn O R A). t.outcome) refused.2) ∙ ap (λ (t : Turn O R A). t.outcome) is in cc

    pub repeats-never_same : full_turn fixed moves step ≡ answers Same → ⊥
    repeats-never_same is = same_never is by.turns

    turned : (c : Files) → MakesOrRefuses (full_turn fixed moves step) made → WithOrWithout fixed moves (full_turn fixed moves step).made c → WithOrWithout fixed moves (made ∷ []) c
    turned c by_turns (inl before) = inl before
    turned c (inl makes) (inr after) = inr (subst (λ ms. Stands fixed (moves ++ ms) c) makes after)
    turned c (inr refused) (inr after) =
        let none : (full_turn fixed moves step).made ≡ [] = ap (λ (t : Turn O R A). t.made) refused.2 in
        inl (subst (λ ms. Stands fixed ms c) (ap (λ ms. moves ++ ms) none ∙ append-nil moves) after)

    pub repeats-leaves : (c : Files) → WithOrWithout fixed moves (full_turn fixed moves step).made c → WithOrWithout fixed moves (made ∷ []) c
    repeats-leaves c is = turned c by.turns is

-- no call of the disk was made
pub cause-none : {T : Type 0} (before : ℕ) (e : MoveRefused) → (e ≡ move_refusal.DiskFault → ⊥) → HasCauseOf {T = T} move_refusal.DiskFault before before (Err e)
cause-none before e other = record { later = omega arith; failed = λ is. absurd (other (cc)); others = λ _. refl }

-- a call of the disk went through
cause_through : {T : Type 0} (before now : ℕ) (done : T) → now ≡ before → HasCauseOf {T = T} move_refusal.DiskFault before now (Ok done)
cause_through before now done same = record { later = omega arith; failed = λ is. absurd (cc); others = λ _. same }

pub cause-through : {T E X : Type 0} (fault : E) (before now : ℕ) (x : X) (done : T) → HasCauseOf fault before now (Ok x) → HasCauseOf {T = T} move_refusal.DiskFault before now (Ok done)
cause-through fault before now x done cause = cause_through before now done (cause.others (λ is. absurd (cc)))

cause_other : {T E X : Type 0} (fault e : E) (m : MoveRefused) (before now : ℕ) → (e ≡ fault → ⊥) → (m ≡ move_refusal.DiskFault → ⊥) → HasCauseOf {T = X} fault before now (Err e) → HasCauseOf {T = T} move_refusal.DiskFault before now (Err m)
cause_other fault e m before now other none cause = record {
  later = cause.later;
  failed = λ is. absurd (none (cc));
  others = λ _. cause.others (λ is. other (cc));
}

cause_fault : {T E X : Type 0} (fault : E) (before now : ℕ) → HasCauseOf {T = X} fault before now (Err fault) → HasCauseOf {T = T} move_refusal.DiskFault before now (Err move_refusal.DiskFault)
cause_fault fault before now cause = record { later = cause.later; failed = λ _. cause.failed refl; others = λ other. absurd (other refl) }

module _ {D S O R Q A : Type 0} (fixed : Fixed S O R Q A) (old new : StoreView (Move O R) D) (step : Step O Q) (made : Move O R) (by : RepeatsBy fixed old.history made step) where
  -- the core made the move of the step
  pub one-made : (m : Move O R) (o : Outcome A R) (moves : ℕ) → Moves fixed old new step m o moves → MakesOne fixed made old new (Ok tt)
  one-made m o moves does =
      does.history ∙ ap (λ (k : Move O R). record old { history = old.history ++ k ∷ []; disk = new.disk }) (repeats-makes fixed old.history step made by m o does.turn_is)

  one_refused : (r : Refusal) → new ≡ old → full_turn fixed old.history step ≡ answers (Refused r) → MakesOne fixed made old new (Err move_refusal.Refused)
  one_refused r kept is = (kept, repeats-refused fixed old.history step made by r is)

  -- what was prepared did not land
  module _ (prepared : PreparedView O R) (steps : step_made prepared ≡ step) (worked : old.failed ≡ false) where
    at_step : (r : Refusal) → full_turn fixed old.history (step_made prepared) ≡ answers (Refused r) → full_turn fixed old.history step ≡ answers (Refused r)
    at_step r is = ap (λ k. full_turn fixed old.history k) (sym steps) ∙ is

    pub not_landed : (e : LandRefused) → LandRefusedAs fixed prepared old e → LandLeaves old new e → MakesOne fixed made old new (Err (land_refused e))
    not_landed (land_refusal.Dropped branch) is kept = one_refused (machine.Dropped branch) kept (at_step (machine.Dropped branch) is.1)
    not_landed (land_refusal.Stale newest) is kept = one_refused (machine.Stale newest) kept (at_step (machine.Stale newest) is.0.1)
    not_landed (land_refusal.FullCommits count) is kept = one_refused (machine.FullCommits count) kept (at_step (machine.FullCommits count) is.1)
    not_landed (land_refusal.FullMoves count) is kept = one_refused (machine.FullMoves count) kept (at_step (machine.FullMoves count) is.1)
    not_landed (land_refusal.Collision address stored fresh) is kept = one_refused (machine.Collision address stored fresh) kept (at_step (machine.Collision address stored fresh) is.1)
    not_landed land_refusal.DiskFault is kept = kept
    not_landed (land_refusal.Failed moves) is kept = let both : true ≡ false = sym is.0 ∙ worked in absurd (cc)
    not_landed land_refusal.Memory is kept = kept

  -- a branch was not forked
  pub not_forked : (name from : List ℕ) → machine.Fork name from ≡ step → old.failed ≡ false → (e : ForkRefused) → ForkRefusedAs fixed name from old e → ForkLeaves old new e → MakesOne fixed made old new (Err (fork_refused e))
  not_forked name from steps worked (fork_refusal.UnknownBranch named) is kept = one_refused (machine.UnknownBranch from) kept (ap (λ k. full_turn fixed old.history k) (sym steps) ∙ is.1.1)
  not_forked name from steps worked (fork_refusal.NameTaken number) is kept = one_refused (machine.NameTaken number) kept (ap (λ k. full_turn fixed old.history k) (sym steps) ∙ is.1)
  not_forked name from steps worked (fork_refusal.FullBranches count) is kept = one_refused (machine.FullBranches count) kept (ap (λ k. full_turn fixed old.history k) (sym steps) ∙ is.1)
  not_forked name from steps worked (fork_refusal.FullMoves count) is kept = one_refused (machine.FullMoves count) kept (ap (λ k. full_turn fixed old.history k) (sym steps) ∙ is.1)
  not_forked name from steps worked fork_refusal.DiskFault is kept = kept
  not_forked name from steps worked (fork_refusal.Failed moves) is kept = let both : true ≡ false = sym is.0 ∙ worked in absurd (cc)
  not_forked name from steps worked fork_refusal.Memory is kept = kept

-- the causes of refusals, where the store had not failed
module _ {D S O R Q A T X : Type 0} (fixed : Fixed S O R Q A) (old : StoreView (Move O R) D) (worked : old.failed ≡ false) (before now : ℕ) where
  pub cause-landing : (prepared : PreparedView O R) (e : LandRefused) → LandRefusedAs fixed prepared old e → HasCauseOf {T = X} land_refusal.DiskFault before now (Err e) → HasCauseOf {T = T} move_refusal.DiskFault before now (Err (land_refused e))
  cause-landing prepared (land_refusal.Dropped branch) is cause = cause_other _ _ _ before now (λ is. cc) (λ is. cc) cause
  cause-landing prepared (land_refusal.Stale newest) is cause = cause_other _ _ _ before now (λ is. cc) (λ is. cc) cause
  cause-landing prepared (land_refusal.FullCommits count) is cause = cause_other _ _ _ before now (λ is. cc) (λ is. cc) cause
  cause-landing prepared (land_refusal.FullMoves count) is cause = cause_other _ _ _ before now (λ is. cc) (λ is. cc) cause
  cause-landing prepared (land_refusal.Collision address stored fresh) is cause = cause_other _ _ _ before now (λ is. cc) (λ is. cc) cause
  cause-landing prepared land_refusal.DiskFault is cause = cause_fault land_refusal.DiskFault before now cause
  cause-landing prepared (land_refusal.Failed moves) is cause = let both : true ≡ false = sym is.0 ∙ worked in absurd (cc)
  cause-landing prepared land_refusal.Memory is cause = cause_other _ _ _ before now (λ is. cc) (λ is. cc) cause

  pub cause-forking : (name from : List ℕ) (e : ForkRefused) → ForkRefusedAs fixed name from old e → HasCauseOf {T = X} fork_refusal.DiskFault before now (Err e) → HasCauseOf {T = T} move_refusal.DiskFault before now (Err (fork_refused e))
  cause-forking name from (fork_refusal.UnknownBranch named) is cause = cause_other _ _ _ before now (λ is. cc) (λ is. cc) cause
  cause-forking name from (fork_refusal.NameTaken number) is cause = cause_other _ _ _ before now (λ is. cc) (λ is. cc) cause
  cause-forking name from (fork_refusal.FullBranches count) is cause = cause_other _ _ _ before now (λ is. cc) (λ is. cc) cause
  cause-forking name from (fork_refusal.FullMoves count) is cause = cause_other _ _ _ before now (λ is. cc) (λ is. cc) cause
  cause-forking name from fork_refusal.DiskFault is cause = cause_fault fork_refusal.DiskFault before now cause
  cause-forking name from (fork_refusal.Failed moves) is cause = let both : true ≡ false = sym is.0 ∙ worked in absurd (cc)
  cause-forking name from fork_refusal.Memory is cause = cause_other _ _ _ before now (λ is. cc) (λ is. cc) cause

module _ {D S O R Q A : Type 0} (disk : Ghosts D) (fixed : Fixed S O R Q A) (old : StoreView (Move O R) D) (step : Step O Q) where
  -- what a crash leaves in a call that makes the step
  pub leaves-so : (new : StoreView (Move O R) D) (k : Step O Q) → k ≡ step → old.failed ≡ false
      → (old.failed ≡ false → LeavesOnly disk.moment disk.left_since old.disk new.disk (WithOrWithout fixed old.history (full_turn fixed old.history k).made))
      → LeavesSo disk fixed step old new
  leaves-so new k steps worked leaves made by stands =
      let whole = subst (λ k. LeavesOnly disk.moment disk.left_since old.disk new.disk (WithOrWithout fixed old.history (full_turn fixed old.history k).made)) steps (leaves worked) in
      weakened disk.moment disk.left_since old.disk new.disk (WithOrWithout fixed old.history (full_turn fixed old.history step).made) (WithOrWithout fixed old.history (made ∷ [])) whole (repeats-leaves fixed old.history step made by)

  -- and where no call of the disk is made
  pub leaves-none : ((d : D) (c : Files) → disk.left_since d (disk.moment d) c → disk.may_leave d c) → LeavesSo disk fixed step old old
  leaves-none only_now made by stands = started disk.moment disk.left_since old.disk (WithOrWithout fixed old.history (made ∷ [])) (λ c left. inl (stands c (only_now old.disk c left)))

pub whole : {X : Type 0} (a b : List X) → a ≡ b → IsPrefix a b
whole a b e = ([], append-nil a ∙ e)

-- the name of a branch that is there
pub named-so : (branches : List Branch) (r : ℕ) (o : Option (List ℕ × ℕ)) (p : List ℕ × ℕ) → o ≡ option_map (λ (b : Branch). (b.name, b.head)) (slice_get branches r) → o ≡ Some p → p.0 ≡ name_of branches r
named-so branches r o p found is = named_of (slice_get branches r) (sym is ∙ found)
  where
    named_of : (b : Option Branch) → Some p ≡ option_map (λ (b : Branch). (b.name, b.head)) b → p.0 ≡ option_map_or (λ b. b.name) b []
    named_of None is = absurd (cc)
    named_of (Some b) is = let same : p ≡ (b.name, b.head) = cc in ap (λ q. q.0) same

module _ {D S O R Q A : Type 0} (meaning : Meaning S O R Q A) (address : List ℕ → List ℕ) (old : StoreView (Move O R) D) (branch head : ℕ) where
  abbrev at : Fixed S O R Q A
  at = fix meaning old.terms address

  abbrev sight : SeenView (Move O R)
  sight = at_head (held old) branch head

  -- an operation that was not prepared on the newest head
  prepared_not : (op : O) (made : Move O R) → RepeatsBy at old.history made (machine.Land branch head op) → (e : PrepareRefused) → PrepareRefusedAs meaning sight op e → MakesOne at made old old (Err (prepare_refused e))
  prepared_not op made by (prepare_refusal.Exhausted clock) is =
      one_refused at old old (machine.Land branch head op) made by (machine.Exhausted clock) refl (full-answers at old.history (machine.Land branch head op) (Refused (machine.Exhausted clock)) refl (is old.history (whole old.history old.history refl)))
  prepared_not op made by (prepare_refusal.ValueTooLarge size) is =
      one_refused at old old (machine.Land branch head op) made by (machine.ValueTooLarge size) refl (full-answers at old.history (machine.Land branch head op) (Refused (machine.ValueTooLarge size)) refl (is old.history (whole old.history old.history refl)))
  prepared_not op made by prepare_refusal.Memory is = refl

  pub not_prepared : (seen : SeenView (Move O R)) → seen ≡ sight → (op : O) (made : Move O R) → RepeatsBy at old.history made (machine.Land branch head op) → (e : PrepareRefused) → PrepareRefusedAs meaning seen op e → MakesOne at made old old (Err (prepare_refused e))
  not_prepared seen same op made by e is = prepared_not op made by e (subst (λ (s : SeenView (Move O R)). PrepareRefusedAs meaning s op e) same is)

  module _ (seen : SeenView (Move O R)) (same : seen ≡ sight) (pair : PairView (Move O R)) (commit : ℕ) (paired : pair ≡ paired_at (held old) seen commit) where
    abbrev brought : PairView (Move O R)
    brought = paired_at (held old) sight commit

    pair_is : pair ≡ brought
    pair_is = paired ∙ ap (λ (s : SeenView (Move O R)). paired_at (held old) s commit) same

    turned_so : (o : Outcome A R) → MergesAs meaning pair o → full_turn at old.history (machine.Merge branch head (commit ∷ [])) ≡ answers o
    turned_so o is =
        full-answers at old.history (machine.Merge branch head (commit ∷ [])) o refl
        (subst (λ (p : PairView (Move O R)). MergesAs meaning p o) pair_is is old.history (whole old.history old.history refl))

    merged_not : (made : Move O R) → RepeatsBy at old.history made (machine.Merge branch head (commit ∷ [])) → (e : PairPrepareRefused) → MergeRefusedAs meaning pair e → MakesOne at made old old (Err (merge_refused e))
    merged_not made by (pair_refusal.ValueTooLarge size) is = one_refused at old old (machine.Merge branch head (commit ∷ [])) made by (machine.ValueTooLarge size) refl (turned_so (Refused (machine.ValueTooLarge size)) is)
    merged_not made by pair_refusal.Memory is = refl

    -- a merge that was not prepared is refused; no fault comes
    pub not_merged : (e : PairPrepareRefused) → MergeRefusedAs meaning pair e
        → (merge_refused e ≢ move_refusal.DiskFault) × MakesSo at (machine.Merge branch head (commit ∷ [])) old old (Err (merge_refused e))
    not_merged (pair_refusal.ValueTooLarge size) is = ((λ e. cc), λ made by. merged_not made by (pair_refusal.ValueTooLarge size) is)
    not_merged pair_refusal.Memory is = ((λ e. cc), λ made by. refl)

    -- there is something to merge
    pub never-same : RepeatsSome at old.history (machine.Merge branch head (commit ∷ [])) → MergesAs meaning pair Same → ⊥
    never-same repeats is = repeats-never_same at old.history (machine.Merge branch head (commit ∷ [])) repeats.0 repeats.1 (turned_so Same is)

    work_step : (s : SeenView (Move O R)) (w : Work O R) → IsWorkOf meaning pair w → step_of {Q = Q} s w ≡ machine.Merge s.branch s.head (pair.other ∷ [])
    work_step s (work.Operation op reply) is = absurd is
    work_step s (work.Merge k) is = ap (λ n. machine.Merge s.branch s.head (n ∷ [])) is.0
    work_step s (work.Join ks) is = absurd is
    work_step s (work.Forward k) is = ap (λ n. machine.Merge s.branch s.head (n ∷ [])) is.0

    -- what was prepared is a step on the newest head
    pub merge-prepared : (prepared : PreparedView O R) → (prepared.seen ≡ seen_of pair) × IsWorkOf meaning pair prepared.work
        → (prepared.seen ≡ sight) × (step_made {Q = Q} prepared ≡ machine.Merge branch head (commit ∷ []))
    merge-prepared prepared is =
        let seen_is : prepared.seen ≡ sight = is.0 ∙ ap (λ (p : PairView (Move O R)). seen_of p) pair_is in
        let other : pair.other ≡ commit = ap (λ (p : PairView (Move O R)). p.other) pair_is in
        (seen_is, work_step prepared.seen prepared.work is.1 ∙ ap (λ (s : SeenView (Move O R)). machine.Merge s.branch s.head (pair.other ∷ [])) seen_is ∙ ap (λ n. machine.Merge branch head (n ∷ [])) other)

-- what moves of the first kinds need of a store
module _ {S O R Q A : Type 0} (fixed : Fixed S O R Q A) (moves : List (Move O R)) where
  pub by-fork : (made : Move O R) (name : List ℕ) (number from : ℕ) → made ≡ move.Fork name number from → Repeats fixed moves made
      → IsKeptBranch (store_after fixed moves).branches from × RepeatsBy fixed moves made (machine.Fork name (name_of (store_after fixed moves).branches from))
  by-fork made name number from is (step, by) =
      let again = subst (λ m. MakesAgain (store_after fixed moves) m step) is by.again in
      (again.0, subst (λ k. RepeatsBy fixed moves made k) again.1 by)

  pub by-operation : (made : Move O R) (r : ℕ) (op : O) (reply : R) → made ≡ move.Operation r op reply → Repeats fixed moves made
      → IsKeptBranch (store_after fixed moves).branches r × RepeatsBy fixed moves made (machine.Land r (head_of (store_after fixed moves).branches r) op)
  by-operation made r op reply is (step, by) =
      let again = subst (λ m. MakesAgain (store_after fixed moves) m step) is by.again in
      (again.0, subst (λ k. RepeatsBy fixed moves made k) again.1 by)

  pub by-merge : (made : Move O R) (r m : ℕ) → made ≡ move.Merge r m → Repeats fixed moves made
      → IsKeptBranch (store_after fixed moves).branches r × RepeatsBy fixed moves made (machine.Merge r (head_of (store_after fixed moves).branches r) (m ∷ []))
  by-merge made r m is (step, by) =
      let again = subst (λ k. MakesAgain (store_after fixed moves) k step) is by.again in
      (again.0, subst (λ k. RepeatsBy fixed moves made k) again.1 by)

  pub by-forward : (made : Move O R) (r m : ℕ) → made ≡ move.Forward r m → Repeats fixed moves made
      → IsKeptBranch (store_after fixed moves).branches r × RepeatsBy fixed moves made (machine.Merge r (head_of (store_after fixed moves).branches r) (m ∷ []))
  by-forward made r m is (step, by) =
      let again = subst (λ k. MakesAgain (store_after fixed moves) k step) is by.again in
      (again.0, subst (λ k. RepeatsBy fixed moves made k) again.1 by)

  -- other moves are not made again
  pub never-join : (made : Move O R) (r : ℕ) (ms : List ℕ) → made ≡ move.Join r ms → Repeats fixed moves made → ⊥
  never-join made r ms is (step, by) = subst (λ m. MakesAgain (store_after fixed moves) m step) is by.again

  pub never-received : (made : Move O R) (parents : List ℕ) (origin clock : ℕ) (act : Option (O × R)) → made ≡ move.Received parents origin clock act → Repeats fixed moves made → ⊥
  never-received made parents origin clock act is (step, by) = subst (λ m. MakesAgain (store_after fixed moves) m step) is by.again

  pub never-place : (made : Move O R) (name : List ℕ) (number n : ℕ) → made ≡ move.Place name number n → Repeats fixed moves made → ⊥
  never-place made name number n is (step, by) = subst (λ m. MakesAgain (store_after fixed moves) m step) is by.again

  pub never-drop : (made : Move O R) (r : ℕ) → made ≡ move.Drop r → Repeats fixed moves made → ⊥
  never-drop made r is (step, by) = subst (λ m. MakesAgain (store_after fixed moves) m step) is by.again
