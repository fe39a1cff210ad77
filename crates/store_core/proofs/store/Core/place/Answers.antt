-- The branch waits; then the history has it, or the files may have it.
use Rattle.std.proofs.Common.{◌≡◌, ℕ, Bool, false, List, [], ◌++◌, length, refl, sym, ap, subst, ◌∙◌, append-nil}
use Rattle.std.specs.Prelude.{Result, Ok, Err, IsErrAnd}
use Rattle.mrdt_model.specs.Laws.{Meaning}
use Rattle.branch_disk.specs.Disk.{Files}
use Rattle.branch_disk.specs.declared.disk.Disk.{Ghosts}
use Rattle.branch_history.specs.declared.moves.Move.{Move}
use Rattle.branch_history.specs.Steps as machine
use Rattle.branch_machine.specs.Fixed.{fix}
use Rattle.machine_answers.specs.Answers.{Refused}
use Rattle.store_seen.specs.declared.answers.Forked.{Forked}
use Rattle.store_seen.specs.declared.answers.PlaceRefused as below
use Rattle.store_seen.specs.declared.answers.PlaceRefused.TheVariants as below_refusal
use Rattle.store_seen.specs.Answers.{not_placed}
use Rattle.recorded_history.specs.Machine.{Steps}
use Rattle.recorded_history.specs.Views.{RecordedView}
use Rattle.store_core.specs.declared.answers.PlaceRefused.{PlaceRefused}
use Rattle.store_core.specs.Answers.{place_answer}
use Rattle.store_core.specs.Images.{AllStand}
use Rattle.store_core.specs.Refusals.{place_refused}
use Rattle.store_core.specs.Views.{StoreView}
use Rattle.store_core.proofs.Branchings.{makes_so, waits_step}
use Rattle.store_core.proofs.Answered.{Answered, view_of, put_made, put_fault, still_failed, step_refused, step_short}
use Rattle.store_core.proofs.store.Core.place.Goals as goal

-- what is refused in memory is refused of the store
module _ {D S O R Q A : Type 0} (disk : Ghosts D) (meaning : Meaning S O R Q A) (address : List ℕ → List ℕ) (name : List ℕ) (n : ℕ)
    (old : StoreView (Move O R) D) (r0 r1 : RecordedView (Move O R)) (d opened : D) (failed : Bool) (view_is : view_of r0 failed d opened ≡ old)
    (only_now : (d : D) (c : Files) → disk.left_since d (disk.moment d) c → disk.may_leave d c)
    (stands : failed ≡ false → AllStand (fix meaning r0.terms address) r0.written (disk.may_leave d)) (settled : r0.pending ≡ []) (worked : failed ≡ false) where
  abbrev Answers : Result Forked PlaceRefused → Type 0
  Answers result = Answered disk meaning address (machine.Place name n) old (view_of r1 failed d opened) (place_answer result)

  abbrev StepsTo : below.PlaceRefused → Type 0
  StepsTo e = Steps {A = A} (fix meaning r0.terms address) (machine.Place name n) r0 r1 (not_placed e)

  refuses : (why : machine.Refusal) → Steps {A = A} (fix meaning r0.terms address) (machine.Place name n) r0 r1 (Refused why)
      → Answered disk meaning address (machine.Place name n) old (view_of r1 failed d opened) (Refused why)
  refuses why = step_refused disk meaning address (machine.Place name n) old r0 r1 d opened failed view_is only_now stands settled worked why

  refused-as : (e : below.PlaceRefused) → StepsTo e → Answers (Err (place_refused e))
  refused-as (below_refusal.NameTaken number) steps = refuses (machine.NameTaken number) steps
  refused-as (below_refusal.FullBranches count) steps = refuses (machine.FullBranches count) steps
  refused-as (below_refusal.FullMoves count) steps = refuses (machine.FullMoves count) steps
  refused-as below_refusal.Memory steps = step_short disk meaning address (machine.Place name n) old r0 r1 d opened failed view_is only_now stands settled worked steps

  refused : (result : Result Forked PlaceRefused) (e : below.PlaceRefused) → IsErrAnd result (λ x. x ≡ place_refused e) → StepsTo e → Answers result
  refused (Ok forked) e never steps = absurd never
  refused (Err x) e same steps = subst (λ (x : PlaceRefused). Answers (Err x)) (sym same) (refused-as e steps)

pub put-requires-clause-waits : goal.put-requires-clause-waits
put-requires-clause-waits g c = λ _ _.
    let r = c.self.inside.recorded in
    waits_step g.T.Mrdt.meaning g.A.Address.address r _ _ _ _ _ c.self.invariant.settled c.in_ok-made.ensures.steps c.in_ok-made.ensures.recorded

pub returns : goal.returns
returns g c =
    let made = makes_so g.T.Mrdt.meaning g.A.Address.address c.self.inside.recorded _ _ _ _ _ c.self.invariant.settled c.in_ok-made.ensures.steps c.in_ok-made.ensures.recorded in
    let a = put_made g.D.Disk g.T.Mrdt.meaning g.A.Address.address (machine.Place c.args.name c.args.commit) c.args.self.now _ _ _ _ _ _ _ made _ _ _ _ _ c.self.view_is c.if-self.false c.put.ensures.any_moment
    c.in-Ok.ensures.settled c.in-Ok.ensures.few c.in-Ok.ensures.whole c.in-Ok.ensures.stands c.in-Ok.ensures.exact c.in-Ok.ensures.cause.succeeded in
    record { takes = a.takes; leaves = a.leaves }

pub returns-in_default : goal.returns-in_default
returns-in_default g c =
    let made = makes_so g.T.Mrdt.meaning g.A.Address.address c.self.inside.recorded _ _ _ _ _ c.self.invariant.settled c.in_ok-made.ensures.steps c.in_ok-made.ensures.recorded in
    let a = put_fault g.D.Disk g.T.Mrdt.meaning g.A.Address.address (machine.Place c.args.name c.args.commit) c.args.self.now _ _ _ _ _ _ _ made _ _ _ _ _ c.self.view_is c.if-self.false c.put.ensures.any_moment
    g.met.D.Disk.counts_now c.in_default.ensures.undone c.in_default.ensures.fails c.put.ensures.valid c.put.ensures.torn c.put.ensures.cause.later c.in_default.ensures.cause.failed in
    record { takes = a.takes; leaves = a.leaves }

pub returns-then-self : goal.returns-then-self
returns-then-self g c =
    let r = c.self.inside.recorded in
    let counted = c.moves-moves.ensures.moves ∙ ap (λ ms. length (r.written ++ ms)) c.self.invariant.settled ∙ ap length (append-nil r.written) in
    let a = still_failed g.D.Disk g.T.Mrdt.meaning g.A.Address.address (machine.Place c.args.name c.args.commit) c.args.self.now r r _ _ _ c.self.view_is g.met.D.Disk.only_now c.self.invariant.stands refl _ c.if-self.true counted in
    record { takes = a.takes; leaves = a.leaves }

pub returns-in_err-made : goal.returns-in_err-made
returns-in_err-made g c =
    let a = refused g.D.Disk g.T.Mrdt.meaning g.A.Address.address c.args.name c.args.commit c.args.self.now _ _ _ _ _ c.self.view_is g.met.D.Disk.only_now c.self.invariant.stands
    c.self.invariant.settled c.if-self.false c.from_residual.result _ c.from_residual.ensures.1 c.in_err-made.ensures.steps in
    record { takes = a.takes; leaves = a.leaves }
