-- What became of a try to move, by what became of its landing.
use Rattle.std.proofs.Common.{◌≡◌, ℕ, List, length, refl, ap, sym, subst, ◌∙◌, Option, Some, None}
use Rattle.branch_history.specs.declared.moves.Move.{Move}
use Rattle.branch_history.specs.declared.moves.Move.TheVariants as move
use Rattle.branch_history.specs.Steps as machine
use Rattle.branch_doc.specs.declared.plain.PlainOp.{PlainOp}
use Rattle.branch_script.specs.declared.step.Step.TheVariants.{Do}
use Rattle.store_seen.specs.Turns.{Refuses, FromOn, step_of, move_of}
use Rattle.store_seen.specs.Views.{SeenView, PreparedView, Work}
use Rattle.store_seen.specs.Views as work
use Rattle.recorded_history.specs.Machine.{FullyRefuses}
use Rattle.branch_shared.specs.Passes.{PassView}
use Rattle.parallel_clients.specs.declared.sessions.Session.{Session}
use Rattle.parallel_clients.specs.declared.landing.Landing.{Landing}
use Rattle.parallel_clients.specs.declared.landing.Landing.TheVariants.{Moved, Stale, Same}
use Rattle.parallel_clients.specs.declared.outcome.ClientRefusal.{ClientRefusal}
use Rattle.parallel_clients.specs.declared.outcome.ClientRefusal.TheVariants.{UnknownBranch, Dropped, KeepsMain, Exhausted, FullCommits, FullBranches, FullMoves, ValueTooLarge, Collision, NoSequences, DiskFault, Failed, Memory}
use Rattle.parallel_clients.specs.Played.{Sights, IfSees}
use Rattle.parallel_clients.specs.Outcomes.{Setting, RefusesLanding, RefusesStep, LacksKind, StepRefused}
use Rattle.parallel_clients.specs.Sessions.{IsSession, HasMoved, IsLanding, RefusesMade, IsLandRefused, IsTried}
use Rattle.parallel_clients.proofs.Machines.{full-answers}
use Rattle.parallel_clients.proofs.Sessioned.{session-head}

module _ {S O R Q A : Type 0} (on : Setting S O R Q A) (moves : List (Move O R)) (s : Session (SeenView (Move O R))) (is : IsSession on.fixed.terms moves s)
    (sights : Sights) (session : List ℕ) (sees : sights session ≡ Some s.seen.branch) (plain : PlainOp) (op : O) (op_is : on.forms.op plain ≡ Some op) where
  pub do-refused : (why : machine.Refusal) → FullyRefuses on.fixed moves (machine.Land s.seen.branch s.seen.head op) why → RefusesStep on moves sights (Do session plain) why
  do-refused why no_turn =
      subst (λ o. IfSees o (λ branch. RefusesLanding on moves branch (on.forms.op plain) why)) (sym sees)
      (record { operation = op; is = op_is; head = s.seen.head; seen = session-head on.fixed.terms moves s is; refused = no_turn })

  -- what was refused while it was prepared
  pub do-unprepared : (why : machine.Refusal) → FromOn on.fixed.meaning s.seen.terms s.seen.history (λ later. Refuses on.fixed.meaning s.seen.terms later (machine.Land s.seen.branch s.seen.head op) why)
      → RefusesStep on moves sights (Do session plain) why
  do-unprepared why from =
      let step : machine.Step O Q = machine.Land s.seen.branch s.seen.head op in
      do-refused why (full-answers on.fixed moves step (machine.Refused why) refl (subst (λ l. Refuses on.fixed.meaning l moves step why) is.terms_are (from moves is.begins)))

  -- what was refused when it was to land
  pub do-unlanded : (new : PassView (Move O R)) (made : PreparedView O R) (reply : R) (refusal : ClientRefusal) → new.moves ≡ moves → made ≡ record { seen = s.seen; work = work.Operation op reply }
      → IsLandRefused on made new refusal → StepRefused on moves new.faults sights (Do session plain) refusal
  do-unlanded new made reply refusal at made_is why = by refusal why
    where
      step_is : step_of {Q = Q} made.seen made.work ≡ machine.Land s.seen.branch s.seen.head op
      step_is = ap (λ (m : PreparedView O R). step_of {Q = Q} m.seen m.work) made_is

      turned : (r : machine.Refusal) → RefusesMade on made new.moves r → RefusesStep on moves sights (Do session plain) r
      turned r no_turn = do-refused r (subst (λ ms. FullyRefuses on.fixed ms (machine.Land s.seen.branch s.seen.head op) r) at (subst (λ st. FullyRefuses on.fixed new.moves st r) step_is no_turn))

      by : (r : ClientRefusal) → IsLandRefused on made new r → StepRefused on moves new.faults sights (Do session plain) r
      by (UnknownBranch name) h = absurd h
      by (Dropped branch) h = turned (machine.Dropped branch) h
      by KeepsMain h = absurd h
      by (Exhausted clock) h = absurd h
      by (FullCommits count) h = turned (machine.FullCommits count) h
      by (FullBranches count) h = absurd h
      by (FullMoves count) h = turned (machine.FullMoves count) h
      by (ValueTooLarge length) h = absurd h
      by (Collision address stored fresh) h = turned (machine.Collision address stored fresh) h
      by NoSequences h = absurd h
      by DiskFault h = h
      by (Failed count) h = (h.0 ∙ ap length at, h.1)
      by Memory h = h

-- what a session that sees a branch was to do is of a kind that the store lacks
pub do-lacking : {S O R Q A : Type 0} (on : Setting S O R Q A) (moves : List (Move O R)) (sights : Sights) (session : List ℕ) (branch : ℕ) → sights session ≡ Some branch
    → (plain : PlainOp) → on.forms.op plain ≡ None → LacksKind on moves sights (Do session plain)
do-lacking on moves sights session branch sees plain lacks = subst (λ o. IfSees o (λ branch. on.forms.op plain ≡ None)) (sym sees) lacks

-- what became of a try to land an operation
pub do-tried : {O R : Type 0} (old new : PassView (Move O R)) (places after : List ℕ) (s : Session (SeenView (Move O R))) → (sight : Option ℕ) → sight ≡ Some s.seen.branch
    → (made : PreparedView O R) (op : Option O) (operation : O) (reply : R) → op ≡ Some operation → made ≡ record { seen = s.seen; work = work.Operation operation reply }
    → (landing : Landing) → IsLanding (move_of made.seen.branch made.work) old new places after landing → IsTried sight op old new places after landing
do-tried {O} {R} old new places after s sight sees made op operation reply op_is made_is = by
  where
    move_is : move_of made.seen.branch made.work ≡ move.Operation s.seen.branch operation reply
    move_is = ap (λ (m : PreparedView O R). move_of m.seen.branch m.work) made_is

    by : (landing : Landing) → IsLanding (move_of made.seen.branch made.work) old new places after landing → IsTried sight op old new places after landing
    by Moved moved = record {
      branch = s.seen.branch;
      sees = sees;
      operation = operation;
      is = op_is;
      reply = reply;
      moved = subst (λ m. HasMoved m old new places after) move_is moved;
    }
    by Stale stayed = stayed
    by Same none = absurd none
