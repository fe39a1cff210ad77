-- The turns of the machine that keeps objects, of what the calls of a recorded history make.
use Rattle.std.specs.Prelude.{◌≡◌, ℕ, ◌+◌, List, [], ◌∷◌, ◌++◌, length, map, Option, Result, Ok, Err}
use Rattle.branch_history.specs.declared.moves.Move.{Move}
use Rattle.branch_history.specs.declared.moves.Move.TheVariants as move
use Rattle.branch_history.specs.Steps as machine
use Rattle.branch_history.specs.Machine.{answers}
use Rattle.heads_journal.specs.declared.record.Record.{Record}
use Rattle.branch_machine.specs.Fixed.{Fixed}
use Rattle.branch_machine.specs.Objects.{store_after, pairs_of, region}
use Rattle.branch_machine.specs.Machine.{full_turn}
use Rattle.branch_files.specs.Records.{record_of}
use Rattle.machine_answers.specs.Answers.{Answer, TurnsAs, CountsAs, behind}
use Rattle.store_seen.specs.declared.answers.PlaceRefused.{PlaceRefused}
use Rattle.store_seen.specs.declared.answers.DropRefused.{DropRefused}
use Rattle.store_seen.specs.Answers.{placed, not_placed, dropped, not_dropped}
use Rattle.store_seen.specs.Nodes.{commit_at}
use Rattle.store_seen.specs.Turns.{step_of, move_of, outcome_of}
use Rattle.store_seen.specs.Views.{SeenView, PreparedView}
use Rattle.recorded_history.specs.declared.answers.Made.{Made}
use Rattle.recorded_history.specs.declared.answers.Branched.{Branched}
use Rattle.recorded_history.specs.declared.answers.Dropped.{Dropped}
use Rattle.recorded_history.specs.Views.{RecordedView}

-- the addresses of the commits of a history, by number
abbrev pub addresses_of : {S O R Q A : Type 0} → Fixed S O R Q A → List (Move O R) → List (List ℕ)
addresses_of fixed moves = map (λ p. fixed.address p.commit) (pairs_of fixed (store_after fixed moves).commits)

-- the machine that keeps objects makes this move, and answers so; the move is pending, and has this record
pub record Makes {S O R Q A : Type 0} (fixed : Fixed S O R Q A) (old new : RecordedView (Move O R)) (step : machine.Step O Q) (made : Move O R) (outcome : machine.Outcome A R) (moves : ℕ) (r : Record) : Type 0 where
  pub turn_is : full_turn fixed old.written step ≡ record { outcome = outcome; made = made ∷ [] }
  pub pending : new ≡ record old { pending = made ∷ [] }
  pub counted : moves ≡ length old.written + 1
  pub recorded : r ≡ record_of fixed old.written made

-- the same behind the moves that are pending already
pub record MakesMore {S O R Q A : Type 0} (fixed : Fixed S O R Q A) (old new : RecordedView (Move O R)) (step : machine.Step O Q) (made : Move O R) (outcome : machine.Outcome A R) (moves : ℕ) (r : Record) : Type 0 where
  pub turn_is : full_turn fixed (old.written ++ old.pending) step ≡ record { outcome = outcome; made = made ∷ [] }
  pub pending : new ≡ record old { pending = old.pending ++ made ∷ [] }
  pub counted : moves ≡ length (old.written ++ old.pending) + 1
  pub recorded : r ≡ record_of fixed (old.written ++ old.pending) made

-- what was prepared landed as the machine's step does it
abbrev pub LandsAs : {S O R Q A : Type 0} → Fixed S O R Q A → PreparedView O R → RecordedView (Move O R) → RecordedView (Move O R) → Made R → Type 0
LandsAs {S} {O} {R} {Q} {A} fixed prepared old new made =
    Makes fixed old new (step_of prepared.seen prepared.work) (move_of prepared.seen.branch prepared.work) (outcome_of made.landed.kind) made.landed.moves made.record

-- and behind the moves that are pending already
abbrev pub LandsMore : {S O R Q A : Type 0} → Fixed S O R Q A → PreparedView O R → RecordedView (Move O R) → RecordedView (Move O R) → Made R → Type 0
LandsMore {S} {O} {R} {Q} {A} fixed prepared old new made =
    MakesMore fixed old new (step_of prepared.seen prepared.work) (move_of prepared.seen.branch prepared.work) (outcome_of made.landed.kind) made.landed.moves made.record

-- a branch forked as the machine's step does it
abbrev pub Forks : {S O R Q A : Type 0} → Fixed S O R Q A → List ℕ → List ℕ → RecordedView (Move O R) → RecordedView (Move O R) → Branched → Type 0
Forks {S} {O} {R} {Q} {A} fixed name from old new made =
    (source : ℕ) × Makes fixed old new (machine.Fork name from) (move.Fork name made.forked.number source) (machine.Forked made.forked.number made.forked.head) made.forked.moves made.record

-- the machine that keeps objects refuses a step, and nothing moves
abbrev pub FullyRefuses : {S O R Q A : Type 0} → Fixed S O R Q A → List (Move O R) → machine.Step O Q → machine.Refusal → Type 0
FullyRefuses {S} {O} {R} {Q} {A} fixed history step refusal = full_turn fixed history step ≡ answers {A = A} (machine.Refused refusal)

-- A step of the machine that keeps objects is answered so, where no move was pending: the move that it makes is pending then.
pub record Steps {S O R Q A : Type 0} (fixed : Fixed S O R Q A) (step : machine.Step O Q)
    (old new : RecordedView (Move O R)) (answer : Answer A R) : Type 0 where
  pub turns : TurnsAs answer (full_turn fixed old.written step)
  pub pending : new ≡ record old { pending = behind answer [] (full_turn fixed old.written step).made }
  pub counted : CountsAs answer (new.written ++ new.pending)

-- this is the record of the move that is pending
abbrev pub IsRecordOf : {S O R Q A : Type 0} → Fixed S O R Q A → RecordedView (Move O R) → Record → Type 0
IsRecordOf {S} {O} {R} fixed r record_of_it = (made : Move O R) × (r.pending ≡ made ∷ []) × (record_of_it ≡ record_of fixed r.written made)

-- the first commit of a history whose object has an address
abbrev pub commit_of_address : {S O R Q A : Type 0} → Fixed S O R Q A → List (Move O R) → List ℕ → Option ℕ
commit_of_address fixed moves address = commit_at (addresses_of fixed moves) address

-- what a placed branch, or none, is as an answer to a step
abbrev pub place_answer : {A R : Type 0} → Result Branched PlaceRefused → Answer A R
place_answer (Ok made) = placed made.forked
place_answer (Err refused) = not_placed refused

-- and a dropped one, of this look
abbrev pub drop_answer : {A R M : Type 0} → SeenView M → Result Dropped DropRefused → Answer A R
drop_answer seen (Ok made) = dropped seen made.moves
drop_answer seen (Err refused) = not_dropped refused

-- what moves that are made one behind the other append to the file of objects, all of them
abbrev pub regions : {S O R Q A : Type 0} → Fixed S O R Q A → List (Move O R) → List (Move O R) → List ℕ
regions fixed history [] = []
regions fixed history (made ∷ more) = region fixed history made ++ regions fixed (history ++ made ∷ []) more
