-- Items of a bundle that a core receives together, one behind another.
use Rattle.std.specs.Prelude.{◌≡◌, ℕ, ◌≤◌, ◌^◌, true, false, List, [], ◌∷◌, ◌++◌, length, slice_get, IfSome, Option, Some, None, Result, Ok, Err}
use Rattle.mrdt_model.specs.Laws.{Meaning}
use Rattle.branch_disk.specs.declared.disk.Disk.{Ghosts}
use Rattle.branch_history.specs.declared.moves.Move.{Move}
use Rattle.branch_history.specs.Machine.{answers}
use Rattle.branch_history.specs.Steps.{Turn}
use Rattle.branch_history.specs.Steps as machine
use Rattle.heads_journal.specs.declared.record.Record.{Record}
use Rattle.branch_machine.specs.Fixed.{Fixed, fix}
use Rattle.branch_machine.specs.Objects.{Pair}
use Rattle.branch_machine.specs.Validity.{Receives}
use Rattle.branch_files.specs.Records.{records_after}
use Rattle.branch_bundle_laws.specs.Receiving.{made_by, ReceivesAll}
use Rattle.branch_bundle.specs.declared.bundle.Item.{Item}
use Rattle.machine_answers.specs.Answers.{Takes, Refused}
use Rattle.recorded_history.specs.Views.{RecordedView}
use Rattle.store_core.specs.declared.answers.Got.{Got}
use Rattle.store_core.specs.declared.answers.GotAll.{GotAll}
use Rattle.store_core.specs.declared.answers.ReceiveRefused.{ReceiveRefused}
use Rattle.store_core.specs.declared.answers.ReceiveRefused.TheVariants as refusal
use Rattle.store_core.specs.Batches.{LeavesMoves}
use Rattle.store_core.specs.Receiving.{receive_answer, NamesItem}
use Rattle.store_core.specs.Views.{StoreView}

-- the machine refuses an item by this turn, and this tells why; it is no fault of the disk, and no want of memory
abbrev pub RefusedBy : {O R A : Type 0} → Turn O R A → ReceiveRefused → Type 0
RefusedBy {O} {R} {A} turn refused =
    (r : machine.Refusal) × (receive_answer {A = A} {R = R} (Err refused) ≡ Refused r) × (turn ≡ answers (machine.Refused r))

-- What is told of the turn of an item behind a history: what became of it, or why it was refused.
abbrev pub ToldOf : {O R A : Type 0} → List (Move O R) → Turn O R A → Result Got ReceiveRefused → Type 0
ToldOf history turn (Ok got) = Takes turn history (history ++ turn.made) (receive_answer (Ok got))
ToldOf history turn (Err refused) = RefusedBy turn refused

-- What is told of the turns of items, one behind another: of each item that was taken what became of it, and of the first that was refused why. No turn comes behind that.
abbrev pub TellsTurns : {O R A : Type 0} → List (Move O R) → List (Turn O R A) → List Got → Option ReceiveRefused → Type 0
TellsTurns history turns [] None = turns ≡ []
TellsTurns {O} {R} {A} history turns [] (Some refused) = (turn : Turn O R A) × (turns ≡ turn ∷ []) × ToldOf history turn (Err refused)
TellsTurns history [] (got ∷ more) refused = ⊥
TellsTurns history (turn ∷ turns) (got ∷ more) refused = ToldOf history turn (Ok got) × TellsTurns (history ++ turn.made) turns more refused

-- An item was received in memory behind the moves that wait, by a turn of the machine of which this is told: the move that it makes waits behind them then, and its record is noted.
pub record HasArrived {S O R Q A : Type 0} (fixed : Fixed S O R Q A) (item : Pair) (old new : RecordedView (Move O R))
    (answer : Result Got ReceiveRefused) (noted records : List Record) : Type 0 where
  pub turn : Turn O R A
  pub received : Receives fixed (old.written ++ old.pending) item turn
  pub told : ToldOf (old.written ++ old.pending) turn answer
  pub pending : new ≡ record old { pending = old.pending ++ turn.made }
  pub are : records ≡ noted ++ records_after fixed (old.written ++ old.pending) turn.made

-- Items were received in memory, where no move waited, by these turns: this is told of them, their moves wait, and these are the records of those.
pub record HaveArrived {S O R Q A : Type 0} (fixed : Fixed S O R Q A) (items : List Pair) (old new : RecordedView (Move O R))
    (got : List Got) (refused : Option ReceiveRefused) (records : List Record) : Type 0 where
  pub turns : List (Turn O R A)
  pub received : ReceivesAll fixed old.written items turns
  pub told : TellsTurns old.written turns got refused
  pub pending : new ≡ record old { pending = made_by turns }
  pub are : records ≡ records_after fixed old.written (made_by turns)

-- The store has all that the machine makes of the items by these turns, and this is told of them.
pub record ReceivesTurns {D S O R Q A : Type 0} (fixed : Fixed S O R Q A) (items : List Pair) (old new : StoreView (Move O R) D)
    (turns : List (Turn O R A)) (all : GotAll) : Type 0 where
  pub worked : old.failed ≡ false
  pub received : ReceivesAll fixed old.history items turns
  pub told : TellsTurns old.history turns all.got all.refused
  pub counted : all.made ≡ length (made_by turns)
  pub history : new ≡ record old { history = old.history ++ made_by turns; disk = new.disk }
  pub few : length new.history ≤ 2 ^ 48

-- the disk failed under the moves of these turns, and the store holds what it held
pub record FaultsTurns {D S O R Q A : Type 0} (fixed : Fixed S O R Q A) (items : List Pair) (old new : StoreView (Move O R) D)
    (turns : List (Turn O R A)) : Type 0 where
  pub worked : old.failed ≡ false
  pub received : ReceivesAll fixed old.history items turns
  pub kept : new ≡ record old { failed = true; disk = new.disk }

-- no turn was taken, and nothing has changed
pub record TakesNone {D O R A : Type 0} (old new : StoreView (Move O R) D) (turns : List (Turn O R A)) : Type 0 where
  pub none : turns ≡ []
  pub same : new ≡ old

-- What receiving items together answers, by these turns of the machine, and the store behind it: all are received up to the first that is refused; or the disk fails under them; or memory is short, or the disk had failed before, and then no turn is taken.
abbrev pub AnswersTurns : {D S O R Q A : Type 0} → Fixed S O R Q A → List Pair → StoreView (Move O R) D → StoreView (Move O R) D
    → List (Turn O R A) → Result GotAll ReceiveRefused → Type 0
AnswersTurns fixed items old new turns (Ok all) = ReceivesTurns fixed items old new turns all
AnswersTurns fixed items old new turns (Err refusal.DiskFault) = FaultsTurns fixed items old new turns
AnswersTurns fixed items old new turns (Err (refusal.Failed moves)) = (old.failed ≡ true) × (moves ≡ length old.history) × TakesNone old new turns
AnswersTurns fixed items old new turns (Err refusal.Memory) = (old.failed ≡ false) × TakesNone old new turns
AnswersTurns fixed items old new turns (Err refused) = ⊥

-- Items are received together by turns of the machine; this is answered, and this is left of the disk where their moves are made.
pub record TakesItems {D S O R Q A : Type 0} (disk : Ghosts D) (meaning : Meaning S O R Q A) (address : List ℕ → List ℕ) (items : List Pair)
    (old new : StoreView (Move O R) D) (result : Result GotAll ReceiveRefused) : Type 0 where
  pub turns : List (Turn O R A)
  pub answered : AnswersTurns (fix meaning old.terms address) items old new turns result
  pub leaves : LeavesMoves disk meaning address (made_by turns) old new result

-- a refusal that names an item names the first behind those that were taken
abbrev pub NamesNext : List Item → List Got → Option ReceiveRefused → Type 0
NamesNext items got refused = IfSome refused (λ why. (item : Item) × (slice_get items (length got) ≡ Some item) × NamesItem item.number why)
