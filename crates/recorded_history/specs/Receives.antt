-- What a recorded history answers to an item of a bundle.
use Rattle.std.specs.Prelude.{◌≡◌, ℕ, List, [], ◌∷◌, ◌++◌, Result, Ok, Err}
use Rattle.branch_history.specs.declared.moves.Move.{Move}
use Rattle.branch_history.specs.Steps as machine
use Rattle.branch_machine.specs.Fixed.{Fixed}
use Rattle.branch_machine.specs.Objects.{Pair}
use Rattle.branch_machine.specs.Validity.{Receives}
use Rattle.branch_files.specs.Records.{record_of}
use Rattle.machine_answers.specs.Answers.{Answer, Made, Still, Refused, Failed, Short, TurnsAs, CountsAs, behind}
use Rattle.mrdt_model.specs.declared.errors.Unread.{Unread}
use Rattle.mrdt_model.specs.declared.errors.Unread.TheVariants as unread
use Rattle.object_store.specs.declared.errors.StageRefused.{StageRefused}
use Rattle.object_store.specs.declared.errors.StageRefused.TheVariants as staging
use Rattle.store_seen.specs.declared.answers.ReceiveRefused as seen
use Rattle.store_seen.specs.declared.answers.ReceiveRefused.TheVariants as seen_refusal
use Rattle.recorded_history.specs.declared.arrivals.Arrived.{Arrived}
use Rattle.recorded_history.specs.declared.arrivals.Arrived.TheVariants as arrived
use Rattle.recorded_history.specs.declared.arrivals.ReceiveRefused.{ReceiveRefused}
use Rattle.recorded_history.specs.declared.arrivals.ReceiveRefused.TheVariants as refusal
use Rattle.recorded_history.specs.Machine.{IsRecordOf}
use Rattle.recorded_history.specs.Views.{RecordedView}

-- an item has a turn of the machine that is answered so; these are the moves that are made of it
abbrev pub HasTurn : {S O R Q A : Type 0} → Fixed S O R Q A → List (Move O R) → Pair → List (Move O R) → Answer A R → Type 0
HasTurn {S} {O} {R} {Q} {A} fixed history item made answer =
    (turn : machine.Turn O R A) × Receives fixed history item turn × TurnsAs answer turn × (made ≡ behind answer [] turn.made)

-- the same, where memory was not short and the disk had not failed; else no move is made
abbrev pub AnswersItem : {S O R Q A : Type 0} → Fixed S O R Q A → List (Move O R) → Pair → List (Move O R) → Answer A R → Type 0
AnswersItem fixed history item made Short = made ≡ []
AnswersItem fixed history item made (Failed moves) = made ≡ []
AnswersItem fixed history item made answer = HasTurn fixed history item made answer

-- An item is answered as the machine receives it, where no move was pending: the move that it makes is pending then.
pub record ReceivesItem {S O R Q A : Type 0} (fixed : Fixed S O R Q A) (item : Pair)
    (old new : RecordedView (Move O R)) (answer : Answer A R) : Type 0 where
  pub answers : AnswersItem fixed old.written item new.pending answer
  pub rest : new ≡ record old { pending = new.pending }
  pub counted : CountsAs answer (new.written ++ new.pending)

-- what is pending behind an answer: what was, and behind it the moves that were made. Nothing is said where memory was short
abbrev pub PendsBehind : {M A R : Type 0} → Answer A R → List M → List M → List M → Type 0
PendsBehind Short old made new = Unit {0}
PendsBehind answer old made new = new ≡ old ++ made

-- An item is answered as the machine receives it behind the moves that are pending already: the move that it makes is pending behind them then.
pub record ReceivesMore {S O R Q A : Type 0} (fixed : Fixed S O R Q A) (item : Pair)
    (old new : RecordedView (Move O R)) (answer : Answer A R) : Type 0 where
  pub made : List (Move O R)
  pub answers : AnswersItem fixed (old.written ++ old.pending) item made answer
  pub pending : PendsBehind answer old.pending made new.pending
  pub rest : new ≡ record old { pending = new.pending }
  pub counted : CountsAs answer (new.written ++ new.pending)

-- what was received, or is here, as an answer
abbrev pub item_arrived : {A R : Type 0} → Arrived → Answer A R
item_arrived (arrived.Here commit) = Still (machine.Here commit)
item_arrived (arrived.New commit moves record_of_it) = Made (machine.New commit) moves

-- and what was refused
abbrev pub item_refused : {A R : Type 0} → ReceiveRefused → Answer A R
item_refused refusal.BadBundle = Refused machine.BadBundle
item_refused refusal.OwnOrigin = Refused machine.OwnOrigin
item_refused (refusal.TimeClash number) = Refused (machine.TimeClash number)
item_refused (refusal.Exhausted clock) = Refused (machine.Exhausted clock)
item_refused (refusal.ValueTooLarge length) = Refused (machine.ValueTooLarge length)
item_refused (refusal.FullCommits count) = Refused (machine.FullCommits count)
item_refused (refusal.FullMoves count) = Refused (machine.FullMoves count)
item_refused (refusal.Collision address stored new) = Refused (machine.Collision address stored new)
item_refused refusal.Memory = Short

abbrev pub item_answer : {A R : Type 0} → Result Arrived ReceiveRefused → Answer A R
item_answer (Ok arrived) = item_arrived arrived
item_answer (Err refused) = item_refused refused

-- the record of what is new is that of the pending move
abbrev pub HasItsRecord : {S O R Q A : Type 0} → Fixed S O R Q A → RecordedView (Move O R) → Arrived → Type 0
HasItsRecord fixed r (arrived.Here commit) = Unit {0}
HasItsRecord fixed r (arrived.New commit moves record_of_it) = IsRecordOf fixed r record_of_it

-- the record of what is new is that of the move that came behind those that were pending
abbrev pub HasLastRecord : {S O R Q A : Type 0} → Fixed S O R Q A → RecordedView (Move O R) → RecordedView (Move O R) → Arrived → Type 0
HasLastRecord fixed old new (arrived.Here commit) = Unit {0}
HasLastRecord {S} {O} {R} fixed old new (arrived.New commit moves record_of_it) =
    (made : Move O R) × (new.pending ≡ old.pending ++ made ∷ []) × (record_of_it ≡ record_of fixed (old.written ++ old.pending) made)

-- what it means that no commit was read of an item
abbrev pub unread_item : Unread → ReceiveRefused
unread_item unread.NotCanonical = refusal.BadBundle
unread_item unread.Memory = refusal.Memory

-- that its objects were not staged
abbrev pub unstaged_item : StageRefused → ReceiveRefused
unstaged_item (staging.Collision address stored new) = refusal.Collision address stored new
unstaged_item staging.Memory = refusal.Memory

-- and that the half in memory refuses it
abbrev pub refused_item : seen.ReceiveRefused → ReceiveRefused
refused_item seen_refusal.OwnOrigin = refusal.OwnOrigin
refused_item (seen_refusal.TimeClash number) = refusal.TimeClash number
refused_item (seen_refusal.Exhausted clock) = refusal.Exhausted clock
refused_item (seen_refusal.ValueTooLarge length) = refusal.ValueTooLarge length
refused_item (seen_refusal.FullCommits count) = refusal.FullCommits count
refused_item (seen_refusal.FullMoves count) = refusal.FullMoves count
refused_item seen_refusal.Memory = refusal.Memory
