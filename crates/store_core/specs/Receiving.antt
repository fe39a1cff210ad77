-- What a core answers to an item of a bundle, and what the answer leaves of it and its disk.
use Rattle.std.specs.Prelude.{◌≡◌, ℕ, List, [], Result, Ok, Err}
use Rattle.mrdt_model.specs.Laws.{Meaning}
use Rattle.branch_disk.specs.declared.disk.Disk.{Ghosts}
use Rattle.branch_history.specs.declared.moves.Move.{Move}
use Rattle.branch_history.specs.Steps.{Turn}
use Rattle.branch_history.specs.Steps as machine
use Rattle.branch_machine.specs.Fixed.{Fixed, fix}
use Rattle.branch_machine.specs.Objects.{Pair}
use Rattle.branch_machine.specs.Validity.{Receives}
use Rattle.machine_answers.specs.Answers.{Answer, Made, Still, Refused, Fault, Failed, Short, Takes}
use Rattle.recorded_history.specs.declared.arrivals.ReceiveRefused.{ReceiveRefused as ReceiveRefusedBelow}
use Rattle.recorded_history.specs.declared.arrivals.ReceiveRefused.TheVariants as below
use Rattle.store_core.specs.declared.answers.Got.{Got}
use Rattle.store_core.specs.declared.answers.Got.TheVariants as got
use Rattle.store_core.specs.declared.answers.ReceiveRefused.{ReceiveRefused}
use Rattle.store_core.specs.declared.answers.ReceiveRefused.TheVariants as refusal
use Rattle.store_core.specs.Answers.{LeavesBy}
use Rattle.store_core.specs.Views.{StoreView}

-- what is refused of an item in memory, as a refusal of the item with a number
abbrev pub item_refused : ℕ → ReceiveRefusedBelow → ReceiveRefused
item_refused item below.BadBundle = refusal.BadBundle item
item_refused item below.OwnOrigin = refusal.OwnOrigin item
item_refused item (below.TimeClash number) = refusal.TimeClash item number
item_refused item (below.Exhausted clock) = refusal.Exhausted clock
item_refused item (below.ValueTooLarge length) = refusal.ValueTooLarge length
item_refused item (below.FullCommits count) = refusal.FullCommits count
item_refused item (below.FullMoves count) = refusal.FullMoves count
item_refused item (below.Collision address stored fresh) = refusal.Collision address stored fresh
item_refused item below.Memory = refusal.Memory

-- what `receive` answers, as an answer to a turn of the machine
abbrev pub receive_answer : {A R : Type 0} → Result Got ReceiveRefused → Answer A R
receive_answer (Ok (got.Here commit)) = Still (machine.Here commit)
receive_answer (Ok (got.New commit moves)) = Made (machine.New commit) moves
receive_answer (Err (refusal.BadBundle item)) = Refused machine.BadBundle
receive_answer (Err (refusal.OwnOrigin item)) = Refused machine.OwnOrigin
receive_answer (Err (refusal.TimeClash item number)) = Refused (machine.TimeClash number)
receive_answer (Err (refusal.Exhausted clock)) = Refused (machine.Exhausted clock)
receive_answer (Err (refusal.ValueTooLarge length)) = Refused (machine.ValueTooLarge length)
receive_answer (Err (refusal.FullCommits count)) = Refused (machine.FullCommits count)
receive_answer (Err (refusal.FullMoves count)) = Refused (machine.FullMoves count)
receive_answer (Err (refusal.Collision address stored fresh)) = Refused (machine.Collision address stored fresh)
receive_answer (Err refusal.DiskFault) = Fault
receive_answer (Err (refusal.Failed moves)) = Failed moves
receive_answer (Err refusal.Memory) = Short

-- a refusal that names an item names that with this number
abbrev pub NamesItem : ℕ → ReceiveRefused → Type 0
NamesItem number (refusal.BadBundle item) = item ≡ number
NamesItem number (refusal.OwnOrigin item) = item ≡ number
NamesItem number (refusal.TimeClash item commit) = item ≡ number
NamesItem number refused = Unit {0}

-- the turn with which the machine receives an item that is answered so; where memory is short, or the disk had failed before, none that makes a move
abbrev pub IsTurnOf : {S O R Q A : Type 0} → Fixed S O R Q A → List (Move O R) → Pair → Answer A R → Turn O R A → Type 0
IsTurnOf fixed history item Short turn = turn.made ≡ []
IsTurnOf fixed history item (Failed moves) turn = turn.made ≡ []
IsTurnOf fixed history item answer turn = Receives fixed history item turn

-- an item is taken as the machine receives it, and this is what the answer leaves
pub record TakesItem {D S O R Q A : Type 0} (disk : Ghosts D) (meaning : Meaning S O R Q A) (address : List ℕ → List ℕ)
    (item : Pair) (old new : StoreView (Move O R) D) (answer : Answer A R) : Type 0 where
  pub turn : Turn O R A
  pub received : IsTurnOf (fix meaning old.terms address) old.history item answer turn
  pub takes : Takes turn old.history new.history answer
  pub leaves : LeavesBy disk meaning address turn.made old new answer
