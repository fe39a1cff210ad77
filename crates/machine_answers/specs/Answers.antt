-- What a store answers a step of the machine, and what the answer says.
use Rattle.std.specs.Prelude.{◌≡◌, ℕ, ◌≤◌, ◌^◌, List, [], ◌∷◌, ◌++◌, length}
use Rattle.branch_history.specs.declared.moves.Move.{Move}
use Rattle.branch_history.specs.Steps.{Outcome, Refusal, Turn}
use Rattle.branch_history.specs.Steps as machine
use Rattle.branch_history.specs.Machine.{answers, makes}

pub data Answer (A R : Type 0) : Type 0 where
  -- the outcome of a move that was made, and how many moves the history then has
  Made : Outcome A R → ℕ → Answer A R
  -- the outcome of a step that makes no move
  Still : Outcome A R → Answer A R
  -- why the machine refuses the step
  Refused : Refusal → Answer A R
  -- the disk failed under the move
  Fault : Answer A R
  -- the disk had failed before, when the history had so many moves
  Failed : ℕ → Answer A R
  -- want of memory
  Short : Answer A R

-- the machine's turn, as far as the answer tells it
abbrev pub TurnsAs : {O R A : Type 0} → Answer A R → Turn O R A → Type 0
TurnsAs {O} {R} (Made outcome moves) turn = (made : Move O R) × (turn ≡ makes made outcome)
TurnsAs (Still outcome) turn = turn ≡ answers outcome
TurnsAs (Refused refusal) turn = turn ≡ answers (machine.Refused refusal)
TurnsAs {O} {R} Fault turn = (made : Move O R) × (turn.made ≡ made ∷ [])
TurnsAs (Failed moves) turn = Unit {0}
TurnsAs Short turn = Unit {0}

-- the history behind an answer, where the machine makes these moves
abbrev pub behind : {M A R : Type 0} → Answer A R → List M → List M → List M
behind (Made outcome moves) history made = history ++ made
behind (Still outcome) history made = history
behind (Refused refusal) history made = history
behind Fault history made = history
behind (Failed moves) history made = history
behind Short history made = history

-- the number in an answer is that of the moves behind it
abbrev pub CountsAs : {M A R : Type 0} → Answer A R → List M → Type 0
CountsAs (Made outcome moves) history = (moves ≡ length history) × (length history ≤ 2 ^ 48)
CountsAs (Still outcome) history = Unit {0}
CountsAs (Refused refusal) history = Unit {0}
CountsAs Fault history = Unit {0}
CountsAs (Failed moves) history = moves ≡ length history
CountsAs Short history = Unit {0}

-- a turn of the machine over the old history is answered so, and leaves the new one
pub record Takes {O R A : Type 0} (turn : Turn O R A) (old new : List (Move O R)) (answer : Answer A R) : Type 0 where
  pub turns : TurnsAs answer turn
  pub history : new ≡ behind answer old turn.made
  pub counted : CountsAs answer new
