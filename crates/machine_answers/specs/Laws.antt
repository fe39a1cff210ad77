-- What holds of the answers to a step.
use Rattle.std.specs.Prelude.{◌≡◌, List}
use Rattle.branch_history.specs.declared.moves.Move.{Move}
use Rattle.branch_history.specs.Steps.{Turn, Outcome}
use Rattle.branch_history.specs.Steps as machine
use Rattle.machine_answers.specs.Answers.{Answer, Made, Still, Refused, Fault, Failed, Short, Takes}

-- an outcome that is no refusal
abbrev pub IsGiven : {A R : Type 0} → Outcome A R → Type 0
IsGiven (machine.Refused refusal) = ⊥
IsGiven outcome = Unit {0}

-- an answer that is the machine's own; a refusal is told as one
abbrev pub IsTheMachines : {A R : Type 0} → Answer A R → Type 0
IsTheMachines (Made outcome moves) = Unit {0}
IsTheMachines (Still outcome) = IsGiven outcome
IsTheMachines (Refused refusal) = Unit {0}
IsTheMachines Fault = ⊥
IsTheMachines (Failed moves) = ⊥
IsTheMachines Short = ⊥

-- to one turn over a history, two answers of the machine are the same, and so is what they leave
abbrev pub Decides : Type 0 → Type 0 → Type 0 → Type 0
Decides O R A =
    (turn : Turn O R A) (old new new' : List (Move O R)) (one two : Answer A R)
    → Takes turn old new one → Takes turn old new' two
    → IsTheMachines one → IsTheMachines two → (one ≡ two) × (new ≡ new')
