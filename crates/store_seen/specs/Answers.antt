-- What calls of a core answer, as answers to a step of the machine.
use Rattle.std.specs.Prelude.{ℕ, List, [], ◌∷◌, ◌++◌, Result, Ok, Err}
use Rattle.branch_history.specs.Steps as machine
use Rattle.machine_answers.specs.Answers.{Answer, Made, Refused, Short}
use Rattle.store_seen.specs.declared.answers.Forked.{Forked}
use Rattle.store_seen.specs.declared.answers.PlaceRefused.{PlaceRefused}
use Rattle.store_seen.specs.declared.answers.PlaceRefused.TheVariants as place_refusal
use Rattle.store_seen.specs.declared.answers.DropRefused.{DropRefused}
use Rattle.store_seen.specs.declared.answers.DropRefused.TheVariants as drop_refusal
use Rattle.store_seen.specs.declared.answers.Received.{Received}
use Rattle.store_seen.specs.declared.answers.ReceiveRefused.{ReceiveRefused}
use Rattle.store_seen.specs.declared.answers.ReceiveRefused.TheVariants as receive_refusal
use Rattle.store_seen.specs.Views.{SeenView}

-- a branch that was placed, and that was not
abbrev pub placed : {A R : Type 0} → Forked → Answer A R
placed forked = Made (machine.Forked forked.number forked.head) forked.moves

abbrev pub not_placed : {A R : Type 0} → PlaceRefused → Answer A R
not_placed (place_refusal.NameTaken number) = Refused (machine.NameTaken number)
not_placed (place_refusal.FullBranches count) = Refused (machine.FullBranches count)
not_placed (place_refusal.FullMoves count) = Refused (machine.FullMoves count)
not_placed place_refusal.Memory = Short

abbrev pub place_answer : {A R : Type 0} → Result Forked PlaceRefused → Answer A R
place_answer (Ok forked) = placed forked
place_answer (Err refused) = not_placed refused

-- a branch that was dropped, from the head that was seen, and that was not
abbrev pub dropped : {A R M : Type 0} → SeenView M → ℕ → Answer A R
dropped seen moves = Made (machine.DroppedAt seen.branch seen.head) moves

abbrev pub not_dropped : {A R : Type 0} → DropRefused → Answer A R
not_dropped (drop_refusal.Dropped branch) = Refused (machine.Dropped branch)
not_dropped drop_refusal.KeepsMain = Refused machine.KeepsMain
not_dropped (drop_refusal.Stale newest) = Refused (machine.Stale newest)
not_dropped (drop_refusal.FullMoves count) = Refused (machine.FullMoves count)
not_dropped drop_refusal.Memory = Short

abbrev pub drop_answer : {A R M : Type 0} → SeenView M → Result ℕ DropRefused → Answer A R
drop_answer seen (Ok moves) = dropped seen moves
drop_answer seen (Err refused) = not_dropped refused

-- a commit of another store that was received, and that was not
abbrev pub received : {A R : Type 0} → Received → Answer A R
received taken = Made (machine.New taken.commit) taken.moves

abbrev pub not_received : {A R : Type 0} → ReceiveRefused → Answer A R
not_received receive_refusal.OwnOrigin = Refused machine.OwnOrigin
not_received (receive_refusal.TimeClash number) = Refused (machine.TimeClash number)
not_received (receive_refusal.Exhausted clock) = Refused (machine.Exhausted clock)
not_received (receive_refusal.ValueTooLarge length) = Refused (machine.ValueTooLarge length)
not_received (receive_refusal.FullCommits count) = Refused (machine.FullCommits count)
not_received (receive_refusal.FullMoves count) = Refused (machine.FullMoves count)
not_received receive_refusal.Memory = Short

abbrev pub receive_answer : {A R : Type 0} → Result Received ReceiveRefused → Answer A R
receive_answer (Ok taken) = received taken
receive_answer (Err refused) = not_received refused

-- the addresses after it: where it was received, the last is that of its object
abbrev pub addresses_received : Result Received ReceiveRefused → List ℕ → List (List ℕ) → List (List ℕ)
addresses_received (Ok taken) address addresses = addresses ++ address ∷ []
addresses_received (Err refused) address addresses = addresses
