-- The times at which a history received operations.
use Rattle.std.specs.Prelude.{ℕ, ◌+◌, Bool, false, is_some, ◌&&◌, ◌==◌, List, [], ◌∷◌, ◌++◌, Some, None}
use Rattle.std.specs.declared.option.Option.{Option}
use Rattle.std.specs.Map.{lookup}
use Rattle.branch_history.specs.declared.moves.Move.{Move}
use Rattle.branch_history.specs.declared.moves.Move.TheVariants as move

-- moves, and for how many more of them, and of times, there is room
pub record MoveListView (M : Type 0) : Type 0 where
  pub items : List M
  pub room : ℕ
  pub times_room : ℕ

-- a clock and an origin are the same time
abbrev pub time_eq : ℕ × ℕ → ℕ × ℕ → Bool
time_eq s t = (s.0 == t.0) && (s.1 == t.1)

-- a move that receives nothing
abbrev pub IsOwn : {O R : Type 0} → Move O R → Type 0
IsOwn (move.Received parents origin clock act) = ⊥
IsOwn m = Unit {0}

-- a move that receives an operation
abbrev pub is_timed : {O R : Type 0} → Move O R → Bool
is_timed (move.Received parents origin clock act) = is_some act
is_timed m = false

-- how many commits there are after a move
abbrev pub count_after : {O R : Type 0} → ℕ → Move O R → ℕ
count_after count (move.Fork name number from) = count
count_after count (move.Operation branch op reply) = count + 1
count_after count (move.Merge branch commit) = count + 1
count_after count (move.Join branch commits) = count + 1
count_after count (move.Forward branch commit) = count
count_after count (move.Received parents origin clock act) = count + 1
count_after count (move.Place name number commit) = count
count_after count (move.Drop branch) = count

-- the time of what is received, with the number of its commit, where it is an operation
abbrev pub time_of : {O R : Type 0} → ℕ → ℕ → ℕ → Option (O × R) → List ((ℕ × ℕ) × ℕ)
time_of count origin clock None = []
time_of count origin clock (Some act) = ((clock, origin), count) ∷ []

-- the time of the operation that a move receives, if it receives one
abbrev pub time_received : {O R : Type 0} → ℕ → Move O R → List ((ℕ × ℕ) × ℕ)
time_received count (move.Received parents origin clock act) = time_of count origin clock act
time_received count m = []

-- the times of moves behind so many commits, in order
abbrev pub times_behind : {O R : Type 0} → ℕ → List (Move O R) → List ((ℕ × ℕ) × ℕ)
times_behind count [] = []
times_behind count (m ∷ ms) = time_received count m ++ times_behind (count_after count m) ms

abbrev pub count_behind : {O R : Type 0} → ℕ → List (Move O R) → ℕ
count_behind count [] = count
count_behind count (m ∷ ms) = count_behind (count_after count m) ms

-- the times of a history, which begins with one commit, and the commits that it has
unfoldable pub received_times : {O R : Type 0} → List (Move O R) → List ((ℕ × ℕ) × ℕ)
received_times moves = times_behind 1 moves

unfoldable pub count_of : {O R : Type 0} → List (Move O R) → ℕ
count_of moves = count_behind 1 moves

-- the commit of the operation that a history received at a time
abbrev pub received_at : {O R : Type 0} → List (Move O R) → ℕ × ℕ → Option ℕ
received_at moves t = lookup (time_eq t) (received_times moves)
