-- Moves whose records can be spelled.
use Rattle.std.specs.Prelude.{◌≤◌, length}
use Rattle.branch_history.specs.declared.moves.Move.{Move}
use Rattle.branch_history.specs.declared.moves.Move.TheVariants as move

-- a join is of two to eight commits
abbrev pub IsJoined : {O R : Type 0} → Move O R → Type 0
IsJoined (move.Join r ms) = (2 ≤ length ms) × (length ms ≤ 8)
IsJoined other = Unit {0}
