-- The records of the compact history are of kinds that are known where those of the history are.
use Rattle.std.proofs.Common.{ℕ, ◌+◌, Bool, true, false, cond, List, [], ◌∷◌, ◌++◌, map, filter, arith}
use Rattle.std.specs.List.{AllByRecursion}
use Rattle.branch_names.specs.declared.terms.Terms.{Terms}
use Rattle.branch_history.specs.declared.moves.Move.{Move}
use Rattle.branch_history.specs.declared.moves.Move.TheVariants as move
use Rattle.branch_history.specs.History.{store_of}
use Rattle.branch_machine.specs.Fixed.{Fixed}
use Rattle.branch_machine.specs.Objects.{end_of}
use Rattle.branch_files.specs.Records.{AreKnown, IsKnown, new_address, record_with, records_after, records_of}
use Rattle.branch_compact.specs.Compact.{compact, commits_made, is_live, kept_moves, new_number, numbered, renumbered, stays}

-- whether its record is of a known kind
abbrev IsKnownMove : {O R : Type 0} → Move O R → Type 0
IsKnownMove made = IsKnown (record_with [] 0 made)

-- a branch placed or forked
abbrev placed : (O R : Type 0) → List ℕ → ℕ → ℕ → Bool → Move O R
placed O R name number n b = cond b (move.Place name number n) (move.Fork name number 0)

known-placed : (O R : Type 0) (name : List ℕ) (number n : ℕ) (b : Bool) → IsKnownMove (placed O R name number n b)
known-placed O R name number n true = record { within = omega arith }
known-placed O R name number n false = record { within = omega arith }

module _ {O R : Type 0} where
  known-out : (a : List ℕ) (e : ℕ) (m : Move O R) → IsKnown (record_with a e m) → IsKnownMove m
  known-out a e (move.Fork name number from) is = record { within = is.within }
  known-out a e (move.Operation r op reply) is = record { within = is.within }
  known-out a e (move.Merge r m) is = record { within = is.within }
  known-out a e (move.Join r ms) is = record { within = is.within }
  known-out a e (move.Forward r m) is = record { within = is.within }
  known-out a e (move.Received parents origin clock act) is = record { within = is.within }
  known-out a e (move.Place name number n) is = record { within = is.within }
  known-out a e (move.Drop r) is = record { within = is.within }

  known-in : (a : List ℕ) (e : ℕ) (m : Move O R) → IsKnownMove m → IsKnown (record_with a e m)
  known-in a e (move.Fork name number from) is = record { within = is.within }
  known-in a e (move.Operation r op reply) is = record { within = is.within }
  known-in a e (move.Merge r m) is = record { within = is.within }
  known-in a e (move.Join r ms) is = record { within = is.within }
  known-in a e (move.Forward r m) is = record { within = is.within }
  known-in a e (move.Received parents origin clock act) is = record { within = is.within }
  known-in a e (move.Place name number n) is = record { within = is.within }
  known-in a e (move.Drop r) is = record { within = is.within }

  known-renumbered : (keep : ℕ → Bool) (m : Move O R) → IsKnownMove m → IsKnownMove (renumbered keep m)
  known-renumbered keep (move.Fork name number from) is = is
  known-renumbered keep (move.Operation r op reply) is = is
  known-renumbered keep (move.Merge r m) is = record { within = is.within }
  known-renumbered keep (move.Join r ms) is = record { within = is.within }
  known-renumbered keep (move.Forward r m) is = record { within = is.within }
  known-renumbered keep (move.Received parents origin clock act) is = record { within = is.within }
  known-renumbered keep (move.Place name number n) is = known-placed O R name number (new_number keep n) (keep n)
  known-renumbered keep (move.Drop r) is = is

  known-kept : (keep : ℕ → Bool) (n : ℕ) (moves : List (Move O R)) → AllByRecursion IsKnownMove moves
      → AllByRecursion IsKnownMove (map (λ (p : ℕ × Move O R). renumbered keep p.1) (filter (λ (p : ℕ × Move O R). stays keep p.0 p.1) (numbered n moves)))
  known-kept keep n [] all = tt
  known-kept keep n (m ∷ ms) all = at (stays keep n m) (known-renumbered keep m all.0) (known-kept keep (n + commits_made m) ms all.1)
    where
      rest : List (ℕ × Move O R)
      rest = filter (λ (p : ℕ × Move O R). stays keep p.0 p.1) (numbered (n + commits_made m) ms)

      at : (b : Bool) → IsKnownMove (renumbered keep m) → AllByRecursion IsKnownMove (map (λ (p : ℕ × Move O R). renumbered keep p.1) rest)
          → AllByRecursion IsKnownMove (map (λ (p : ℕ × Move O R). renumbered keep p.1) (cond b ((n, m) ∷ rest) rest))
      at true here others = (here, others)
      at false here others = others

module _ {S O R Q A : Type 0} (fixed : Fixed S O R Q A) where
  known-moves : (before moves : List (Move O R)) → AllByRecursion IsKnown (records_after fixed before moves) → AllByRecursion IsKnownMove moves
  known-moves before [] all = tt
  known-moves before (m ∷ ms) all = (known-out (new_address fixed before m) (end_of fixed (before ++ m ∷ [])) m all.0, known-moves (before ++ m ∷ []) ms all.1)

  known-records : (before moves : List (Move O R)) → AllByRecursion IsKnownMove moves → AllByRecursion IsKnown (records_after fixed before moves)
  known-records before [] all = tt
  known-records before (m ∷ ms) all = (known-in (new_address fixed before m) (end_of fixed (before ++ m ∷ [])) m all.0, known-records (before ++ m ∷ []) ms all.1)

  pub known-compact : (terms : Terms) (moves : List (Move O R)) → AreKnown fixed moves → AreKnown fixed (compact terms moves)
  unfolding records_of compact kept_moves
  known-compact terms moves all = known-records [] (compact terms moves) (known-kept (is_live (store_of terms.origin moves)) 1 moves (known-moves [] moves all))
