-- Moves, commits and stores whose operations are renewed, each by its own.
use Rattle.std.specs.Prelude.{List, map}
use Rattle.std.specs.Option.{option_map}
use Rattle.mrdt_renewal.specs.Renewals.{renewed_event}
use Rattle.branch_history.specs.declared.moves.Move.{Move}
use Rattle.branch_history.specs.declared.moves.Move.TheVariants as move
use Rattle.branch_history.specs.Commits.{Commit}
use Rattle.branch_history.specs.History.{Store}

-- the move with a renewed operation, and all else as it was
abbrev pub renewed : {O1 O2 R : Type 0} → (O1 → O2) → Move O1 R → Move O2 R
renewed f (move.Fork name number from) = move.Fork name number from
renewed f (move.Operation branch op reply) = move.Operation branch (f op) reply
renewed f (move.Merge branch commit) = move.Merge branch commit
renewed f (move.Join branch commits) = move.Join branch commits
renewed f (move.Forward branch commit) = move.Forward branch commit
renewed f (move.Received parents origin clock act) =
    move.Received parents origin clock (option_map (λ d. (f d.0, d.1)) act)
renewed f (move.Place name number commit) = move.Place name number commit
renewed f (move.Drop branch) = move.Drop branch

abbrev pub renewed_moves : {O1 O2 R : Type 0} → (O1 → O2) → List (Move O1 R) → List (Move O2 R)
renewed_moves f moves = map (renewed f) moves

-- the commit with a renewed event, and all else as it was
abbrev pub renewed_commit : {O1 O2 R : Type 0} → (O1 → O2) → Commit O1 R → Commit O2 R
renewed_commit f c = record {
  parents = c.parents;
  origin = c.origin;
  clock = c.clock;
  event = option_map (renewed_event f) c.event;
}

abbrev pub renewed_commits : {O1 O2 R : Type 0} → (O1 → O2) → List (Commit O1 R) → List (Commit O2 R)
renewed_commits f commits = map (renewed_commit f) commits

-- the store with renewed commits, and the same branches
abbrev pub renewed_store : {O1 O2 R : Type 0} → (O1 → O2) → Store O1 R → Store O2 R
renewed_store f s = record { commits = renewed_commits f s.commits; branches = s.branches }
