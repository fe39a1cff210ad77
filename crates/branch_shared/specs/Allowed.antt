-- Which moves the name of a shared store allows.
use Rattle.std.specs.Prelude.{ℕ, List, ◌++◌, ◌≡◌}
use Rattle.std.specs.List.{AllByRecursion}
use Rattle.branch_history.specs.declared.moves.Move.{Move}
use Rattle.branch_history.specs.declared.moves.Move.TheVariants as move
use Rattle.store_seen.specs.Views.{Work, Operation, Merge, Join, Forward}

-- to bring a branch any commits: by merging one, moving up to one, or joining several
pub record AllowsBringing {O R : Type 0} (allows : Move O R → Type 0) (branch : ℕ) : Type 0 where
  pub merge : (commit : ℕ) → allows (move.Merge branch commit)
  pub forward : (commit : ℕ) → allows (move.Forward branch commit)
  pub join : (commits : List ℕ) → allows (move.Join branch commits)

-- A work on a branch: an operation, whatever its reply, or bringing the branch any commits. No more is known of a move that was lost with a failing disk.
abbrev pub AllowsWork : {O R : Type 0} → (Move O R → Type 0) → ℕ → Work O R → Type 0
AllowsWork {O} {R} allows branch (Operation op reply) = (any : R) → allows (move.Operation branch op any)
AllowsWork allows branch (Merge commit) = AllowsBringing allows branch
AllowsWork allows branch (Join commits) = AllowsBringing allows branch
AllowsWork allows branch (Forward commit) = AllowsBringing allows branch

-- the moves that one history has behind another are all such
pub record GrowsBy {M : Type 0} (Is : M → Type 0) (old new : List M) : Type 0 where
  pub more : List M
  pub is : old ++ more ≡ new
  pub all : AllByRecursion Is more
