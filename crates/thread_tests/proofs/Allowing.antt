-- Where each move is allowed each work is.
use Rattle.std.proofs.Common.{ℕ}
use Rattle.branch_history.specs.declared.moves.Move.{Move}
use Rattle.branch_history.specs.declared.moves.Move.TheVariants as move
use Rattle.store_seen.specs.Views.{Work, Operation, Merge, Join, Forward}
use Rattle.branch_shared.specs.Allowed.{AllowsBringing, AllowsWork}

module _ {O R : Type 0} (allows : Move O R → Type 0) (all : (made : Move O R) → allows made) (branch : ℕ) where
  brings : AllowsBringing allows branch
  brings = record {
    merge = λ commit. all (move.Merge branch commit);
    forward = λ commit. all (move.Forward branch commit);
    join = λ commits. all (move.Join branch commits);
  }

  pub each-work : (work : Work O R) → AllowsWork allows branch work
  each-work (Operation op reply) = λ any. all (move.Operation branch op any)
  each-work (Merge commit) = brings
  each-work (Join commits) = brings
  each-work (Forward commit) = brings
