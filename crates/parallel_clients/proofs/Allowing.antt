-- What a client prepares is allowed, where its step is.
use Rattle.std.proofs.Common.{ℕ}
use Rattle.mrdt_model.specs.Laws.{Meaning}
use Rattle.branch_history.specs.declared.moves.Move.{Move}
use Rattle.branch_history.specs.declared.moves.Move.TheVariants as move
use Rattle.store_seen.specs.Groups.{IsWorkOfAll}
use Rattle.store_seen.specs.Pairs.{IsWorkOf}
use Rattle.store_seen.specs.Views.{GroupView, PairView, Work, Operation, Merge, Join, Forward}
use Rattle.branch_shared.specs.Allowed.{AllowsBringing, AllowsWork}
use Rattle.parallel_clients.specs.Allowed.{Brings}

module _ {O R : Type 0} (allows : Move O R → Type 0) (branch : ℕ) (bringing : (made : Move O R) → Brings made → allows made) where
  brings-any : AllowsBringing allows branch
  brings-any = record {
    merge = λ commit. bringing (move.Merge branch commit) tt;
    forward = λ commit. bringing (move.Forward branch commit) tt;
    join = λ commits. bringing (move.Join branch commits) tt;
  }

  pub pair-allowed : {S Q A : Type 0} (meaning : Meaning S O R Q A) (pair : PairView (Move O R)) (work : Work O R) → IsWorkOf meaning pair work → AllowsWork allows branch work
  pair-allowed meaning pair (Operation op reply) is = absurd is
  pair-allowed meaning pair (Merge commit) is = brings-any
  pair-allowed meaning pair (Join commits) is = brings-any
  pair-allowed meaning pair (Forward commit) is = brings-any

  pub group-allowed : {S Q A : Type 0} (meaning : Meaning S O R Q A) (group : GroupView (Move O R)) (work : Work O R) → IsWorkOfAll meaning group work → AllowsWork allows branch work
  group-allowed meaning group (Operation op reply) is = absurd is
  group-allowed meaning group (Merge commit) is = brings-any
  group-allowed meaning group (Join commits) is = brings-any
  group-allowed meaning group (Forward commit) is = brings-any
