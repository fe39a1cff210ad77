-- What a history has behind bytes that it received, and what may be answered to those that another
-- one sent.
use Rattle.std.specs.Prelude.{◌≡◌, ◌⊎◌, ℕ, ◌+◌, ◌<◌, List, ◌++◌, length, Some}
use Rattle.std.specs.List.{AllByRecursion}
use Rattle.branch_names.specs.declared.branch.Branch.{Branch}
use Rattle.branch_names.specs.Heads.{head_of, branch_named, with_branch}
use Rattle.branch_history.specs.declared.moves.Move.{Move}
use Rattle.branch_history.specs.Commits.{Commit}
use Rattle.branch_history.specs.Steps.{Refusal, FullBranches, FullMoves}
use Rattle.branch_machine.specs.Fixed.{Fixed}
use Rattle.branch_machine.specs.Objects.{Pair, address_at, pairs_of, store_after}
use Rattle.branch_machine.specs.Machine.{commit_at}
use Rattle.branch_bundle_laws.specs.Bundles.{Bundle}
use Rattle.branch_bundle_laws.specs.Text.{bundle_text, IsBundle}
use Rattle.branch_bundle_laws.specs.Receiving.{Receipt, NoBundle, Stopped, NotPlaced, Placed}
use Rattle.branch_bundle_laws.specs.Laws.{MayMeet, IsTip}

-- behind more moves all commits stay, under their numbers and with their objects
pub record KeepsCommits {S O R Q A : Type 0} (fixed : Fixed S O R Q A)
    (moves made : List (Move O R)) : Type 0 where
  pub more : List (Commit O R)
  pub commits : (store_after fixed (moves ++ made)).commits
      ≡ (store_after fixed moves).commits ++ more
  pub objects : List Pair
  pub pairs : pairs_of fixed (store_after fixed (moves ++ made)).commits
      ≡ pairs_of fixed (store_after fixed moves).commits ++ objects

-- all branches stay, and maybe one of a name comes behind them
abbrev pub AreKept : List Branch → List ℕ → List Branch → Type 0
AreKept old name new = (new ≡ old) ⊎ ((head : ℕ) × (new ≡ with_branch old name head))

-- Behind more moves all commits and branches stay, and maybe a branch of a name comes.
pub record Keeps {S O R Q A : Type 0} (fixed : Fixed S O R Q A) (moves : List (Move O R))
    (name : List ℕ) (made : List (Move O R)) : Type 0 where
  pub commits : KeepsCommits fixed moves made
  pub branches : AreKept (store_after fixed moves).branches name
      (store_after fixed (moves ++ made)).branches

-- A history has a bundle: each item is a commit of it, with the same bytes; and the branch of this
-- number has the name, and stands at the head, whose address is the tip.
pub record HasBundle {S O R Q A : Type 0} (fixed : Fixed S O R Q A) (moves : List (Move O R))
    (bundle : Bundle) (name : List ℕ) (number head : ℕ) : Type 0 where
  pub items : AllByRecursion (λ item. (n : ℕ) × (commit_at fixed moves item ≡ Some n)) bundle.items
  pub there : head < length (store_after fixed moves).commits
  pub tip : address_at fixed.address (pairs_of fixed (store_after fixed moves).commits) head
      ≡ bundle.tip
  pub named : branch_named (store_after fixed moves).branches name ≡ Some number
  pub stands : head_of (store_after fixed moves).branches number ≡ head

-- so many commits came
abbrev pub HasNew : {S O R Q A : Type 0} → Fixed S O R Q A → List (Move O R) → List (Move O R) → ℕ
    → Type 0
HasNew fixed moves made count = length (store_after fixed (moves ++ made)).commits
    ≡ length (store_after fixed moves).commits + count

-- Where a branch was placed, the bytes are those of a bundle, which the history has now.
abbrev pub HasPlaced : {S O R Q A : Type 0} → Fixed S O R Q A → List (Move O R) → List ℕ → List ℕ
    → List (Move O R) → Receipt → Type 0
HasPlaced fixed moves bytes name made (Placed count number head) = HasNew fixed moves made count
    × (bundle : Bundle) × IsBundle fixed.terms.layout bundle
    × (bytes ≡ bundle_text fixed.terms.layout bundle)
    × HasBundle fixed (moves ++ made) bundle name number head
HasPlaced fixed moves bytes name made receipt = Unit {0}

-- the branches behind a receipt: those before it, and one more where it was placed
abbrev pub branches_behind : List Branch → List ℕ → Receipt → List Branch
branches_behind branches name (Placed count number head) = with_branch branches name head
branches_behind branches name receipt = branches

-- What a history has behind bytes that were received under a name, and answered so: all that it had,
-- and where a branch was placed this one and the bundle.
pub record HasReceived {S O R Q A : Type 0} (fixed : Fixed S O R Q A) (moves : List (Move O R))
    (bytes name : List ℕ) (made : List (Move O R)) (receipt : Receipt) : Type 0 where
  pub commits : KeepsCommits fixed moves made
  pub branches : (store_after fixed (moves ++ made)).branches
      ≡ branches_behind (store_after fixed moves).branches name receipt
  pub placed : HasPlaced fixed moves bytes name made receipt

-- there is no room for a branch, or for a move
abbrev pub IsFull : Refusal → Type 0
IsFull (FullBranches count) = Unit {0}
IsFull (FullMoves count) = Unit {0}
IsFull refusal = ⊥

-- What may be answered to the bytes that a history sent of a tip, by another one that comes to these
-- moves: never that they are no bundle, nor that an item is bad. Where a branch was placed, its head
-- has the objects of the tip.
abbrev pub IsAcceptable : {S O R Q A : Type 0} → Fixed S O R Q A → List (Move O R) → ℕ
    → Fixed S O R Q A → List (Move O R) → Receipt → Type 0
IsAcceptable one moves tip other later NoBundle = ⊥
IsAcceptable one moves tip other later (Stopped item refusal) = MayMeet refusal
IsAcceptable one moves tip other later (NotPlaced refusal) = IsFull refusal
IsAcceptable one moves tip other later (Placed count number head) =
    IsTip one moves tip other later head
