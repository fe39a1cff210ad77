-- Which moves the steps of clients may make.
use Rattle.std.specs.Prelude.{◌≡◌, ℕ, List, slice_get, Some}
use Rattle.std.specs.List.{AllByRecursion}
use Rattle.branch_history.specs.declared.moves.Move.{Move}
use Rattle.branch_history.specs.declared.moves.Move.TheVariants as move
use Rattle.branch_doc.specs.Types.{PlainForms}
use Rattle.branch_script.specs.declared.step.Step.{Step}
use Rattle.branch_script.specs.declared.step.Step.TheVariants.{Fork, Merge, Join, Do, Drop}

-- a move that brings a branch commits
abbrev pub Brings : {O R : Type 0} → Move O R → Type 0
Brings (move.Merge branch commit) = Unit {0}
Brings (move.Forward branch commit) = Unit {0}
Brings (move.Join branch commits) = Unit {0}
Brings made = ⊥

-- A client's step may make the move: an operation, its own; a fork, that of a branch with its name; a merge and a join, any that bring commits; a drop, any. Nothing is
-- said of numbers, commits and replies.
abbrev pub MayMake : {O R Q A : Type 0} → PlainForms O Q R A → Step → Move O R → Type 0
MayMake forms (Do session op) (move.Operation branch operation reply) = forms.op op ≡ Some operation
MayMake forms (Fork new from) (move.Fork name number source) = name ≡ new
MayMake forms (Merge session from) made = Brings made
MayMake forms (Join session from) made = Brings made
MayMake forms (Drop session) (move.Drop branch) = Unit {0}
MayMake forms step made = ⊥

-- each move that a step may make is allowed
abbrev pub AllowsStep : {O R Q A : Type 0} → PlainForms O Q R A → (Move O R → Type 0) → Step → Type 0
AllowsStep {O} {R} forms allows step = (made : Move O R) → MayMake forms step made → allows made

-- of each step of each script
abbrev pub AllowsScripts : {O R Q A : Type 0} → PlainForms O Q R A → (Move O R → Type 0) → List (List Step) → Type 0
AllowsScripts forms allows scripts = AllByRecursion (AllByRecursion (AllowsStep forms allows)) scripts

-- some step of some script may make the move
pub record IsOfScripts {O R Q A : Type 0} (forms : PlainForms O Q R A) (scripts : List (List Step)) (made : Move O R) : Type 0 where
  pub client : ℕ
  pub steps : List Step
  pub is_script : slice_get scripts client ≡ Some steps
  pub place : ℕ
  pub step : Step
  pub is_step : slice_get steps place ≡ Some step
  pub may : MayMake forms step made
