-- What a core, a look and a prepared step are to a contract.
use Rattle.std.specs.Prelude.{ℕ, List}
use Rattle.std.specs.declared.option.Option.{Option}
use Rattle.branch_names.specs.declared.terms.Terms.{Terms}
use Rattle.branch_history.specs.declared.moves.Move.{Move}
use Rattle.branch_history.specs.Steps as machine

-- a core: its history of moves M, and the terms that it was made under
pub record CoreView (M : Type 0) : Type 0 where
  pub history : List M
  pub terms : Terms

-- a core, with the address of each commit's object by number
pub record VersionsView (M : Type 0) : Type 0 where
  pub core : CoreView M
  pub addresses : List (List ℕ)

-- a look: the history and the terms of the core when it was taken, the branch's number and its head
pub record SeenView (M : Type 0) : Type 0 where
  pub history : List M
  pub terms : Terms
  pub branch : ℕ
  pub head : ℕ

-- what a branch is to get: an operation with its reply, a merge of a commit, a join of several, or a commit that its head lies below
pub data Work (O R : Type 0) : Type 0 where
  Operation : O → R → Work O R
  Merge : ℕ → Work O R
  Join : List ℕ → Work O R
  Forward : ℕ → Work O R

-- a work, made on a look
pub record PreparedView (O R : Type 0) : Type 0 where
  pub seen : SeenView (Move O R)
  pub work : Work O R

-- how many bytes the spelling of a value has, and the spelling where it is kept; and those of an operation and its reply
pub record SpelledView : Type 0 where
  pub size : ℕ
  pub value : Option (List ℕ)
  pub op : List ℕ
  pub reply : List ℕ

-- a look and another commit: the history and the terms of the core when they were paired, the branch's number, the head that was seen, and the commit
pub record PairView (M : Type 0) : Type 0 where
  pub history : List M
  pub terms : Terms
  pub branch : ℕ
  pub head : ℕ
  pub other : ℕ

-- the look of a pair, at the history on which it was paired
abbrev pub look_in : {M : Type 0} → PairView M → SeenView M
look_in pair = record { history = pair.history; terms = pair.terms; branch = pair.branch; head = pair.head }

-- a look and other commits: the history and the terms of the core when they were grouped, the branch's number, the head that was seen, and the commits as they were given
pub record GroupView (M : Type 0) : Type 0 where
  pub history : List M
  pub terms : Terms
  pub branch : ℕ
  pub head : ℕ
  pub others : List ℕ

-- a commit of another store that was made anew: the history and the terms of the core then, and the step that receives it
pub record ArrivalView (O R Q : Type 0) : Type 0 where
  pub history : List (Move O R)
  pub terms : Terms
  pub step : machine.Step O Q
