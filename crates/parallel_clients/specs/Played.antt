-- What a history has of a client's steps.
use Rattle.std.specs.Prelude.{◌≡◌, ℕ, ◌-◌, ◌<◌, ◌≤◌, ◌⊎◌, List, [], ◌∷◌, length, slice_get, bytes_eq, Some, None, IsSome, IsTrue, if◌then◌else◌}
use Rattle.std.specs.declared.option.Option.{Option}
use mathlib.Core.List.{IsPrefix}
use Rattle.branch_names.specs.Heads.{head_of, branch_named}
use Rattle.branch_graph.specs.Graph.{reaches}
use Rattle.branch_history.specs.declared.moves.Move.{Move}
use Rattle.branch_history.specs.declared.moves.Move.TheVariants as move
use Rattle.branch_history.specs.Commits.{graph_of}
use Rattle.branch_history.specs.History.{store_of}
use Rattle.branch_history.specs.Merging.{brought}
use Rattle.branch_script.specs.declared.step.Step.{Step}
use Rattle.branch_script.specs.declared.step.Step.TheVariants.{Look, Fork, Merge, Join, Do, Ask, Drop}
use Rattle.branch_doc.specs.Types.{PlainForms}

-- the branch of each session's last look, by the number that it had then
abbrev pub Sights : Type 0
Sights = List ℕ → Option ℕ

abbrev pub no_sights : Sights
no_sights session = None

abbrev pub with_sight : Sights → List ℕ → ℕ → Sights
with_sight sights session branch name = if bytes_eq session name then Some branch else sights name

-- the move of a history at a place, counted from 1
abbrev pub IsMoveAt : {M : Type 0} → List M → ℕ → M → Type 0
IsMoveAt moves place made = slice_get moves (place - 1) ≡ Some made

-- the branch of this number had the name, after some first part of a history of a store with this first origin
pub record WasNamed {O R : Type 0} (origin : ℕ) (moves : List (Move O R)) (name : List ℕ) (branch : ℕ) : Type 0 where
  pub before : List (Move O R)
  pub begins : IsPrefix before moves
  pub named : branch_named (store_of origin before).branches name ≡ Some branch

-- its head was this commit then
pub record WasHead {O R : Type 0} (origin : ℕ) (moves : List (Move O R)) (name : List ℕ) (branch commit : ℕ) : Type 0 where
  pub before : List (Move O R)
  pub begins : IsPrefix before moves
  pub named : branch_named (store_of origin before).branches name ≡ Some branch
  pub head : head_of (store_of origin before).branches branch ≡ commit

-- the branch of this number had a name, and this commit for its head, after some first part of a history
abbrev pub HadHead : {O R : Type 0} → ℕ → List (Move O R) → ℕ → ℕ → Type 0
HadHead origin moves branch commit = (name : List ℕ) × WasHead origin moves name branch commit

-- an operation on a session's branch; where there is none, as of a kind that the store lacks, it is nowhere
pub record IsDone {O R : Type 0} (moves : List (Move O R)) (branch : ℕ) (op : Option O) (place : ℕ) : Type 0 where
  pub operation : O
  pub is : op ≡ Some operation
  pub reply : R
  pub made : IsMoveAt moves place (move.Operation branch operation reply)

-- the fork of a new branch from another
pub record IsForked {O R : Type 0} (origin : ℕ) (moves : List (Move O R)) (new from : List ℕ) (place : ℕ) : Type 0 where
  pub number : ℕ
  pub source : ℕ
  pub named : WasNamed origin moves from source
  pub made : IsMoveAt moves place (move.Fork new number source)

-- the merge into a session's branch, or its move up to, of a commit that was the head of another
pub record IsMerged {O R : Type 0} (origin : ℕ) (moves : List (Move O R)) (branch : ℕ) (from : List ℕ) (place : ℕ) : Type 0 where
  pub source : ℕ
  pub commit : ℕ
  pub head : WasHead origin moves from source commit
  pub made : IsMoveAt moves place (move.Merge branch commit) ⊎ IsMoveAt moves place (move.Forward branch commit)

-- these are the heads of the branches that have the names, in order
abbrev pub AreNamedHeads : {O R : Type 0} → ℕ → List (Move O R) → List (List ℕ) → List ℕ → Type 0
AreNamedHeads origin moves [] [] = Unit {0}
AreNamedHeads origin moves [] (head ∷ heads) = ⊥
AreNamedHeads origin moves (name ∷ names) [] = ⊥
AreNamedHeads origin moves (name ∷ names) (head ∷ heads) =
    ((source : ℕ) × (branch_named (store_of origin moves).branches name ≡ Some source) × (head_of (store_of origin moves).branches source ≡ head))
    × AreNamedHeads origin moves names heads

-- these were their heads, after some first part of a history
pub record WereHeads {O R : Type 0} (origin : ℕ) (moves : List (Move O R)) (names : List (List ℕ)) (heads : List ℕ) : Type 0 where
  pub before : List (Move O R)
  pub begins : IsPrefix before moves
  pub are : AreNamedHeads origin before names heads

-- the move that brings a branch some commits: of none there is none; one alone is merged, or moved up to; several are joined
abbrev pub IsMoveOf : {O R : Type 0} → ℕ → List ℕ → Move O R → Type 0
IsMoveOf number [] made = ⊥
IsMoveOf number (m ∷ []) made = (made ≡ move.Merge number m) ⊎ (made ≡ move.Forward number m)
IsMoveOf number (m ∷ k ∷ ks) made = made ≡ move.Join number (m ∷ k ∷ ks)

-- a move that joins into a session's branch: it brings what a merge of commits, which were the heads of others at one time, brings to a head that had been seen then
pub record Joins {O R : Type 0} (origin : ℕ) (moves : List (Move O R)) (branch : ℕ) (from : List (List ℕ)) (made : Move O R) : Type 0 where
  pub head : ℕ
  pub heads : List ℕ
  pub before : List (Move O R)
  pub begins : IsPrefix before moves
  pub seen : HadHead origin before branch head
  pub others : AreNamedHeads origin before from heads
  pub is_move : IsMoveOf branch (brought (graph_of (store_of origin before).commits) head heads) made

-- the join into a session's branch of the heads of others
pub record IsJoined {O R : Type 0} (origin : ℕ) (moves : List (Move O R)) (branch : ℕ) (from : List (List ℕ)) (place : ℕ) : Type 0 where
  pub made : Move O R
  pub joins : Joins origin moves branch from made
  pub at : IsMoveAt moves place made

-- the branch of this number has the name
abbrev pub HasNumber : {O R : Type 0} → ℕ → List ℕ → ℕ → List (Move O R) → Type 0
HasNumber origin name number moves = branch_named (store_of origin moves).branches name ≡ Some number

-- some branch has the name
abbrev pub HasBranch : {O R : Type 0} → ℕ → List ℕ → List (Move O R) → Type 0
HasBranch origin name moves = (number : ℕ) × HasNumber origin name number moves

-- some branch has the name, and there is a query, as there is none of a kind that the store lacks
abbrev pub IsAsked : {O R Q : Type 0} → ℕ → List ℕ → Option Q → List (Move O R) → Type 0
IsAsked origin name query moves = HasBranch origin name moves × IsSome query

-- a branch cannot be forked from another, which is there, since some branch has its name
abbrev pub IsTaken : {O R : Type 0} → ℕ → List ℕ → List ℕ → List (Move O R) → Type 0
IsTaken origin new from moves = HasBranch origin new moves × HasBranch origin from moves

-- the head of a session's branch reaches the head of another; a session's branch that was dropped has the last head that it had
pub record IsReached {O R : Type 0} (origin branch : ℕ) (from : List ℕ) (moves : List (Move O R)) : Type 0 where
  pub source : ℕ
  pub other : branch_named (store_of origin moves).branches from ≡ Some source
  pub reached : IsTrue (reaches (graph_of (store_of origin moves).commits) (head_of (store_of origin moves).branches branch) (head_of (store_of origin moves).branches source))

-- a merge of the heads of these branches brings nothing to the head of a session's branch, to that of a dropped one as in the case of one other
pub record BringsNothing {O R : Type 0} (origin branch : ℕ) (from : List (List ℕ)) (moves : List (Move O R)) : Type 0 where
  pub heads : List ℕ
  pub others : AreNamedHeads origin moves from heads
  pub nothing : brought (graph_of (store_of origin moves).commits) (head_of (store_of origin moves).branches branch) heads ≡ []

-- the first of the places is such a one, behind the last, and the others go on from it
abbrev pub TakesOne : (ℕ → Type 0) → (ℕ → List ℕ → Type 0) → ℕ → List ℕ → Type 0
TakesOne Is Rest last [] = ⊥
TakesOne Is Rest last (place ∷ places) = (last < place) × Is place × Rest place places

-- this holds after some first part of a history, which has the last place, and the places go on from its length
pub record TakesNone {M : Type 0} (moves : List M) (Holds : List M → Type 0) (Rest : ℕ → List ℕ → Type 0) (last : ℕ) (places : List ℕ) : Type 0 where
  pub before : List M
  pub begins : IsPrefix before moves
  pub behind : last ≤ length before
  pub here : Holds before
  pub rest : Rest (length before) places

-- what a session that sees a branch does; one that sees none does nothing
abbrev pub IfSees : Option ℕ → (ℕ → Type 0) → Type 0
IfSees None Does = ⊥
IfSees (Some branch) Does = Does branch

-- the moves of a history at these places, behind the last one, are those of the steps, in order, where sessions see this at first and that at the end, in a store with this first origin
abbrev pub PlayedFrom : {O R Q A : Type 0} → PlainForms O Q R A → ℕ → List (Move O R) → List Step → Sights → Sights → ℕ → List ℕ → Type 0
PlayedFrom forms origin moves [] sights after last places = (places ≡ []) × (sights ≡ after)
PlayedFrom forms origin moves (Look session branch ∷ steps) sights after last places =
    (number : ℕ) × TakesNone moves (HasNumber origin branch number) (PlayedFrom forms origin moves steps (with_sight sights session number) after) last places
PlayedFrom forms origin moves (Ask branch query ∷ steps) sights after last places = TakesNone moves (IsAsked origin branch (forms.query query)) (PlayedFrom forms origin moves steps sights after) last places
PlayedFrom forms origin moves (Do session op ∷ steps) sights after last places =
    IfSees (sights session) (λ branch. TakesOne (IsDone moves branch (forms.op op)) (PlayedFrom forms origin moves steps sights after) last places)
PlayedFrom forms origin moves (Fork new from ∷ steps) sights after last places =
    TakesOne (IsForked origin moves new from) (PlayedFrom forms origin moves steps sights after) last places
    ⊎ TakesNone moves (IsTaken origin new from) (PlayedFrom forms origin moves steps sights after) last places
PlayedFrom forms origin moves (Merge session from ∷ steps) sights after last places =
    IfSees (sights session) (λ branch.
    TakesOne (IsMerged origin moves branch from) (PlayedFrom forms origin moves steps sights after) last places
    ⊎ TakesNone moves (IsReached origin branch from) (PlayedFrom forms origin moves steps sights after) last places)
PlayedFrom forms origin moves (Join session from ∷ steps) sights after last places =
    IfSees (sights session) (λ branch.
    TakesOne (IsJoined origin moves branch from) (PlayedFrom forms origin moves steps sights after) last places
    ⊎ TakesNone moves (BringsNothing origin branch from) (PlayedFrom forms origin moves steps sights after) last places)
PlayedFrom forms origin moves (Drop session ∷ steps) sights after last places =
    IfSees (sights session) (λ branch. TakesOne (λ place. IsMoveAt moves place (move.Drop branch)) (PlayedFrom forms origin moves steps sights after) last places)

-- The moves of a history of a store with this first origin at these places, behind its first so many, are those of a client's steps, in order: one for each operation; one for each fork, or none where
-- the name is taken; one for each merge and each join, or none where there is nothing to merge; one for each drop, of its session's branch. A look and a query make none; an
-- operation or a query of a kind that the store lacks is never done. Each step that makes none was
-- done after some first part of the history, no shorter than that of the step before it: of a look and a query, one that has the branch. A session's branch is the one that had the name at its last
-- look, also where another has the name later. Behind the steps the sessions see this.
unfoldable pub PlayedTo : {O R Q A : Type 0} → PlainForms O Q R A → ℕ → ℕ → List Step → List ℕ → List (Move O R) → Sights → Type 0
PlayedTo forms origin begun steps places moves after = PlayedFrom forms origin moves steps no_sights after begun places

-- and they see something
abbrev pub Played : {O R Q A : Type 0} → PlainForms O Q R A → ℕ → ℕ → List Step → List ℕ → List (Move O R) → Type 0
Played forms origin begun steps places moves = (after : Sights) × PlayedTo forms origin begun steps places moves after

-- what a history has of a client's steps, each longer one has
abbrev pub StaysPlayed : {O R Q A : Type 0} → PlainForms O Q R A → Type 0
StaysPlayed {O} {R} forms = (origin : ℕ) (moves later : List (Move O R)) (begun : ℕ) (steps : List Step) (places : List ℕ) → IsPrefix moves later → Played forms origin begun steps places moves → Played forms origin begun steps places later
