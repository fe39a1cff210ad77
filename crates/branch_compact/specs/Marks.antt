-- What a program holds of a history to compact it: the parents of each commit with the branches,
-- and marks of commits.
use Rattle.std.specs.Prelude.{◌≡◌, ℕ, ◌+◌, ◌<◌, ◌≤◌, Bool, true, false, ◌&&◌, ◌==◌, not, All, List, [], ◌∷◌, ◌++◌, length, get_or}
use Rattle.std.specs.List.{list_any}
use Rattle.branch_names.specs.declared.branch.Branch.{Branch}
use Rattle.branch_names.specs.Heads.{head_of, with_head, with_branch, with_drop}
use Rattle.branch_graph.specs.Graph.{reaches}
use Rattle.branch_history.specs.declared.moves.Move.{Move}
use Rattle.branch_history.specs.declared.moves.Move.TheVariants as move
use Rattle.branch_history.specs.Commits.{graph_of}
use Rattle.branch_history.specs.History.{Store}
use Rattle.branch_compact.specs.Compact.{new_number, commits_made}

-- the parents of each commit, and the branches, are those of the store
pub record IsReadOf {O R : Type 0} (s : Store O R) (graph : List (List ℕ)) (branches : List Branch)
    : Type 0 where
  pub parents : graph ≡ graph_of s.commits
  pub heads : branches ≡ s.branches

-- the branch is there, and so is its head
pub record HasHead (graph : List (List ℕ)) (branches : List Branch) (r : ℕ) : Type 0 where
  pub there : r < length branches
  pub head : head_of branches r < length graph

-- the branches and commits that a move names are there
abbrev pub HasParts : {O R : Type 0} → List (List ℕ) → List Branch → Move O R → Type 0
HasParts graph branches (move.Fork name number from) = from < length branches
HasParts graph branches (move.Operation r op reply) = HasHead graph branches r
HasParts graph branches (move.Merge r m) = HasHead graph branches r × (m < length graph)
HasParts graph branches (move.Join r ms) = HasHead graph branches r × All (λ m. m < length graph) ms
HasParts graph branches (move.Forward r m) = r < length branches
HasParts graph branches (move.Received parents origin clock act) =
    All (λ m. m < length graph) parents
HasParts graph branches (move.Place name number n) = Unit {0}
HasParts graph branches (move.Drop r) = r < length branches

-- the parents of each commit after one more move
abbrev pub parents_after : {O R : Type 0} → List (List ℕ) → List Branch → Move O R → List (List ℕ)
parents_after graph branches (move.Operation r op reply) = graph ++ (head_of branches r ∷ []) ∷ []
parents_after graph branches (move.Merge r m) = graph ++ (head_of branches r ∷ m ∷ []) ∷ []
parents_after graph branches (move.Join r ms) = graph ++ (head_of branches r ∷ ms) ∷ []
parents_after graph branches (move.Received parents origin clock act) = graph ++ parents ∷ []
parents_after graph branches other = graph

-- the branches after it
abbrev pub branches_after : {O R : Type 0} → List (List ℕ) → List Branch → Move O R → List Branch
branches_after graph branches (move.Fork name number from) =
    with_branch branches name (head_of branches from)
branches_after graph branches (move.Operation r op reply) = with_head branches r (length graph)
branches_after graph branches (move.Merge r m) = with_head branches r (length graph)
branches_after graph branches (move.Join r ms) = with_head branches r (length graph)
branches_after graph branches (move.Forward r m) = with_head branches r m
branches_after graph branches (move.Received parents origin clock act) = branches
branches_after graph branches (move.Place name number n) = with_branch branches name n
branches_after graph branches (move.Drop r) = with_drop branches r

-- the commit is marked: none is past the last mark
abbrev pub is_marked : List Bool → ℕ → Bool
is_marked marks n = get_or marks n false

-- the commit is the head of a branch that was not dropped
abbrev pub is_kept_head : List Branch → ℕ → Bool
is_kept_head branches n = list_any (λ b. not b.dropped && (b.head == n)) branches

-- the head of a branch reaches it that was not dropped
abbrev pub is_reached : List (List ℕ) → List Branch → ℕ → Bool
is_reached graph branches n = list_any (λ b. not b.dropped && reaches graph b.head n) branches

-- the new marks are on the commits that those with old marks reach
pub record AreMarkedBelow (graph : List (List ℕ)) (old new : List Bool) : Type 0 where
  pub reached : (n m : ℕ) → is_marked old n ≡ true → reaches graph n m ≡ true
      → is_marked new m ≡ true
  pub only : (m : ℕ) → is_marked new m ≡ true
      → (n : ℕ) × (is_marked old n ≡ true) × (reaches graph n m ≡ true)

-- the new number of each commit, and of one behind the last, where the marked ones are kept
pub record AreNumbered (marks : List Bool) (numbers : List ℕ) : Type 0 where
  pub count : length numbers ≡ length marks + 1
  pub each : (n : ℕ) → n ≤ length marks → get_or numbers n 0 ≡ new_number (is_marked marks) n

-- how many commits moves make
abbrev pub all_made : {O R : Type 0} → List (Move O R) → ℕ
all_made [] = 0
all_made (m ∷ ms) = commits_made m + all_made ms
