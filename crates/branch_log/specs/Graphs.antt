-- A history as a graph in the language DOT.
use Rattle.std.specs.Prelude.{ℕ, suc, Option, None, Some, List, [], ◌∷◌, ◌++◌, codes, decimal, if◌then◌else◌}
use Rattle.std.specs.List.{flat_map}
use Rattle.mrdt_model.specs.Executions.{Event}
use Rattle.branch_names.specs.declared.branch.Branch.{Branch}
use Rattle.branch_history.specs.Commits.{Commit}
use Rattle.branch_history.specs.History.{Store}
use Rattle.branch_print.specs.Texts.{time_text, line_end}

-- the texts of the items of a list, of which the first has this number
abbrev pub numbered : {X : Type 0} → (ℕ → X → List ℕ) → ℕ → List X → List ℕ
numbered text number [] = []
numbered text number (x ∷ xs) = text number x ++ numbered text (suc number) xs

-- the time of an operation behind the number of its commit
abbrev pub label_time : {O R : Type 0} → Option (Event O R) → List ℕ
label_time None = []
label_time (Some e) = codes " " ++ time_text e.time

-- an edge to a parent
abbrev pub edge_text : ℕ → ℕ → List ℕ
edge_text number parent = codes "  c" ++ decimal number ++ codes " -> c" ++ decimal parent ++ codes ";" ++ line_end

-- a commit: its node, and an edge to each of its parents
abbrev pub commit_node : {O R : Type 0} → ℕ → Commit O R → List ℕ
commit_node number c =
    codes "  c" ++ decimal number ++ codes " [label=\"#" ++ decimal number ++ label_time c.event ++ codes "\"];" ++ line_end
    ++ flat_map (edge_text number) c.parents

-- a branch: its node, and an edge to its head
abbrev pub head_node : ℕ → List ℕ → ℕ → List ℕ
head_node number name head =
    codes "  b" ++ decimal number ++ codes " [label=\"" ++ name ++ codes "\" shape=box];" ++ line_end
    ++ codes "  b" ++ decimal number ++ codes " -> c" ++ decimal head ++ codes ";" ++ line_end

-- a branch that was dropped has none
abbrev pub branch_node : ℕ → Branch → List ℕ
branch_node number b = if b.dropped then [] else head_node number b.name b.head

-- all commits by rising number, and the edges of each right behind it
abbrev pub commits_text : {O R : Type 0} → List (Commit O R) → List ℕ
commits_text commits = numbered commit_node 0 commits

-- the branches by number
abbrev pub branches_text : List Branch → List ℕ
branches_text branches = numbered branch_node 0 branches

-- the history of a store
unfoldable pub graph_text : {O R : Type 0} → Store O R → List ℕ
graph_text store =
    codes "digraph history {" ++ line_end ++ commits_text store.commits ++ branches_text store.branches ++ codes "}" ++ line_end
