-- Laws of graphs.
use Rattle.std.specs.Prelude.{◌≡◌, ℕ, ◌||◌, ◌==◌, List}
use Rattle.branch_graph.specs.Graph.{parents_of, IsRanked, reaches, any_reaches}

-- where parents have smaller numbers, a commit reaches itself, and what some parent of it reaches
abbrev pub ReachesByParents : Type 0
ReachesByParents = (graph : List (List ℕ)) → IsRanked graph → (n m : ℕ) → reaches graph n m ≡ ((n == m) || any_reaches graph (parents_of graph n) m)
