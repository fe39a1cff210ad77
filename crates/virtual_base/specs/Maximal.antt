-- Which commits of a list lie below no other of it.
use Rattle.std.specs.Prelude.{◌≡◌, ℕ, ◌<◌, Bool, false, ◌&&◌, ◌==◌, not, List, length, filter, reverse}
use Rattle.std.specs.List.{list_any, AllByRecursion}
use Rattle.branch_graph.specs.Graph.{falling}
use Rattle.branch_history.specs.Laws.{IsRising}
use Rattle.branch_history.specs.Merging.{is_below}
use Rattle.virtual_base.specs.Nodes.{NodesView}

-- the commit is one of the list and lies below no other of it
abbrev pub is_maximal_of : List (List ℕ) → List ℕ → ℕ → Bool
is_maximal_of graph ns n = list_any (λ k. k == n) ns && not (is_below graph ns n)

-- the commits of a list that lie below no other of it, each once, by rising number
unfoldable pub maximal_of : List (List ℕ) → List ℕ → List ℕ
maximal_of graph ns = reverse (filter (is_maximal_of graph ns) (falling (length graph)))

-- of a list of commits of these nodes
abbrev pub maximal_at : {S : Type 0} → NodesView S → List ℕ → List ℕ
maximal_at nodes ns = maximal_of nodes.graph.commits ns

-- rising commits none of which lies below another are all of them maximal
abbrev pub KeepsMaximal : Type 0
KeepsMaximal =
    (graph : List (List ℕ)) (ns : List ℕ) → IsRising ns → AllByRecursion (λ n. n < length graph) ns → AllByRecursion (λ n. is_below graph ns n ≡ false) ns → maximal_of graph ns ≡ ns
