-- Which of several commits a merge brings, by their places.
use Rattle.std.specs.Prelude.{◌≡◌, ℕ, false, List, get_or, nat_eq, take}
use Rattle.std.specs.List.{list_any}
use Rattle.branch_graph.specs.Graph.{reaches}
use Rattle.branch_history.specs.Merging.{is_below}

-- the commit at this place is not there before, commit h does not reach it, and it lies below no other one
pub record IsBroughtAt (graph : List (List ℕ)) (h : ℕ) (ns : List ℕ) (place : ℕ) : Type 0 where
  pub first : list_any (λ k. nat_eq k (get_or ns place 0)) (take place ns) ≡ false
  pub above : reaches graph h (get_or ns place 0) ≡ false
  pub below : is_below graph ns (get_or ns place 0) ≡ false
