-- The moves that stay where the live commits are marked are the compact history.
use Rattle.std.proofs.Common.{◌≡◌, ℕ, ◌+◌, ◌<◌, ◌^◌, Bool, List, length, refl, ap, ◌∙◌, subst, arith}
use Rattle.std.proofs.Math.Path.{fun_ext}
use Rattle.branch_names.specs.declared.branch.Branch.{Branch}
use Rattle.branch_names.specs.declared.terms.Terms.{Terms}
use Rattle.branch_history.specs.declared.moves.Move.{Move}
use Rattle.branch_history.specs.Commits.{graph_of}
use Rattle.branch_history.specs.History.{Store, store_of}
use Rattle.branch_history.specs.Laws.{IsWithin}
use Rattle.branch_history.proofs.Grown.{length-graph}
use Rattle.branch_compact.specs.Compact.{is_live, kept_moves, compact}
use Rattle.branch_compact.specs.Marks.{IsReadOf, is_marked, is_reached, all_made}
use Rattle.branch_compact.proofs.Moves.{length-commits}

module _ {O R : Type 0} where
  reached-live : (s : Store O R) (n : ℕ) → is_reached (graph_of s.commits) s.branches n ≡ is_live s n
  unfolding is_live
  reached-live s n = refl

  module _ (terms : Terms) (moves given : List (Move O R)) (same : given ≡ moves) (graph : List (List ℕ)) (branches : List Branch) (was : IsReadOf (store_of terms.origin given) graph branches) where
    read : IsReadOf (store_of terms.origin moves) graph branches
    read = subst (λ (l : List (Move O R)). IsReadOf (store_of terms.origin l) graph branches) same was

    -- the marks are on the live commits
    pub marked-live : (slice : List Branch) (marks : List Bool) → slice ≡ branches → ((n : ℕ) → is_marked marks n ≡ is_reached graph slice n) → (n : ℕ) → is_marked marks n ≡ is_live (store_of terms.origin moves) n
    marked-live slice marks view marked n =
        let s : Store O R = store_of terms.origin moves in
        marked n ∙ ap (λ b. is_reached graph b n) view ∙ ap (λ g. is_reached g branches n) read.parents ∙ ap (λ b. is_reached (graph_of s.commits) b n) read.heads ∙ reached-live s n

    -- each commit of the store has its parents in the graph
    pub graph-count : length graph ≡ length (store_of terms.origin moves).commits
    graph-count = ap length read.parents ∙ length-graph (store_of terms.origin moves).commits

  -- where the live commits are marked, the moves that stay are the compact history
  pub live-compact : (terms : Terms) (moves : List (Move O R)) (marks : List Bool) → ((n : ℕ) → is_marked marks n ≡ is_live (store_of terms.origin moves) n) → kept_moves (is_marked marks) moves ≡ compact terms moves
  unfolding compact
  live-compact terms moves marks live = ap (λ (keep : ℕ → Bool). kept_moves keep moves) (fun_ext live)

  module _ (terms : Terms) (moves : List (Move O R)) (within : IsWithin terms moves) where
    -- there are no more commits than there may be
    pub few-commits : length (store_of terms.origin moves).commits < 2 ^ 32
    few-commits = let most = terms.limits.in_range.commits_high in omega (arith, most, within.commits)

    -- and no more are made
    pub made-few : 1 + all_made moves < 2 ^ 32
    made-few = omega (arith, few-commits, length-commits terms.origin moves)
