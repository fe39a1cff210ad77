-- A history without what no branch needs that was not dropped.
use Rattle.std.specs.Prelude.{ℕ, ◌+◌, suc, Bool, true, ◌&&◌, not, cond, List, [], ◌∷◌, length, map, filter}
use Rattle.std.specs.List.{list_any}
use Rattle.branch_graph.specs.Graph.{reaches, falling}
use Rattle.branch_history.specs.declared.moves.Move.{Move}
use Rattle.branch_history.specs.declared.moves.Move.TheVariants as move
use Rattle.branch_names.specs.declared.terms.Terms.{Terms}
use Rattle.branch_history.specs.Commits.{Commit, graph_of}
use Rattle.branch_history.specs.History.{Store, store_of}

-- the commit is live: the head of a branch that was not dropped reaches it
unfoldable pub is_live : {O R : Type 0} → Store O R → ℕ → Bool
is_live s n = list_any (λ b. not b.dropped && reaches (graph_of s.commits) b.head n) s.branches

-- the new number of commit n: how many commits before it are kept
unfoldable pub new_number : (ℕ → Bool) → ℕ → ℕ
new_number keep n = length (filter keep (falling n))

-- how many commits a move makes
abbrev pub commits_made : {O R : Type 0} → Move O R → ℕ
commits_made (move.Operation r op reply) = 1
commits_made (move.Merge r m) = 1
commits_made (move.Join r ms) = 1
commits_made (move.Received parents origin clock act) = 1
commits_made other = 0

-- each move, with the number of commits before it: the number of the commit that it makes, if any
abbrev pub numbered : {O R : Type 0} → ℕ → List (Move O R) → List (ℕ × Move O R)
numbered n [] = []
numbered n (m ∷ ms) = (n, m) ∷ numbered (n + commits_made m) ms

-- a move stays, given the number of commits before it, where the commit is kept that it makes, or
-- moves a head up to; others stay
abbrev pub stays : {O R : Type 0} → (ℕ → Bool) → ℕ → Move O R → Bool
stays keep n (move.Operation r op reply) = keep n
stays keep n (move.Merge r m) = keep n
stays keep n (move.Join r ms) = keep n
stays keep n (move.Received parents origin clock act) = keep n
stays keep n (move.Forward r m) = keep m
stays keep n other = true

-- a move by the new numbers of the commits that it names; a branch placed at a commit that is gone
-- is forked from `main`
abbrev pub renumbered : {O R : Type 0} → (ℕ → Bool) → Move O R → Move O R
renumbered keep (move.Merge r m) = move.Merge r (new_number keep m)
renumbered keep (move.Join r ms) = move.Join r (map (new_number keep) ms)
renumbered keep (move.Forward r m) = move.Forward r (new_number keep m)
renumbered keep (move.Received parents origin clock act) =
    move.Received (map (new_number keep) parents) origin clock act
renumbered keep (move.Place name number n) =
    cond (keep n) (move.Place name number (new_number keep n)) (move.Fork name number 0)
renumbered keep other = other

-- the moves that stay, by the new numbers
unfoldable pub kept_moves : {O R : Type 0} → (ℕ → Bool) → List (Move O R) → List (Move O R)
kept_moves keep moves =
    map (λ p. renumbered keep p.1) (filter (λ p. stays keep p.0 p.1) (numbered 1 moves))

-- the history without the commits that are not live
unfoldable pub compact : {O R : Type 0} → Terms → List (Move O R) → List (Move O R)
compact terms moves = kept_moves (is_live (store_of terms.origin moves)) moves

-- those of a list, whose first has this place, at the places that the test keeps
abbrev pub at_places : {X : Type 0} → (ℕ → Bool) → ℕ → List X → List X
at_places keep n [] = []
at_places keep n (x ∷ xs) =
    cond (keep n) (x ∷ at_places keep (suc n) xs) (at_places keep (suc n) xs)

-- a commit by the new numbers of its parents
abbrev pub renumbered_commit : {O R : Type 0} → (ℕ → Bool) → Commit O R → Commit O R
renumbered_commit keep c = record {
  parents = map (new_number keep) c.parents;
  origin = c.origin;
  clock = c.clock;
  event = c.event;
}

-- the commits that are kept, by the new numbers
abbrev pub kept_commits : {O R : Type 0} → (ℕ → Bool) → List (Commit O R) → List (Commit O R)
kept_commits keep commits = map (renumbered_commit keep) (at_places keep 0 commits)
