-- The parents of each commit and the branches, read one move after the other.
use Rattle.std.proofs.Common.{◌≡◌, ℕ, ◌+◌, ◌<◌, ◌≤◌, List, [], ◌∷◌, ◌++◌, length, take, drop, get_or, ap, sym, ◌∙◌, subst, arith, take-append-drop}
use Rattle.std.specs.Prelude.{All}
use Rattle.std.specs.List.{AllByRecursion}
use Rattle.std.specs.Option.{option_map_or}
use Rattle.std.proofs.lemmas.List.{map-append, take_more, drop_more}
use Rattle.std.proofs.lemmas.Option.{slice_get-get_or}
use Rattle.mrdt_model.specs.Laws.{Meaning}
use Rattle.branch_names.specs.declared.branch.Branch.{Branch}
use Rattle.branch_names.specs.declared.terms.Terms.{Terms}
use Rattle.branch_names.specs.Heads.{head_of, with_head, with_branch, with_drop}
use Rattle.branch_graph.proofs.Ranked.{All-from_AllByRecursion}
use Rattle.branch_history.specs.declared.moves.Move.{Move}
use Rattle.branch_history.specs.declared.moves.Move.TheVariants as move
use Rattle.branch_history.specs.Commits.{Commit, graph_of}
use Rattle.branch_history.specs.History.{Store, new_store, after_move, store_of, operation_commit, merge_commit, received_commit}
use Rattle.branch_history.specs.Laws.{IsOrdered}
use Rattle.branch_history.proofs.Grown.{length-graph}
use Rattle.branch_history.proofs.Histories.{received-stand}
use Rattle.branch_history.specs.Validity.{IsMove, IsValid}
use Rattle.branch_history.proofs.Valid.{IsValidAfter-append, IsValid-first, IsValid-more, IsAccepted, IsAccepted-from, store_of-more, store_of-none}
use Rattle.branch_compact.specs.Compact.{commits_made}
use Rattle.branch_compact.specs.Marks.{IsReadOf, HasHead, HasParts, parents_after, branches_after}
use Rattle.branch_compact.proofs.Moves.{length-after}

module _ {O R : Type 0} where
  -- one commit more
  graph-more : (commits : List (Commit O R)) (c : Commit O R) → graph_of (commits ++ c ∷ []) ≡ graph_of commits ++ c.parents ∷ []
  graph-more commits c = map-append (λ c. c.parents) commits (c ∷ [])

  -- what is read of a store before any move
  pub read-none : (first : ℕ) (graph : List (List ℕ)) (branches : List Branch) → graph ≡ [] ∷ [] → branches ≡ (new_store {O = O} {R = R}).branches → IsReadOf (store_of {O = O} {R = R} first []) graph branches
  read-none first graph branches is_graph is_branches = record {
    parents = is_graph ∙ sym (ap (λ (s : Store O R). graph_of s.commits) (store_of-none first));
    heads = is_branches ∙ sym (ap (λ (s : Store O R). s.branches) (store_of-none first));
  }

  module _ (first : ℕ) (s : Store O R) (graph : List (List ℕ)) (branches : List Branch) (read : IsReadOf s graph branches) where
    -- a commit becomes the head of a branch
    commit-read : (r : ℕ) (c : Commit O R) → IsReadOf (record { commits = s.commits ++ c ∷ []; branches = with_head s.branches r (length s.commits) }) (graph ++ c.parents ∷ []) (with_head branches r (length graph))
    commit-read r c = record {
      parents = ap (λ g. g ++ c.parents ∷ []) read.parents ∙ sym (graph-more s.commits c);
      heads = ap (λ b. with_head b r (length graph)) read.heads ∙ ap (with_head s.branches r) (ap length read.parents ∙ length-graph s.commits);
    }

    head-read : (r : ℕ) → head_of s.branches r ≡ head_of branches r
    head-read r = ap (λ b. head_of b r) (sym read.heads)

    move-read : (m : Move O R) → IsReadOf (after_move first s m) (parents_after graph branches m) (branches_after graph branches m)
    move-read (move.Fork name number from) = record {
      parents = read.parents;
      heads = ap (with_branch branches name) (sym (head-read from)) ∙ ap (λ b. with_branch b name (head_of s.branches from)) read.heads;
    }
    move-read (move.Operation r op reply) =
        subst (λ (h : ℕ). IsReadOf (after_move first s (move.Operation r op reply)) (graph ++ (h ∷ []) ∷ []) (with_head branches r (length graph))) (head-read r)
        (commit-read r (operation_commit s.commits (first + r) (head_of s.branches r) op reply))
    move-read (move.Merge r m) =
        subst (λ (h : ℕ). IsReadOf (after_move first s (move.Merge r m)) (graph ++ (h ∷ m ∷ []) ∷ []) (with_head branches r (length graph))) (head-read r)
        (commit-read r (merge_commit s.commits (first + r) (head_of s.branches r ∷ m ∷ [])))
    move-read (move.Join r ms) =
        subst (λ (h : ℕ). IsReadOf (after_move first s (move.Join r ms)) (graph ++ (h ∷ ms) ∷ []) (with_head branches r (length graph))) (head-read r)
        (commit-read r (merge_commit s.commits (first + r) (head_of s.branches r ∷ ms)))
    move-read (move.Forward r m) = record { parents = read.parents; heads = ap (λ b. with_head b r m) read.heads }
    move-read (move.Received parents origin clock act) = record {
      parents = ap (λ g. g ++ parents ∷ []) read.parents ∙ sym (graph-more s.commits (received_commit s.commits parents origin clock act));
      heads = read.heads;
    }
    move-read (move.Place name number n) = record { parents = read.parents; heads = ap (λ b. with_branch b name n) read.heads }
    move-read (move.Drop r) = record { parents = read.parents; heads = ap (λ b. with_drop b r) read.heads }

-- a move of the machine names branches and commits that are there
module _ {S O R Q A : Type 0} (meaning : Meaning S O R Q A) (terms : Terms) (moves : List (Move O R)) (ordered : IsOrdered terms (store_of terms.origin moves)) where
  abbrev s : Store O R
  s = store_of terms.origin moves

  abbrev g : List (List ℕ)
  g = graph_of s.commits

  there-head : (r : ℕ) → r < length s.branches → HasHead g s.branches r
  there-head r lt = record { there = lt; head = let h = ordered.heads r lt in omega (arith, h, length-graph s.commits) }

  there-all : (ns : List ℕ) → AllByRecursion (λ n. n < length s.commits) ns → All (λ n. n < length g) ns
  there-all ns all = All-from_AllByRecursion (λ n. n < length g) ns (subst (λ (k : ℕ). AllByRecursion (λ n. n < k) ns) (sym (length-graph s.commits)) all)

  parts-there : (m : Move O R) → IsAccepted meaning terms moves m → HasParts g s.branches m
  parts-there (move.Fork name number from) is = is.there.0
  parts-there (move.Operation r op reply) is = there-head r is.there
  parts-there (move.Merge r m) is = let stands = is.stands in (there-head r is.there, omega (arith, stands, length-graph s.commits))
  parts-there (move.Join r ms) is = (there-head r is.there, there-all ms is.stands)
  parts-there (move.Forward r m) is = is.there
  parts-there (move.Received parents origin clock act) is = there-all parents (received-stand meaning terms moves parents origin clock act is)
  parts-there (move.Place name number n) is = tt
  parts-there (move.Drop r) is = is.there

  pub parts-read : (graph : List (List ℕ)) (branches : List Branch) (m : Move O R) → IsReadOf s graph branches → IsAccepted meaning terms moves m → HasParts graph branches m
  parts-read graph branches m read is =
      subst (λ (b : List Branch). HasParts graph b m) (sym read.heads) (subst (λ (h : List (List ℕ)). HasParts h s.branches m) (sym read.parents) (parts-there m is))

-- the next move of a valid history
module _ {S O R Q A : Type 0} (meaning : Meaning S O R Q A) (terms : Terms) (moves : List (Move O R)) (i : ℕ) (m : Move O R) (lt : i < length moves) (at : m ≡ get_or moves i m) (valid : IsValid meaning terms moves) where
  next-taken : take (i + 1) moves ≡ take i moves ++ m ∷ []
  next-taken = take_more moves i m lt ∙ ap (λ k. take i moves ++ k ∷ []) (sym at)

  split : take i moves ++ m ∷ drop (i + 1) moves ≡ moves
  split = ap (λ k. take i moves ++ k ∷ drop (i + 1) moves) at ∙ ap (λ l. take i moves ++ l) (sym (drop_more moves i m lt)) ∙ take-append-drop i moves

  next-is : IsMove meaning terms (take i moves) m
  unfolding IsValid
  next-is = (IsValidAfter-append meaning terms [] (take i moves) (m ∷ drop (i + 1) moves) (subst (λ (l : List (Move O R)). IsValid meaning terms l) (sym split) valid)).1.0

  pub first-valid : IsValid meaning terms (take i moves)
  first-valid = IsValid-first meaning terms (take i moves) (m ∷ drop (i + 1) moves) (subst (λ (l : List (Move O R)). IsValid meaning terms l) (sym split) valid)

  pub next-valid : IsValid meaning terms (take (i + 1) moves)
  next-valid = subst (λ (l : List (Move O R)). IsValid meaning terms l) (sym next-taken) (IsValid-more meaning terms (take i moves) m first-valid next-is)

  pub next-accepted : IsAccepted meaning terms (take i moves) m
  next-accepted = IsAccepted-from meaning terms (take i moves) m next-is

  next-store : store_of terms.origin (take (i + 1) moves) ≡ after_move terms.origin (store_of terms.origin (take i moves)) m
  next-store = ap (store_of terms.origin) next-taken ∙ store_of-more terms.origin (take i moves) m

  -- there is room for its commit
  pub next-room : (graph : List (List ℕ)) (branches : List Branch) → IsReadOf (store_of terms.origin (take i moves)) graph branches → length (store_of terms.origin (take (i + 1) moves)).commits ≤ terms.limits.commits
      → length graph + commits_made m ≤ terms.limits.commits
  next-room graph branches read within =
      let before : Store O R = store_of terms.origin (take i moves) in
      let size : length (store_of terms.origin (take (i + 1) moves)).commits ≡ length before.commits + commits_made m = ap (λ (s : Store O R). length s.commits) next-store ∙ length-after terms.origin before m in
      omega (arith, size, within, ap length read.parents, length-graph before.commits)

  -- what is read with it
  pub next-read : (graph after : List (List ℕ)) (branches moved : List Branch) → IsReadOf (store_of terms.origin (take i moves)) graph branches
      → after ≡ parents_after graph branches m → moved ≡ branches_after graph branches m → IsReadOf (store_of terms.origin (take (i + 1) moves)) after moved
  next-read graph after branches moved read parents heads =
      let whole = subst (λ (s : Store O R). IsReadOf s (parents_after graph branches m) (branches_after graph branches m)) (sym next-store) (move-read terms.origin (store_of terms.origin (take i moves)) graph branches read m) in
      record { parents = parents ∙ whole.parents; heads = heads ∙ whole.heads }

-- the heads of all branches are there
pub heads-there : {O R : Type 0} (terms : Terms) (moves given : List (Move O R)) → given ≡ moves → IsOrdered terms (store_of terms.origin moves) → (graph : List (List ℕ)) (branches slice : List Branch)
    → IsReadOf (store_of terms.origin given) graph branches → slice ≡ branches → All (λ b. b.head < length graph) slice
heads-there {O} {R} terms moves given same ordered graph branches slice was view k d lt =
    let s : Store O R = store_of terms.origin moves in
    let read : IsReadOf s graph branches = subst (λ (l : List (Move O R)). IsReadOf (store_of terms.origin l) graph branches) same was in
    let b : Branch = get_or slice k d in
    let at : head_of s.branches k ≡ b.head = ap (λ l. head_of l k) (sym read.heads ∙ sym view) ∙ ap (λ o. option_map_or (λ (x : Branch). x.head) o 0) (slice_get-get_or slice k d lt) in
    let head = ordered.heads k (omega (arith, lt, ap length read.heads, ap length view)) in
    omega (arith, at, head, ap length read.parents, length-graph s.commits)
