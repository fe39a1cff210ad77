-- What holds of every valid history and the compact one.
use Rattle.std.specs.Prelude.{◌≡◌, ℕ, ◌+◌, ◌<◌, ◌≤◌, true, false, List, [], ◌∷◌, ◌++◌, length, slice_get, filter, IsTrue}
use Rattle.std.specs.List.{filter_map}
use Rattle.mrdt_model.specs.Laws.{Meaning}
use Rattle.branch_graph.specs.Graph.{reaches, falling}
use Rattle.branch_history.specs.declared.moves.Move.{Move}
use Rattle.branch_names.specs.declared.terms.Terms.{Terms}
use Rattle.branch_names.specs.declared.branch.Branch.{Branch}
use Rattle.branch_names.specs.Heads.{name_of, head_of, is_dropped}
use Rattle.branch_history.specs.Commits.{graph_of, origin_of, visible}
use Rattle.branch_history.specs.History.{Store, store_of}
use Rattle.branch_history.specs.Validity.{IsValid}
use Rattle.branch_names.specs.Heads.{IsKeptBranch}
use Rattle.branch_machine.specs.Fixed.{Fixed, fix}
use Rattle.branch_machine.specs.Objects.{Pair, value_text, commit_text, pairs_of, store_after, objects_text}
use Rattle.branch_machine.specs.Laws.{HasSize}
use Rattle.branch_machine.specs.Validity.{IsFullMove, IsFullyValid}
use Rattle.branch_disk.specs.Disk.{Files}
use Rattle.branch_files.specs.Records.{history_text}
use Rattle.branch_files.specs.Stands.{Stands}
use Rattle.branch_files.specs.Reading.{Opens, ReadsAs}
use Rattle.branch_compact.specs.Compact.{is_live, new_number, stays, renumbered, kept_moves, at_places, kept_commits, compact}

-- the branches have the same numbers and names, and the same are dropped
pub record HaveSameNames (before after : List Branch) : Type 0 where
  pub count : length after ≡ length before
  pub names : (r : ℕ) → name_of after r ≡ name_of before r
  pub dropped : (r : ℕ) → is_dropped after r ≡ is_dropped before r

-- the objects of the commits that commit h reaches, the greatest number's first
abbrev pub pairs_below : List Pair → List (List ℕ) → ℕ → List Pair
pairs_below pairs graph h =
    filter_map (slice_get pairs) (filter (reaches graph h) (falling (length pairs)))

-- branch r sees the same events, and its head has the same value and the same objects, and so has
-- all that it reaches
pub record HasSameHead {S O R Q A : Type 0} (fixed : Fixed S O R Q A) (s t : Store O R) (r : ℕ)
    : Type 0 where
  pub number : head_of t.branches r ≡ new_number (is_live s) (head_of s.branches r)
  pub visible : visible t.commits (head_of t.branches r) ≡ visible s.commits (head_of s.branches r)
  pub value : value_text (pairs_of fixed t.commits) (head_of t.branches r)
      ≡ value_text (pairs_of fixed s.commits) (head_of s.branches r)
  pub commit : commit_text (pairs_of fixed t.commits) (head_of t.branches r)
      ≡ commit_text (pairs_of fixed s.commits) (head_of s.branches r)
  pub reach : pairs_below (pairs_of fixed t.commits) (graph_of t.commits) (head_of t.branches r)
      ≡ pairs_below (pairs_of fixed s.commits) (graph_of s.commits) (head_of s.branches r)

-- the compact history of a valid one is valid
abbrev pub CompactsValid : {S O R Q A : Type 0} → Meaning S O R Q A → Type 0
CompactsValid {S} {O} {R} m =
    (terms : Terms) (moves : List (Move O R)) → IsValid m terms moves
    → IsValid m terms (compact terms moves)

-- and so where objects are kept
abbrev pub CompactsFullyValid : {S O R Q A : Type 0} → Meaning S O R Q A → Type 0
CompactsFullyValid {S} {O} {R} m =
    (terms : Terms) (address : List ℕ → List ℕ) (moves : List (Move O R))
    → IsFullyValid (fix m terms address) moves
    → IsFullyValid (fix m terms address) (compact terms moves)

-- its commits are those that are live, in order, and its branches have the same names
abbrev pub KeepsLiveCommits : {S O R Q A : Type 0} → Meaning S O R Q A → Type 0
KeepsLiveCommits {S} {O} {R} m =
    (terms : Terms) (moves : List (Move O R)) → IsValid m terms moves
    → let s = store_of terms.origin moves in
    let t = store_of terms.origin (compact terms moves) in
    (t.commits ≡ kept_commits (is_live s) s.commits) × HaveSameNames s.branches t.branches

-- no object changes: the objects of the commits are those that they had
abbrev pub KeepsObjects : {S O R Q A : Type 0} → Meaning S O R Q A → Type 0
KeepsObjects {S} {O} {R} m =
    (terms : Terms) (address : List ℕ → List ℕ) (moves : List (Move O R))
    → let fixed = fix m terms address in
    let s = store_after fixed moves in
    IsFullyValid fixed moves
    → pairs_of fixed (store_after fixed (compact terms moves)).commits
    ≡ at_places (is_live s) 0 (pairs_of fixed s.commits)

-- a branch that was not dropped shows what it showed
abbrev pub KeepsHeads : {S O R Q A : Type 0} → Meaning S O R Q A → Type 0
KeepsHeads {S} {O} {R} m =
    (terms : Terms) (address : List ℕ → List ℕ) (moves : List (Move O R))
    → let fixed = fix m terms address in
    let s = store_after fixed moves in
    IsFullyValid fixed moves → (r : ℕ) → IsKeptBranch s.branches r
    → HasSameHead fixed s (store_after fixed (compact terms moves)) r

-- a commit that was made on a branch that was not dropped is live
abbrev pub KeepsOwnCommits : {S O R Q A : Type 0} → Meaning S O R Q A → Type 0
KeepsOwnCommits {S} {O} {R} m =
    (terms : Terms) (address : List ℕ → List ℕ) → HasSize address
    → (moves : List (Move O R)) → IsFullyValid (fix m terms address) moves
    → let s = store_of terms.origin moves in
    (n r : ℕ) → 0 < n → n < length s.commits → IsKeptBranch s.branches r
    → origin_of s.commits n ≡ terms.origin + r → IsTrue (is_live s n)

-- what the next move of a history does: where it stays, the machine makes it behind those that
-- stayed before it, and else nothing is done
abbrev pub CompactsByMoves : {S O R Q A : Type 0} → Meaning S O R Q A → Type 0
CompactsByMoves {S} {O} {R} m =
    (terms : Terms) (address : List ℕ → List ℕ) (moves more : List (Move O R)) (next : Move O R)
    → let fixed = fix m terms address in
    let keep = is_live (store_of terms.origin (moves ++ next ∷ more)) in
    let here = stays keep (length (store_of terms.origin moves).commits) next in
    IsFullyValid fixed (moves ++ next ∷ more)
    → (here ≡ true
    → IsFullMove fixed (kept_moves keep moves) (renumbered keep next)
    × (kept_moves keep (moves ++ next ∷ []) ≡ kept_moves keep moves ++ renumbered keep next ∷ []))
    × (here ≡ false → kept_moves keep (moves ++ next ∷ []) ≡ kept_moves keep moves)

-- there are no more moves, and neither the objects nor the records are longer
abbrev pub GetsNoLonger : {S O R Q A : Type 0} → Meaning S O R Q A → Type 0
GetsNoLonger {S} {O} {R} m =
    (terms : Terms) (address : List ℕ → List ℕ) → HasSize address → (moves : List (Move O R))
    → let fixed = fix m terms address in
    let fewer = compact terms moves in
    IsFullyValid fixed moves
    → (length fewer ≤ length moves)
    × (length (objects_text fixed fewer) ≤ length (objects_text fixed moves))
    × (length (history_text fixed fewer) ≤ length (history_text fixed moves))

-- the compact history is compact
abbrev pub CompactsOnce : {S O R Q A : Type 0} → Meaning S O R Q A → Type 0
CompactsOnce {S} {O} {R} m =
    (terms : Terms) (moves : List (Move O R)) → IsValid m terms moves
    → compact terms (compact terms moves) ≡ compact terms moves

-- files that stand for the compact history of one that was read read as it, with the same
-- limits and first origin
abbrev pub ReadsCompact : {S O R Q A : Type 0} → Meaning S O R Q A → Type 0
ReadsCompact {S} {O} {R} m =
    (terms : Terms) (address : List ℕ → List ℕ) (moves : List (Move O R)) (files others : Files)
    → ReadsAs m address files (Opens terms moves)
    → Stands (fix m terms address) (compact terms moves) others
    → ReadsAs m address others (Opens terms (compact terms moves))
