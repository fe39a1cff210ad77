-- The moves that stay of a history with one more move.
use Rattle.std.proofs.Common.{suc, ◌≡◌, ℕ, ◌+◌, ◌≤◌, Bool, true, false, cond, List, [], ◌∷◌, ◌++◌, length, filter, map, refl, ap, sym, ◌∙◌, arith, length-append, append-nil}
use Rattle.std.proofs.lemmas.List.{map-append, length-map}
use Rattle.std.proofs.lemmas.List.Elements.{filter-append}
use Rattle.branch_history.specs.declared.moves.Move.{Move}
use Rattle.branch_history.specs.declared.moves.Move.TheVariants as move
use Rattle.branch_names.specs.Heads.{head_of}
use Rattle.branch_history.specs.History.{Store, new_store, after_move, after_moves, store_of, operation_commit, merge_commit, received_commit}
use Rattle.branch_compact.specs.Compact.{commits_made, numbered, stays, renumbered, kept_moves}
use Rattle.branch_compact.specs.Marks.{all_made}

module _ {O R : Type 0} where
  -- a move makes so many commits
  pub length-after : (first : ℕ) (s : Store O R) (m : Move O R) → length (after_move first s m).commits ≡ length s.commits + commits_made m
  length-after first s (move.Fork name number from) = omega arith
  length-after first s (move.Operation r op reply) = length-append s.commits (operation_commit s.commits (first + r) (head_of s.branches r) op reply ∷ [])
  length-after first s (move.Merge r m) = length-append s.commits (merge_commit s.commits (first + r) (head_of s.branches r ∷ m ∷ []) ∷ [])
  length-after first s (move.Join r ms) = length-append s.commits (merge_commit s.commits (first + r) (head_of s.branches r ∷ ms) ∷ [])
  length-after first s (move.Forward r m) = omega arith
  length-after first s (move.Received parents origin clock act) = length-append s.commits (received_commit s.commits parents origin clock act ∷ [])
  length-after first s (move.Place name number n) = omega arith
  length-after first s (move.Drop r) = omega arith

  length-after_all : (first : ℕ) (s : Store O R) (ms : List (Move O R)) → length (after_moves first s ms).commits ≡ length s.commits + all_made ms
  length-after_all first s [] = omega arith
  length-after_all first s (m ∷ ms) = omega (arith, length-after_all first (after_move first s m) ms, length-after first s m)

  pub length-commits : (first : ℕ) (moves : List (Move O R)) → length (store_of first moves).commits ≡ 1 + all_made moves
  unfolding store_of
  length-commits first moves = length-after_all first new_store moves

  numbered-append : (n : ℕ) (ms : List (Move O R)) (m : Move O R) → numbered n (ms ++ m ∷ []) ≡ numbered n ms ++ (n + all_made ms, m) ∷ []
  numbered-append n [] m = let e : n ≡ n + 0 = omega arith in ap (λ k. (k, m) ∷ []) e
  numbered-append n (x ∷ ms) m =
      let e : (n + commits_made x) + all_made ms ≡ n + all_made (x ∷ ms) = omega arith in
      ap (λ l. (n, x) ∷ l) (numbered-append (n + commits_made x) ms m ∙ ap (λ k. numbered (n + commits_made x) ms ++ (k, m) ∷ []) e)

  -- a move that makes a commit stays where the commit is kept
  pub stays-kept : (keep : ℕ → Bool) (n : ℕ) (m : Move O R) → commits_made m ≡ 1 → stays keep n m ≡ keep n
  stays-kept keep n (move.Fork name number from) one = absurd (omega (arith, one))
  stays-kept keep n (move.Operation r op reply) one = refl
  stays-kept keep n (move.Merge r m) one = refl
  stays-kept keep n (move.Join r ms) one = refl
  stays-kept keep n (move.Forward r m) one = absurd (omega (arith, one))
  stays-kept keep n (move.Received parents origin clock act) one = refl
  stays-kept keep n (move.Place name number m) one = absurd (omega (arith, one))
  stays-kept keep n (move.Drop r) one = absurd (omega (arith, one))

  module _ (keep : ℕ → Bool) (first : ℕ) (moves : List (Move O R)) (m : Move O R) where
    abbrev here : Bool
    here = stays keep (length (store_of first moves).commits) m

    -- one more move
    pub kept_moves-more : kept_moves keep (moves ++ m ∷ []) ≡ kept_moves keep moves ++ cond here (renumbered keep m ∷ []) []
    unfolding kept_moves
    kept_moves-more =
        let test : ℕ × Move O R → Bool = λ p. stays keep p.0 p.1 in
        let change : ℕ × Move O R → Move O R = λ p. renumbered keep p.1 in
        ap (λ l. map change (filter test l)) (numbered-append 1 moves m ∙ ap (λ k. numbered 1 moves ++ (k, m) ∷ []) (sym (length-commits first moves)))
        ∙ ap (map change) (filter-append test (numbered 1 moves) ((length (store_of first moves).commits, m) ∷ []))
        ∙ map-append change (filter test (numbered 1 moves)) (filter test ((length (store_of first moves).commits, m) ∷ []))
        ∙ ap (λ l. map change (filter test (numbered 1 moves)) ++ l) (alone here)
      where
        alone : (t : Bool) → map (λ (p : ℕ × Move O R). renumbered keep p.1) (cond t ((length (store_of first moves).commits, m) ∷ []) []) ≡ cond t (renumbered keep m ∷ []) []
        alone true = refl
        alone false = refl

    pub kept_moves-stays : here ≡ true → kept_moves keep (moves ++ m ∷ []) ≡ kept_moves keep moves ++ renumbered keep m ∷ []
    kept_moves-stays is = kept_moves-more ∙ ap (λ t. kept_moves keep moves ++ cond t (renumbered keep m ∷ []) []) is

    pub kept_moves-goes : here ≡ false → kept_moves keep (moves ++ m ∷ []) ≡ kept_moves keep moves
    kept_moves-goes is = kept_moves-more ∙ ap (λ t. kept_moves keep moves ++ cond t (renumbered keep m ∷ []) []) is ∙ append-nil (kept_moves keep moves)

  pub kept_moves-none : (keep : ℕ → Bool) → kept_moves {O = O} {R = R} keep [] ≡ []
  unfolding kept_moves
  kept_moves-none keep = refl

  filter-fewer : (test : ℕ × Move O R → Bool) (ps : List (ℕ × Move O R)) → length (filter test ps) ≤ length ps
  filter-fewer test [] = omega arith
  filter-fewer test (p ∷ ps) = step (test p) (filter-fewer test ps)
    where
      step : (t : Bool) → length (filter test ps) ≤ length ps → length (cond t (p ∷ filter test ps) (filter test ps)) ≤ length (p ∷ ps)
      step true le = omega (arith, le)
      step false le = omega (arith, le)

  length-numbered : (n : ℕ) (ms : List (Move O R)) → length (numbered n ms) ≡ length ms
  length-numbered n [] = refl
  length-numbered n (m ∷ ms) = ap suc (length-numbered (n + commits_made m) ms)

  -- there are no more moves
  pub kept_moves-fewer : (keep : ℕ → Bool) (moves : List (Move O R)) → length (kept_moves keep moves) ≤ length moves
  unfolding kept_moves
  kept_moves-fewer keep moves =
      let test : ℕ × Move O R → Bool = λ p. stays keep p.0 p.1 in
      omega (arith, length-map (filter test (numbered 1 moves)) (λ (p : ℕ × Move O R). renumbered keep p.1), filter-fewer test (numbered 1 moves), length-numbered 1 moves)
