-- A history all of whose commits are live is compact, and so is the compact history of a valid one.
use Rattle.std.proofs.Common.{◌≡◌, ℕ, ◌+◌, ◌<◌, Bool, true, cond, List, [], ◌∷◌, ◌++◌, length, map, refl, ap, sym, ◌∙◌, arith, IsTrue, length-append}
use Rattle.mrdt_model.specs.Laws.{Meaning, KeepsLaws}
use Rattle.branch_graph.specs.Graph.{reaches}
use Rattle.branch_history.specs.declared.moves.Move.{Move}
use Rattle.branch_history.specs.declared.moves.Move.TheVariants as move
use Rattle.branch_names.specs.declared.terms.Terms.{Terms}
use Rattle.branch_names.specs.Heads.{head_of}
use Rattle.branch_history.specs.Commits.{graph_of}
use Rattle.branch_history.specs.History.{Store, store_of}
use Rattle.branch_history.specs.Validity.{AreCommits, IsValid}
use Rattle.branch_history.proofs.Later.{commits-longer}
use Rattle.branch_history.proofs.Valid.{store_of-more, by_moves, IsAccepted, IsAccepted-from}
use Rattle.branch_history.proofs.Histories.{received-stand}
use Rattle.branch_compact.specs.Compact.{is_live, new_number, commits_made, stays, renumbered, kept_moves, compact}
use Rattle.branch_compact.proofs.Numbers.{number-whole, number-found}
use Rattle.branch_compact.proofs.Moves.{length-after, kept_moves-none, kept_moves-stays}
use Rattle.branch_compact.proofs.Branches.{kept-same}
use Rattle.branch_compact.proofs.Steps.{reaches-same, count}
use Rattle.branch_compact.proofs.Live.{live-from, live-found, live-head}
use Rattle.branch_compact.proofs.Compacted.{kept, compact-valid, compact-followed}

module _ {S O R Q A : Type 0} (meaning : Meaning S O R Q A) (terms : Terms) (keep : ℕ → Bool) where
  abbrev at : List (Move O R) → Store O R
  at moves = store_of terms.origin moves

  -- all commits are kept
  abbrev AllKept : List (Move O R) → Type 0
  AllKept moves = (n : ℕ) → n < length (at moves).commits → IsTrue (keep n)

  numbers-whole : (moves : List (Move O R)) → AllKept moves → (ns : List ℕ) → AreCommits (at moves).commits ns → map (new_number keep) ns ≡ ns
  numbers-whole moves all [] stand = refl
  numbers-whole moves all (n ∷ ns) stand =
      let lt = stand.0 in
      ap (λ k. k ∷ map (new_number keep) ns) (number-whole keep n (λ k less. all k (omega (arith, less, lt)))) ∙ ap (λ l. n ∷ l) (numbers-whole moves all ns stand.1)

  number-one : (moves : List (Move O R)) → AllKept moves → (n : ℕ) → n < length (at moves).commits → new_number keep n ≡ n
  number-one moves all n lt = number-whole keep n (λ k less. all k (omega (arith, less, lt)))

  -- each move stays as it is
  one-whole : (moves : List (Move O R)) → AllKept moves → (m : Move O R) → IsAccepted meaning terms moves m → (commits_made m ≡ 1 → IsTrue (keep (length (at moves).commits)))
      → (stays keep (length (at moves).commits) m ≡ true) × (renumbered keep m ≡ m)
  one-whole moves all (move.Fork name number from) is next = (refl, refl)
  one-whole moves all (move.Operation r op reply) is next = (next refl, refl)
  one-whole moves all (move.Merge r n) is next = (next refl, ap (λ k. move.Merge r k) (number-one moves all n is.stands))
  one-whole moves all (move.Join r ns) is next = (next refl, ap (λ l. move.Join r l) (numbers-whole moves all ns is.stands))
  one-whole moves all (move.Forward r n) is next = (all n is.stands, ap (λ k. move.Forward r k) (number-one moves all n is.stands))
  one-whole moves all (move.Received ps origin clock act) is next = (next refl, ap (λ l. move.Received l origin clock act) (numbers-whole moves all ps (received-stand meaning terms moves ps origin clock act is)))
  one-whole moves all (move.Place name number n) is next = (
    refl,
    ap (λ b. cond b (move.Place name number (new_number keep n)) (move.Fork name number 0)) (all n is.stands) ∙ ap (λ k. move.Place name number k) (number-one moves all n is.stands),
  )
  one-whole moves all (move.Drop r) is next = (refl, refl)

  fewer-kept : (moves : List (Move O R)) (m : Move O R) → AllKept (moves ++ m ∷ []) → AllKept moves
  fewer-kept moves m all n lt =
      let longer = commits-longer terms.origin moves (m ∷ []) in
      all n (omega (arith, lt, ap length longer.is, length-append (at moves).commits longer.more))

  pub whole : (moves : List (Move O R)) → IsValid meaning terms moves → AllKept moves → kept_moves keep moves ≡ moves
  whole =
      by_moves meaning terms (λ moves. AllKept moves → kept_moves keep moves ≡ moves) (λ all. kept_moves-none keep)
      (λ moves m valid before is all.
      let fewer = fewer-kept moves m all in
      let size : length (at (moves ++ m ∷ [])).commits ≡ length (at moves).commits + commits_made m = ap (λ (s : Store O R). length s.commits) (store_of-more terms.origin moves m) ∙ length-after terms.origin (at moves) m in
      let one = one-whole moves fewer m (IsAccepted-from meaning terms moves m is) (λ makes. all (length (at moves).commits) (omega (arith, size, makes))) in
      kept_moves-stays keep terms.origin moves m one.0 ∙ ap (λ l. l ++ renumbered keep m ∷ []) (before fewer) ∙ ap (λ k. moves ++ k ∷ []) one.1)

pub whole-compact : {S O R Q A : Type 0} (meaning : Meaning S O R Q A) (terms : Terms) (moves : List (Move O R)) → IsValid meaning terms moves → ((n : ℕ) → n < length (store_of terms.origin moves).commits → IsTrue (is_live (store_of terms.origin moves) n)) → compact terms moves ≡ moves
unfolding compact
whole-compact meaning terms moves valid all = whole meaning terms (is_live (store_of terms.origin moves)) moves valid all

module _ {S O R Q A : Type 0} (meaning : Meaning S O R Q A) (terms : Terms) (laws : KeepsLaws meaning) (moves : List (Move O R)) (valid : IsValid meaning terms moves) where
  abbrev s : Store O R
  s = store_of terms.origin moves

  abbrev t : Store O R
  t = store_of terms.origin (compact terms moves)

  -- all commits of the compact history are live
  all-live : (n : ℕ) → n < length t.commits → IsTrue (is_live t n)
  all-live n lt =
      let was = kept meaning terms laws moves valid in
      let w = compact-followed meaning terms laws moves valid in
      let live : ℕ → Bool = is_live s in
      let size : length t.commits ≡ new_number live (length s.commits) = count w in
      let one = number-found live (length s.commits) n (omega (arith, lt, size)) in
      let found = live-found s one.number one.kept in
      let r : ℕ = found.0 in
      let h : ℕ = head_of s.branches r in
      let is : IsTrue (live h) = live-head s terms was.ordered r found.1 in
      let reached : IsTrue (reaches (graph_of t.commits) (new_number live h) (new_number live one.number)) =
      reaches-same w h (was.ordered.heads r found.1.0) is one.number one.kept ∙ found.2 in
      live-from t r n (kept-same s.branches t.branches w.thin.names r found.1)
      (ap (λ j. reaches (graph_of t.commits) j n) (w.thin.heads r found.1.0 is) ∙ ap (reaches (graph_of t.commits) (new_number live h)) (sym one.is) ∙ reached)

  pub compact-again : compact terms (compact terms moves) ≡ compact terms moves
  compact-again = whole-compact meaning terms (compact terms moves) (compact-valid meaning terms laws moves valid) all-live
