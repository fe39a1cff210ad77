-- New numbers by counting, and the moves that stay of those still to come.
use Rattle.std.proofs.Common.{zero, suc, ◌≡◌, ℕ, ◌+◌, ◌<◌, ◌≤◌, min, Bool, true, false, cond, List, [], ◌∷◌, ◌++◌, length, map, filter, get_or, refl, ap, sym, ◌∙◌, subst, arith, ⊎_elim, append_assoc, length-append}
use Rattle.std.proofs.lemmas.Bool.{cases_Bool, cases_lt}
use Rattle.std.proofs.lemmas.List.{get_or_past, get_or_append_left, get_or_push, get_or_default}
use Rattle.branch_history.specs.declared.moves.Move.{Move}
use Rattle.branch_history.proofs.Lists.{place, old, new, past}
use Rattle.branch_compact.specs.Compact.{new_number, commits_made, numbered, stays, renumbered, kept_moves}
use Rattle.branch_compact.specs.Marks.{is_marked, AreNumbered}
use Rattle.branch_compact.proofs.Numbers.{number-zero, number-low, number-kept, number-gone}

-- past the last mark no commit is kept
pub number-past : (marks : List Bool) (n : ℕ) → length marks ≤ n → new_number (is_marked marks) n ≡ new_number (is_marked marks) (length marks)
number-past marks zero le = let e : zero ≡ length marks = omega arith in ap (new_number (is_marked marks)) e
number-past marks (suc n) le =
    elim (place (length marks) (suc n)) [
      | old lt ↦ number-gone (is_marked marks) n (get_or_past marks n false (omega arith)) ∙ number-past marks n (omega arith)
      | new e ↦ ap (new_number (is_marked marks)) (sym e)
      | past gt ↦ absurd (omega arith)
    ]

-- the numbers of the first i commits, and how many of them are kept
pub record AreCounted (marks : List Bool) (numbers : List ℕ) (count i : ℕ) : Type 0 where
  pub size : length numbers ≡ i
  pub next : count ≡ new_number (is_marked marks) i
  pub each : (n : ℕ) → n < i → get_or numbers n 0 ≡ new_number (is_marked marks) n

module _ (marks : List Bool) where
  pub counted-start : (numbers : List ℕ) → numbers ≡ [] → AreCounted marks numbers 0 0
  counted-start numbers none = record { size = ap length none; next = sym (number-zero (is_marked marks)); each = λ n lt. absurd (omega arith) }

  -- the numbers are in range
  pub counted-low : (numbers : List ℕ) (count i : ℕ) → AreCounted marks numbers count i → count ≤ i
  counted-low numbers count i are = let e = are.next in omega (arith, e, number-low (is_marked marks) i)

  counted-more : (numbers : List ℕ) (count i : ℕ) → AreCounted marks numbers count i → (n : ℕ) → n < suc i → get_or (numbers ++ count ∷ []) n 0 ≡ new_number (is_marked marks) n
  counted-more numbers count i are n lt =
      let size = are.size in
      elim (place n i) [
        | old less ↦ get_or_append_left numbers (count ∷ []) 0 n (omega (arith, size, less)) ∙ are.each n less
        | new e ↦ get_or_push numbers count 0 n (omega (arith, size, e)) ∙ are.next ∙ ap (new_number (is_marked marks)) (sym e)
        | past gt ↦ absurd (omega arith)
      ]

  pub counted-next : (numbers : List ℕ) (count more i : ℕ) → AreCounted marks numbers count i → more ≡ new_number (is_marked marks) (suc i) → AreCounted marks (numbers ++ count ∷ []) more (i + 1)
  counted-next numbers count more i are is =
      let size = are.size in
      let e : suc i ≡ i + 1 = omega arith in
      record {
        size = omega (arith, size, length-append numbers (count ∷ []));
        next = is ∙ ap (new_number (is_marked marks)) e;
        each = λ n lt. counted-more numbers count i are n (omega arith);
      }

  -- one commit more, which is kept, or not
  pub counted-kept : (numbers after : List ℕ) (count more i : ℕ) → AreCounted marks numbers count i → is_marked marks i ≡ true → after ≡ numbers ++ count ∷ [] → more ≡ count + 1 → AreCounted marks after more (i + 1)
  counted-kept numbers after count more i are here put is =
      let was = are.next in
      subst (λ (ns : List ℕ). AreCounted marks ns more (i + 1)) (sym put) (counted-next numbers count more i are (omega (arith, was, is, number-kept (is_marked marks) i here)))

  pub counted-gone : (numbers after : List ℕ) (count more i : ℕ) → AreCounted marks numbers count i → is_marked marks i ≡ false → after ≡ numbers ++ count ∷ [] → more ≡ count → AreCounted marks after more (i + 1)
  counted-gone numbers after count more i are here put is =
      subst (λ (ns : List ℕ). AreCounted marks ns more (i + 1)) (sym put) (counted-next numbers count more i are (is ∙ are.next ∙ sym (number-gone (is_marked marks) i here)))

  -- a mark that is read
  pub mark-here : (i : ℕ) (d b : Bool) → i < length marks → get_or marks i d ≡ b → is_marked marks i ≡ b
  mark-here i d b lt is = get_or_default marks i false d lt ∙ is

  -- the new number that the list holds for a commit, or for one past the last mark
  numbered-at : (numbers : List ℕ) (n : ℕ) → AreNumbered marks numbers → (k : ℕ) → k ≡ min (length marks) n → get_or numbers k 0 ≡ new_number (is_marked marks) n
  numbered-at numbers n are k is =
      ⊎_elim
      (λ lt. let e : k ≡ n = omega (arith, is, lt) in are.each k (omega (arith, is)) ∙ ap (new_number (is_marked marks)) e)
      (λ ge. let e : k ≡ length marks = omega (arith, is, ge) in are.each k (omega (arith, is)) ∙ ap (new_number (is_marked marks)) e ∙ sym (number-past marks n ge))
      (cases_lt n (length marks))

  pub number-is : (numbers : List ℕ) (n k x : ℕ) → AreNumbered marks numbers → k ≡ min (length marks) n → x ≡ get_or numbers k x → x ≡ new_number (is_marked marks) n
  number-is numbers n k x are is at = let size = are.count in at ∙ get_or_default numbers k x 0 (omega (arith, is, size)) ∙ numbered-at numbers n are k is

-- the first i numbers are new ones, and the rest as they were
pub record AreChanged (f : ℕ → ℕ) (before now : List ℕ) (i : ℕ) : Type 0 where
  pub changed : (k : ℕ) → k < i → get_or now k 0 ≡ f (get_or before k 0)
  pub same : (k : ℕ) → i ≤ k → get_or now k 0 ≡ get_or before k 0

module _ {O R : Type 0} (keep : ℕ → Bool) where
  -- the moves that stay of those to come, given the number of commits before them
  abbrev pub kept_from : ℕ → List (Move O R) → List (Move O R)
  kept_from n ms = map (λ p. renumbered keep p.1) (filter (λ p. stays keep p.0 p.1) (numbered n ms))

  pub kept_from-all : (moves : List (Move O R)) → kept_moves keep moves ≡ kept_from 1 moves
  unfolding kept_moves
  kept_from-all moves = refl

  -- the next move stays, or goes
  kept_from-stays : (done : List (Move O R)) (n : ℕ) (m : Move O R) (ms : List (Move O R)) → stays keep n m ≡ true
      → done ++ kept_from n (m ∷ ms) ≡ (done ++ renumbered keep m ∷ []) ++ kept_from (n + commits_made m) ms
  kept_from-stays done n m ms is =
      ap (λ t. done ++ map (λ (p : ℕ × Move O R). renumbered keep p.1) (cond t ((n, m) ∷ filter (λ (p : ℕ × Move O R). stays keep p.0 p.1) (numbered (n + commits_made m) ms)) (filter (λ (p : ℕ × Move O R). stays keep p.0 p.1) (numbered (n + commits_made m) ms)))) is
      ∙ sym (append_assoc done (renumbered keep m ∷ []) (kept_from (n + commits_made m) ms))

  kept_from-goes : (done : List (Move O R)) (n : ℕ) (m : Move O R) (ms : List (Move O R)) → stays keep n m ≡ false
      → done ++ kept_from n (m ∷ ms) ≡ done ++ kept_from (n + commits_made m) ms
  kept_from-goes done n m ms is =
      ap (λ t. done ++ map (λ (p : ℕ × Move O R). renumbered keep p.1) (cond t ((n, m) ∷ filter (λ (p : ℕ × Move O R). stays keep p.0 p.1) (numbered (n + commits_made m) ms)) (filter (λ (p : ℕ × Move O R). stays keep p.0 p.1) (numbered (n + commits_made m) ms)))) is

  pub kept-next : (all done after items : List (Move O R)) (n more : ℕ) (m : Move O R) (ms : List (Move O R)) → all ≡ done ++ kept_from n items → items ≡ m ∷ ms → more ≡ commits_made m
      → (stays keep n m ≡ true → after ≡ done ++ renumbered keep m ∷ []) → (stays keep n m ≡ false → after ≡ done) → all ≡ after ++ kept_from (n + more) ms
  kept-next all done after items n more m ms is split size here gone =
      let begun : all ≡ done ++ kept_from n (m ∷ ms) = is ∙ ap (λ l. done ++ kept_from n l) split in
      let count : after ++ kept_from (n + commits_made m) ms ≡ after ++ kept_from (n + more) ms = ap (λ k. after ++ kept_from (n + k) ms) (sym size) in
      ⊎_elim
      (λ s. begun ∙ kept_from-stays done n m ms s ∙ ap (λ l. l ++ kept_from (n + commits_made m) ms) (sym (here s)) ∙ count)
      (λ g. begun ∙ kept_from-goes done n m ms g ∙ ap (λ l. l ++ kept_from (n + commits_made m) ms) (sym (gone g)) ∙ count)
      (cases_Bool (stays keep n m))
