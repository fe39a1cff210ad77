-- Callers who see or are told one behind another.
use Rattle.std.proofs.Common.{◌≡◌, ℕ, zero, suc, ◌+◌, ◌<◌, ◌≤◌, List, [], ◌∷◌, ◌++◌, length, take, drop, replicate, set, get_or, refl, ap, sym, ◌∙◌, subst, arith, add-one, append_assoc, length-append, Result, Ok, Err}
use Rattle.std.specs.List.{AllByRecursion}
use Rattle.std.proofs.lemmas.List.{drop_more, take_more_set, drop-set-lt, append-nil}
use mathlib.Core.List.{IsPrefix}
use Rattle.branch_history.specs.declared.moves.Move.{Move}
use Rattle.store_seen.specs.declared.answers.Landed.{Landed}
use Rattle.store_core.specs.declared.answers.LandRefused.{LandRefused}
use Rattle.branch_shared.specs.declared.name.Entry.{Entry}
use Rattle.branch_shared.specs.Batches.{TakenView, answered, answered_all, brings, brought, sure_after}
use Rattle.branch_shared.specs.Entries.{moves_of, moments_of, entries_at, AreNoted}
use Rattle.branch_shared.proofs.Entries.{moments-append, moments-at, noted-moves}

module _ {X : Type 0} where
  all-suc : (P : X → Type 0) (xs : List X) (i : ℕ) (x : X) → i < length xs → AllByRecursion P (take i xs) → x ≡ get_or xs i x → P x → AllByRecursion P (take (suc i) xs)
  all-suc P [] i x lt all at holds = absurd (omega arith)
  all-suc P (y ∷ xs) zero x lt all at holds = (subst P at holds, tt)
  all-suc P (y ∷ xs) (suc i) x lt all at holds = (all.0, all-suc P xs i x (omega arith) all.1 at holds)

  -- what holds of the first items, and of the next, holds of one more
  pub all-next : (P : X → Type 0) (xs : List X) (i : ℕ) (x : X) → i < length xs → AllByRecursion P (take i xs) → x ≡ get_or xs i x → P x → AllByRecursion P (take (i + 1) xs)
  all-next P xs i x lt all at holds = subst (λ (n : ℕ). AllByRecursion P (take n xs)) (sym (add-one i)) (all-suc P xs i x lt all at holds)

  behind-none : (first : List X) (i : ℕ) (x : X) → length first ≡ i → get_or (first ++ []) i x ≡ x
  behind-none [] i x long = refl
  behind-none (y ∷ first) zero x long = absurd (omega arith)
  behind-none (y ∷ first) (suc i) x long = behind-none first i x (omega arith)

  behind : (first xs : List X) (i : ℕ) (x : X) → length first ≡ i → get_or (first ++ drop i xs) i x ≡ get_or xs i x
  behind [] xs zero x long = refl
  behind [] xs (suc i) x long = absurd (omega arith)
  behind (y ∷ first) xs zero x long = absurd (omega arith)
  behind (y ∷ first) [] (suc i) x long = behind-none first i x (omega arith)
  behind (y ∷ first) (z ∷ xs) (suc i) x long = behind first xs i x (omega arith)

  -- an item behind the first ones, where these have been changed
  pub item-behind : (first xs ys : List X) (i : ℕ) (x : X) → ys ≡ first ++ drop i xs → length first ≡ i → x ≡ get_or ys i x → x ≡ get_or xs i x
  item-behind first xs ys i x is long at = at ∙ (ap (λ (l : List X). get_or l i x) is ∙ behind first xs i x long)

  same-nil : (xs rest ys : List X) → xs ++ rest ≡ ys → length rest ≡ 0 → xs ≡ ys
  same-nil xs [] ys is none = sym (append-nil xs) ∙ is
  same-nil xs (r ∷ rest) ys is none = absurd (omega arith)

  -- a beginning that is as long is the whole
  pub prefix-whole : (xs ys : List X) → IsPrefix xs ys → length xs ≡ length ys → xs ≡ ys
  prefix-whole xs ys p same = same-nil xs p.0 ys p.1 (omega (arith, ap length p.1, length-append xs p.0))

  -- the first of a list, as many as a beginning has, are that beginning; and what stands behind it
  pub prefix-take : (xs ys : List X) → IsPrefix xs ys → take (length xs) ys ≡ xs
  prefix-take [] ys p = refl
  prefix-take (x ∷ xs) [] p = absurd (cc (p.1))
  prefix-take (x ∷ xs) (y ∷ ys) p = let heads : x ≡ y = cc (p.1) in let rest = prefix-take xs ys (p.0, cc (p.1)) in cc (heads, rest)

  -- one move behind a beginning, where there is one
  pub next-take : (xs ys : List X) → IsPrefix xs ys → length xs + 1 ≤ length ys → (xs ++ take 1 (drop (length xs) ys) ≡ take (length xs + 1) ys) × (length (take 1 (drop (length xs) ys)) ≡ 1)
  next-take [] [] p le = absurd (omega arith)
  next-take [] (y ∷ ys) p le = (refl, refl)
  next-take (x ∷ xs) [] p le = absurd (cc (p.1))
  next-take (x ∷ xs) (y ∷ ys) p le =
      let heads : x ≡ y = cc (p.1) in
      let rest = next-take xs ys (p.0, cc (p.1)) (omega arith) in
      let more : suc (length xs) + 1 ≡ suc (length xs + 1) = omega arith in
      (ap (λ (h : X). h ∷ (xs ++ take 1 (drop (length xs) ys))) heads ∙ (ap (λ (l : List X). y ∷ l) rest.0 ∙ ap (λ (n : ℕ). take n (y ∷ ys)) (sym more)), rest.1)

-- what the writer knows after an answer: the next move too, where there is one
pub next-brought : {M L E : Type 0} (begun known history : List M) (answer : Result L E) → IsPrefix (begun ++ known) history → length (begun ++ known) + brings answer ≤ length history
    → begun ++ (known ++ brought (take 1 (drop (length (begun ++ known)) history)) answer) ≡ take (length (begun ++ known) + brings answer) history
next-brought {M} begun known history (Ok landed) p le = sym (append_assoc begun known (take 1 (drop (length (begun ++ known)) history))) ∙ (next-take (begun ++ known) history p le).0
next-brought {M} begun known history (Err refused) p le =
    let none : length (begun ++ known) + 0 ≡ length (begun ++ known) = omega arith in
    ap (λ (l : List M). begun ++ l) (append-nil known) ∙ (sym (prefix-take (begun ++ known) history p) ∙ ap (λ (n : ℕ). take n history) (sym none))

-- as many moves are brought as the answer says
pub brought-long : {M L E : Type 0} (begun known history : List M) (answer : Result L E) → IsPrefix (begun ++ known) history → length (begun ++ known) + brings answer ≤ length history
    → length (brought (take 1 (drop (length (begun ++ known)) history)) answer) ≡ brings answer
brought-long begun known history (Ok landed) p le = (next-take (begun ++ known) history p le).1
brought-long begun known history (Err refused) p le = refl

-- what the writer adds at an answer is noted at that moment
pub brought-noted : {O R L E : Type 0} (since : ℕ) (known : List (Entry O R)) (moves : List (Move O R)) (answer : Result L E) → AreNoted since known (known ++ brought (entries_at since moves) answer)
brought-noted since known moves (Ok landed) = (moves, refl)
brought-noted since known moves (Err refused) = ([], refl)

-- and it is these moves
pub brought-moves : {O R L E : Type 0} (since : ℕ) (known : List (Entry O R)) (moves : List (Move O R)) (answer : Result L E) → moves_of (known ++ brought (entries_at since moves) answer) ≡ moves_of known ++ brought moves answer
brought-moves since known moves (Ok landed) = noted-moves since known (known ++ entries_at since moves) (moves, refl)
brought-moves since known moves (Err refused) = noted-moves since known (known ++ []) ([], refl)

pub brought-moments : {O R L E : Type 0} (since : ℕ) (known : List (Entry O R)) (moves : List (Move O R)) (answer : Result L E) → length (brought moves answer) ≡ brings answer
    → moments_of (known ++ brought (entries_at since moves) answer) ≡ sure_after since (moments_of known) answer
brought-moments since known moves (Ok landed) long =
    moments-append known (entries_at since moves) ∙ (ap (λ (l : List ℕ). moments_of known ++ l) (moments-at since moves) ∙ ap (λ (n : ℕ). moments_of known ++ replicate n since) long)
brought-moments since known moves (Err refused) long = moments-append known []

module _ {O R : Type 0} (faults since : ℕ) (history : List (Move O R)) where
  -- one caller more is told
  pub told-next : (all : List (TakenView O R)) (i count : ℕ) (sure : List ℕ) (taken new : TakenView O R) (answer : Result (Landed R) LandRefused) (answers : List (Result (Landed R) LandRefused)) → i < length all → taken ≡ get_or all i taken
      → new ≡ answered faults (take (count + brings answer) history) (sure_after since sure answer) answer taken
      → take (i + 1) (set all i new) ++ answered_all faults history since (sure_after since sure answer) (count + brings answer) answers (drop (i + 1) (set all i new)) ≡ take i all ++ answered_all faults history since sure count (answer ∷ answers) (drop i all)
  told-next all i count sure taken new answer answers lt at is =
      let rest = drop (i + 1) all in
      let later = answered_all faults history since (sure_after since sure answer) (count + brings answer) answers in
      let here : drop i all ≡ taken ∷ rest = drop_more all i taken lt ∙ ap (λ (t : TakenView O R). t ∷ rest) (sym at) in
      let front : take (i + 1) (set all i new) ≡ take i all ++ new ∷ [] = take_more_set all i new lt in
      let back : drop (i + 1) (set all i new) ≡ rest = drop-set-lt (i + 1) all i new (omega arith) in
      ap (λ (l : List (TakenView O R)). l ++ later (drop (i + 1) (set all i new))) front
      ∙ (ap (λ (l : List (TakenView O R)). (take i all ++ new ∷ []) ++ later l) back
      ∙ (append_assoc (take i all) (new ∷ []) (later rest)
      ∙ (ap (λ (t : TakenView O R). take i all ++ t ∷ later rest) is
      ∙ ap (λ (l : List (TakenView O R)). take i all ++ answered_all faults history since sure count (answer ∷ answers) l) (sym here))))
