-- The table of times says of each time that is not the store's own which commit has it.
use Rattle.std.proofs.Common.{zero, suc, ◌≡◌, ℕ, ◌+◌, ◌<◌, ◌≤◌, Bool, true, false, ◌&&◌, ◌==◌, cond, List, [], ◌∷◌, ◌++◌, length, refl, ap, sym, ◌∙◌, arith, Option, Some, None, is_some, subst, length-append, append-nil, append_assoc}
use Rattle.std.specs.Prelude.{IfSome, IsSome}
use Rattle.std.specs.Option.{option_map_or, option_to_list}
use Rattle.std.specs.List.{position_from}
use Rattle.std.specs.Map.{lookup}
use Rattle.std.proofs.lemmas.Bool.{eqb-true, le-leb, lt-ltb}
use Rattle.mrdt_model.specs.declared.time.Time.{Time}
use Rattle.mrdt_model.specs.Times.{same_time}
use Rattle.mrdt_model.specs.Laws.{Meaning, KeepsLaws}
use Rattle.branch_names.specs.declared.terms.Terms.{Terms}
use Rattle.branch_names.specs.Terms.{is_own}
use Rattle.branch_names.specs.Heads.{head_of}
use Rattle.branch_history.specs.declared.moves.Move.{Move}
use Rattle.branch_history.specs.declared.moves.Move.TheVariants as move
use Rattle.branch_history.specs.Commits.{Commit, clock_of, greatest_clock, commit_at_time}
use Rattle.branch_history.specs.History.{Store, new_store, store_of, after_move, after_moves, operation_commit, merge_commit, received_commit}
use Rattle.branch_history.specs.Validity.{IsMove, IsValid}
use Rattle.branch_history.proofs.Grown.{clock_of-append, clock_of-new, clock_of-past}
use Rattle.branch_history.proofs.Histories.{valid-kept, greatest-within}
use Rattle.branch_history.proofs.Lists.{Place, place, old, new, past}
use Rattle.branch_history.proofs.Valid.{IsAccepted, IsAccepted-from, by_moves, store_of-none, store_of-more, received_operation-tells}
use Rattle.store_seen.proofs.Firsts.{same_without_last}
use Rattle.store_seen.specs.Times.{time_eq, IsOwn, is_timed, count_after, time_received, times_behind, count_behind, received_times, count_of, received_at}

-- the first of two, where it is there
abbrev or_else : {X : Type 0} → Option X → Option X → Option X
or_else None later = later
or_else (Some x) later = Some x

position_from-more : {X : Type 0} (f : X → Bool) (first : ℕ) (xs : List X) (y : X) → position_from f first (xs ++ y ∷ []) ≡ or_else (position_from f first xs) (cond (f y) (Some (first + length xs)) None)
position_from-more f first [] y = ap (λ n. cond (f y) (Some n) None) (let e : first ≡ first + 0 = omega arith in e)
position_from-more {X} f first (x ∷ xs) y = step (f x) (position_from-more f (first + 1) xs y)
  where
    step : (t : Bool) → position_from f (first + 1) (xs ++ y ∷ []) ≡ or_else (position_from f (first + 1) xs) (cond (f y) (Some (first + 1 + length xs)) None)
        → cond t (Some first) (position_from f (first + 1) (xs ++ y ∷ [])) ≡ or_else (cond t (Some first) (position_from f (first + 1) xs)) (cond (f y) (Some (first + suc (length xs))) None)
    step true rest = refl
    step false rest = rest ∙ ap (λ n. or_else (position_from f (first + 1) xs) (cond (f y) (Some n) None)) (let e : first + 1 + length xs ≡ first + suc (length xs) = omega arith in e)

lookup-more : {K X : Type 0} (test : K → Bool) (es fs : List (K × X)) → lookup test (es ++ fs) ≡ or_else (lookup test es) (lookup test fs)
lookup-more test [] fs = refl
lookup-more {K} {X} test (e ∷ es) fs = step (test e.0) (lookup-more test es fs)
  where
    step : (t : Bool) → lookup test (es ++ fs) ≡ or_else (lookup test es) (lookup test fs) → cond t (Some e.1) (lookup test (es ++ fs)) ≡ or_else (cond t (Some e.1) (lookup test es)) (lookup test fs)
    step true rest = refl
    step false rest = rest

-- the last of these is off
time-off : (times es fs : List ((ℕ × ℕ) × ℕ)) (t : (ℕ × ℕ) × ℕ) (o : Option ((ℕ × ℕ) × ℕ)) → es ≡ times ++ t ∷ [] → es ≡ fs ++ option_to_list o → (0 < length es → IsSome o) → fs ≡ times
time-off times es fs t None was is some =
    let size = ap length was ∙ length-append times (t ∷ []) in
    let there = some (omega (arith, size)) in
    absurd (cc)
time-off times es fs t (Some e) was is some = sym (same_without_last times fs t e (sym was ∙ is))

-- no moves have no times
pub received_times-none : (O R : Type 0) → received_times {O = O} {R = R} [] ≡ []
unfolding received_times
received_times-none O R = refl

module _ {O R : Type 0} where
  -- the times of moves with one move more
  times_behind-more : (count : ℕ) (ms : List (Move O R)) (m : Move O R) → times_behind count (ms ++ m ∷ []) ≡ times_behind count ms ++ time_received (count_behind count ms) m
  times_behind-more count [] m = append-nil (time_received count m)
  times_behind-more count (x ∷ xs) m =
      ap (λ l. time_received count x ++ l) (times_behind-more (count_after count x) xs m)
      ∙ sym (append_assoc (time_received count x) (times_behind (count_after count x) xs) (time_received (count_behind (count_after count x) xs) m))

  pub received_times-more : (ms : List (Move O R)) (m : Move O R) → received_times (ms ++ m ∷ []) ≡ received_times ms ++ time_received (count_of ms) m
  unfolding received_times count_of
  received_times-more ms m = times_behind-more 1 ms m

  own-none : (count : ℕ) (m : Move O R) → IsOwn m → time_received count m ≡ []
  own-none count (move.Fork name number from) own = refl
  own-none count (move.Operation r op reply) own = refl
  own-none count (move.Merge r k) own = refl
  own-none count (move.Join r ks) own = refl
  own-none count (move.Forward r k) own = refl
  own-none count (move.Received parents origin clock act) own = absurd own
  own-none count (move.Place name number k) own = refl
  own-none count (move.Drop r) own = refl

  -- a move without a time leaves them as they were
  pub received_times-same : (ms : List (Move O R)) (m : Move O R) → time_received (count_of ms) m ≡ [] → received_times (ms ++ m ∷ []) ≡ received_times ms
  received_times-same ms m none = received_times-more ms m ∙ ap (λ l. received_times ms ++ l) none ∙ append-nil (received_times ms)

  pub received_times-own : (ms : List (Move O R)) (m : Move O R) → IsOwn m → received_times (ms ++ m ∷ []) ≡ received_times ms
  received_times-own ms m own = received_times-same ms m (own-none (count_of ms) m own)

  untimed-none : (count : ℕ) (m : Move O R) → is_timed m ≡ false → time_received count m ≡ []
  untimed-none count (move.Fork name number from) is = refl
  untimed-none count (move.Operation r op reply) is = refl
  untimed-none count (move.Merge r k) is = refl
  untimed-none count (move.Join r ks) is = refl
  untimed-none count (move.Forward r k) is = refl
  untimed-none count (move.Received parents origin clock None) is = refl
  untimed-none count (move.Received parents origin clock (Some d)) is = absurd (cc)
  untimed-none count (move.Place name number k) is = refl
  untimed-none count (move.Drop r) is = refl

  -- what has no time goes without one
  pub untimed-popped : (ms : List (Move O R)) (m : Move O R) (all : List (Move O R)) (es : List ((ℕ × ℕ) × ℕ)) → all ≡ ms ++ m ∷ [] → is_timed m ≡ false → es ≡ received_times all → es ≡ received_times ms
  untimed-popped ms m all es is un was = was ∙ ap received_times is ∙ received_times-same ms m (untimed-none (count_of ms) m un)

  -- the last time is off again
  pub timed-popped : (ms : List (Move O R)) (m : Move O R) (all : List (Move O R)) (es fs : List ((ℕ × ℕ) × ℕ)) (o : Option ((ℕ × ℕ) × ℕ)) → all ≡ ms ++ m ∷ [] → is_timed m ≡ true → es ≡ received_times all
      → es ≡ fs ++ option_to_list o → (0 < length es → IsSome o) → fs ≡ received_times ms
  timed-popped ms (move.Received parents origin clock (Some d)) all es fs o at timed was is some =
      let m : Move O R = move.Received parents origin clock (Some d) in
      time-off (received_times ms) es fs ((clock, origin), count_of ms) o (was ∙ ap received_times at ∙ received_times-more ms m) is some
  timed-popped ms (move.Received parents origin clock None) all es fs o at timed was is some = absurd (cc)
  timed-popped ms (move.Fork name number from) all es fs o at timed was is some = absurd (cc)
  timed-popped ms (move.Operation r op reply) all es fs o at timed was is some = absurd (cc)
  timed-popped ms (move.Merge r k) all es fs o at timed was is some = absurd (cc)
  timed-popped ms (move.Join r ks) all es fs o at timed was is some = absurd (cc)
  timed-popped ms (move.Forward r k) all es fs o at timed was is some = absurd (cc)
  timed-popped ms (move.Place name number k) all es fs o at timed was is some = absurd (cc)
  timed-popped ms (move.Drop r) all es fs o at timed was is some = absurd (cc)

  -- one time more
  pub timed-pushed : (ms : List (Move O R)) (parents : List ℕ) (origin clock number : ℕ) (act : Option (O × R)) → is_some act ≡ true → number ≡ count_of ms
      → received_times ms ++ ((clock, origin), number) ∷ [] ≡ received_times (ms ++ move.Received parents origin clock act ∷ [])
  timed-pushed ms parents origin clock number None some is = absurd (cc)
  timed-pushed ms parents origin clock number (Some d) some is =
      ap (λ n. received_times ms ++ ((clock, origin), n) ∷ []) is ∙ sym (received_times-more ms (move.Received parents origin clock (Some d)))

  pub untimed-pushed : (ms : List (Move O R)) (parents : List ℕ) (origin clock : ℕ) (act : Option (O × R)) → is_some act ≡ false → received_times ms ≡ received_times (ms ++ move.Received parents origin clock act ∷ [])
  untimed-pushed ms parents origin clock act none = sym (received_times-same ms (move.Received parents origin clock act) (untimed-none (count_of ms) (move.Received parents origin clock act) none))

  pub time-of-some : {P : Type 0} (act : Option (O × R)) → is_some act ≡ true → IfSome act (λ d. P) → P
  time-of-some None some is = absurd (cc)
  time-of-some (Some d) some is = is

  -- the commits that moves make
  one_more : (first : ℕ) (s : Store O R) (m : Move O R) → length (after_move first s m).commits ≡ count_after (length s.commits) m
  one_more first s (move.Fork name number from) = refl
  one_more first s (move.Operation r op reply) = length-append s.commits (operation_commit s.commits (first + r) (head_of s.branches r) op reply ∷ [])
  one_more first s (move.Merge r k) = length-append s.commits (merge_commit s.commits (first + r) (head_of s.branches r ∷ k ∷ []) ∷ [])
  one_more first s (move.Join r ks) = length-append s.commits (merge_commit s.commits (first + r) (head_of s.branches r ∷ ks) ∷ [])
  one_more first s (move.Forward r k) = refl
  one_more first s (move.Received parents origin clock act) = length-append s.commits (received_commit s.commits parents origin clock act ∷ [])
  one_more first s (move.Place name number k) = refl
  one_more first s (move.Drop r) = refl

  all_made : (first : ℕ) (s : Store O R) (ms : List (Move O R)) → length (after_moves first s ms).commits ≡ count_behind (length s.commits) ms
  all_made first s [] = refl
  all_made first s (m ∷ ms) = all_made first (after_move first s m) ms ∙ ap (λ n. count_behind n ms) (one_more first s m)

  pub counts-commits : (first : ℕ) (moves : List (Move O R)) → length (store_of first moves).commits ≡ count_of moves
  unfolding store_of count_of
  counts-commits first moves = all_made first new_store moves

module _ {S O R Q A : Type 0} (meaning : Meaning S O R Q A) (laws : KeepsLaws meaning) (terms : Terms) where
  abbrev at : List (Move O R) → Store O R
  at moves = store_of terms.origin moves

  abbrev has_time : Time → Commit O R → Bool
  has_time t c = option_map_or (λ e. same_time t e.time) c.event false

  -- the table and the commits say the same of a time
  abbrev Tells : Time → List (Move O R) → Type 0
  Tells t moves = commit_at_time (at moves).commits t ≡ received_at moves (t.clock, t.origin)

  tells-none : (t : Time) → Tells t []
  unfolding received_times
  tells-none t = ap (λ (s : Store O R). commit_at_time s.commits t) (store_of-none terms.origin)

  -- of a move that makes no commit
  tells-same : (t : Time) (moves : List (Move O R)) (m : Move O R) → Tells t moves → (after_move terms.origin (at moves) m).commits ≡ (at moves).commits → time_received (count_of moves) m ≡ [] → Tells t (moves ++ m ∷ [])
  tells-same t moves m is same none =
      ap (λ (s : Store O R). commit_at_time s.commits t) (store_of-more terms.origin moves m)
      ∙ ap (λ (cs : List (Commit O R)). commit_at_time cs t) same
      ∙ is
      ∙ ap (lookup (time_eq (t.clock, t.origin))) (sym (received_times-same moves m none))

  -- of a move that makes a commit
  tells-more : (t : Time) (moves : List (Move O R)) (m : Move O R) (c : Commit O R) → Tells t moves → (after_move terms.origin (at moves) m).commits ≡ (at moves).commits ++ c ∷ []
      → cond (has_time t c) (Some (length (at moves).commits)) None ≡ lookup (time_eq (t.clock, t.origin)) (time_received (count_of moves) m) → Tells t (moves ++ m ∷ [])
  tells-more t moves m c is grown both =
      let cs = (at moves).commits in
      ap (λ (s : Store O R). commit_at_time s.commits t) (store_of-more terms.origin moves m)
      ∙ ap (λ (l : List (Commit O R)). commit_at_time l t) grown
      ∙ position_from-more (has_time t) 0 cs c
      ∙ ap (λ n. or_else (commit_at_time cs t) (cond (has_time t c) (Some n) None)) (let e : 0 + length cs ≡ length cs = omega arith in e)
      ∙ ap (λ o. or_else o (cond (has_time t c) (Some (length cs)) None)) is
      ∙ ap (or_else (received_at moves (t.clock, t.origin))) both
      ∙ sym (lookup-more (time_eq (t.clock, t.origin)) (received_times moves) (time_received (count_of moves) m))
      ∙ ap (lookup (time_eq (t.clock, t.origin))) (sym (received_times-more moves m))

  -- a branch's origin is the store's own
  branch-own : (moves : List (Move O R)) → IsValid meaning terms moves → (r : ℕ) → r < length (at moves).branches → is_own terms (terms.origin + r) ≡ true
  branch-own moves valid r there =
      let few = (valid-kept meaning terms laws moves valid).few_branches in
      both_true (le-leb terms.origin (terms.origin + r) (omega arith)) (lt-ltb (terms.origin + r) (terms.origin + terms.limits.branches) (omega arith))
    where
      both_true : {a b : Bool} → a ≡ true → b ≡ true → (a && b) ≡ true
      both_true {a} {b} one two = ap (λ x. x && b) one ∙ two

  other_origin : (clock other : ℕ) (t : Time) → is_own terms t.origin ≡ false → is_own terms other ≡ true → same_time t (record { clock = clock; origin = other }) ≡ false
  unfolding same_time
  other_origin clock other t foreign own = step (t.clock == clock) (t.origin == other) refl
    where
      step : (a b : Bool) → (t.origin == other) ≡ b → (a && b) ≡ false
      step true true is = absurd (let e : t.origin ≡ other = eqb-true t.origin other is in let both = sym foreign ∙ ap (is_own terms) e ∙ own in cc)
      step true false is = refl
      step false b is = refl

  tells-next : (t : Time) → is_own terms t.origin ≡ false → (moves : List (Move O R)) (m : Move O R) → IsValid meaning terms moves → Tells t moves → IsAccepted meaning terms moves m → Tells t (moves ++ m ∷ [])
  unfolding same_time
  tells-next t foreign moves (move.Fork name number from) valid is made = tells-same t moves (move.Fork name number from) is refl refl
  tells-next t foreign moves (move.Operation r op reply) valid is made =
      let s = at moves in
      let h : ℕ = head_of s.branches r in
      let c : Commit O R = operation_commit s.commits (terms.origin + r) h op reply in
      tells-more t moves (move.Operation r op reply) c is refl
      (ap (λ b. cond b (Some (length s.commits)) None) (other_origin (clock_of s.commits h + 1) (terms.origin + r) t foreign (branch-own moves valid r made.there)))
  tells-next t foreign moves (move.Merge r k) valid is made = let s = at moves in tells-more t moves (move.Merge r k) (merge_commit s.commits (terms.origin + r) (head_of s.branches r ∷ k ∷ [])) is refl refl
  tells-next t foreign moves (move.Join r ks) valid is made = let s = at moves in tells-more t moves (move.Join r ks) (merge_commit s.commits (terms.origin + r) (head_of s.branches r ∷ ks)) is refl refl
  tells-next t foreign moves (move.Forward r k) valid is made = tells-same t moves (move.Forward r k) is refl refl
  tells-next t foreign moves (move.Received parents origin clock None) valid is made = tells-more t moves (move.Received parents origin clock None) (received_commit (at moves).commits parents origin clock None) is refl refl
  tells-next t foreign moves (move.Received parents origin clock (Some d)) valid is made =
      tells-more t moves (move.Received parents origin clock (Some d)) (received_commit (at moves).commits parents origin clock (Some d)) is refl
      (ap (λ n. cond ((t.clock == clock) && (t.origin == origin)) (Some n) None) (counts-commits terms.origin moves))
  tells-next t foreign moves (move.Place name number k) valid is made = tells-same t moves (move.Place name number k) is refl refl
  tells-next t foreign moves (move.Drop r) valid is made = tells-same t moves (move.Drop r) is refl refl

  -- of a time that is not the store's own, the table says which commit has it
  pub time-found : (moves : List (Move O R)) → IsValid meaning terms moves → (t : Time) → is_own terms t.origin ≡ false → commit_at_time (at moves).commits t ≡ received_at moves (t.clock, t.origin)
  time-found moves valid t foreign =
      by_moves meaning terms (Tells t) (tells-none t) (λ ms m before is made. tells-next t foreign ms m before is (IsAccepted-from meaning terms ms m made)) moves valid

  -- the table does not have the time of what is received
  pub time-new : (moves : List (Move O R)) → IsValid meaning terms moves → (parents : List ℕ) (origin clock : ℕ) (act : Option (O × R)) → IsMove meaning terms moves (move.Received parents origin clock act)
      → IfSome act (λ d. received_at moves (clock, origin) ≡ None)
  time-new moves valid parents origin clock None made = tt
  time-new moves valid parents origin clock (Some d) made =
      let is = IsAccepted-from meaning terms moves (move.Received parents origin clock (Some d)) made in
      let tells = received_operation-tells meaning terms moves origin is.parent d.0 is.received in
      let t : Time = record { clock = clock_of (at moves).commits is.parent + 1; origin = origin } in
      ap (λ n. received_at moves (n, origin)) is.next ∙ sym (time-found moves valid t tells.0) ∙ tells.1

  -- no commit has a clock greater than its number
  abbrev Low : List (Move O R) → Type 0
  Low moves = (n : ℕ) → clock_of (at moves).commits n ≤ n

  low-none : Low []
  low-none n = subst (λ (s : Store O R). clock_of s.commits n ≤ n) (sym (store_of-none terms.origin)) (first n)
    where
      first : (n : ℕ) → clock_of (new_store {O = O} {R = R}).commits n ≤ n
      first zero = omega arith
      first (suc n) = omega arith

  low-same : (moves : List (Move O R)) (m : Move O R) → Low moves → (after_move terms.origin (at moves) m).commits ≡ (at moves).commits → Low (moves ++ m ∷ [])
  low-same moves m low same n =
      subst (λ (s : Store O R). clock_of s.commits n ≤ n) (sym (store_of-more terms.origin moves m))
      (subst (λ (cs : List (Commit O R)). clock_of cs n ≤ n) (sym same) (low n))

  low-more : (moves : List (Move O R)) (m : Move O R) (c : Commit O R) → Low moves → (after_move terms.origin (at moves) m).commits ≡ (at moves).commits ++ c ∷ [] → c.clock ≤ length (at moves).commits → Low (moves ++ m ∷ [])
  low-more moves m c low grown le n =
      subst (λ (s : Store O R). clock_of s.commits n ≤ n) (sym (store_of-more terms.origin moves m))
      (subst (λ (cs : List (Commit O R)). clock_of cs n ≤ n) (sym grown) (where_at (place n (length (at moves).commits))))
    where
      where_at : Place n (length (at moves).commits) → clock_of ((at moves).commits ++ c ∷ []) n ≤ n
      where_at (old lt) = subst (λ k. k ≤ n) (sym (clock_of-append (at moves).commits (c ∷ []) n lt)) (low n)
      where_at (new e) =
          subst (λ k. clock_of ((at moves).commits ++ c ∷ []) k ≤ k) (sym e)
          (subst (λ k. k ≤ length (at moves).commits) (sym (clock_of-new (at moves).commits c)) le)
      where_at (past lt) =
          let size = length-append (at moves).commits (c ∷ []) in
          let none = clock_of-past ((at moves).commits ++ c ∷ []) n (omega (arith, size, lt)) in
          omega (arith, none)

  low-all : (moves : List (Move O R)) → Low moves → (n : ℕ) → clock_of (at moves).commits n ≤ length (at moves).commits
  low-all moves low n = where_at (place n (length (at moves).commits))
    where
      where_at : Place n (length (at moves).commits) → clock_of (at moves).commits n ≤ length (at moves).commits
      where_at (old lt) = let le = low n in omega (arith, le, lt)
      where_at (new e) = let le = low n in omega (arith, le, e)
      where_at (past lt) = let none = clock_of-past (at moves).commits n (omega (arith, lt)) in omega (arith, none)

  low-greatest : (moves : List (Move O R)) → Low moves → (ns : List ℕ) → greatest_clock (at moves).commits ns ≤ length (at moves).commits
  low-greatest moves low ns = greatest-within (at moves).commits (length (at moves).commits) (low-all moves low) ns

  low-next : (moves : List (Move O R)) (m : Move O R) → IsValid meaning terms moves → Low moves → IsAccepted meaning terms moves m → Low (moves ++ m ∷ [])
  low-next moves (move.Fork name number from) valid low made = low-same moves (move.Fork name number from) low refl
  low-next moves (move.Operation r op reply) valid low made =
      let s = at moves in
      let h : ℕ = head_of s.branches r in
      let there = (valid-kept meaning terms laws moves valid).ordered.heads r made.there in
      let le = low h in
      low-more moves (move.Operation r op reply) (operation_commit s.commits (terms.origin + r) h op reply) low refl (omega (arith, there, le))
  low-next moves (move.Merge r k) valid low made = let s = at moves in low-more moves (move.Merge r k) (merge_commit s.commits (terms.origin + r) (head_of s.branches r ∷ k ∷ [])) low refl (low-greatest moves low (head_of s.branches r ∷ k ∷ []))
  low-next moves (move.Join r ks) valid low made = let s = at moves in low-more moves (move.Join r ks) (merge_commit s.commits (terms.origin + r) (head_of s.branches r ∷ ks)) low refl (low-greatest moves low (head_of s.branches r ∷ ks))
  low-next moves (move.Forward r k) valid low made = low-same moves (move.Forward r k) low refl
  low-next moves (move.Received parents origin clock None) valid low made =
      low-more moves (move.Received parents origin clock None) (received_commit (at moves).commits parents origin clock None) low refl
      (subst (λ k. k ≤ length (at moves).commits) (sym made.greatest) (low-greatest moves low parents))
  low-next moves (move.Received parents origin clock (Some d)) valid low made =
      let le = low made.parent in
      let there = made.stands in
      let next = made.next in
      low-more moves (move.Received parents origin clock (Some d)) (received_commit (at moves).commits parents origin clock (Some d)) low refl (omega (arith, le, there, next))
  low-next moves (move.Place name number k) valid low made = low-same moves (move.Place name number k) low refl
  low-next moves (move.Drop r) valid low made = low-same moves (move.Drop r) low refl

  pub low-clocks : (moves : List (Move O R)) → IsValid meaning terms moves → (n : ℕ) → clock_of (at moves).commits n ≤ n
  low-clocks moves valid = by_moves meaning terms Low low-none (λ ms m before low made. low-next ms m before low (IsAccepted-from meaning terms ms m made)) moves valid
