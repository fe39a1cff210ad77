-- Entries and their moments.
use Rattle.std.proofs.Common.{◌≡◌, ℕ, ◌+◌, Bool, true, false, cond, List, [], ◌∷◌, ◌++◌, length, drop, replicate, refl, ap, sym, ◌∙◌, arith, append_assoc, length-append, nat_lt}
use Rattle.std.proofs.lemmas.Bool.Decides.{nat_tests}
use Rattle.std.proofs.lemmas.List.{append-nil, map-append, length-map}
use mathlib.Core.List.{IsPrefix}
use Rattle.branch_front.proofs.Prefixes.{prefix_trans}
use Rattle.branch_front.specs.Lists.{longer}
use Rattle.branch_history.specs.declared.moves.Move.{Move}
use Rattle.branch_shared.specs.declared.name.Entry.{Entry}
use Rattle.branch_shared.specs.Entries.{moves_of, moments_of, entries_at, AreNoted}
use Rattle.branch_shared.specs.Passes.{PassView, KnowsMoments}

-- what a list has behind its front
pub drop-front : {X : Type 0} (front rest : List X) → drop (length front) (front ++ rest) ≡ rest
drop-front [] rest = refl
drop-front (x ∷ front) rest = drop-front front rest

-- moments, and behind them some number of times this one
pub record GoOn (since : ℕ) (old new : List ℕ) : Type 0 where
  pub count : ℕ
  pub is : new ≡ old ++ replicate count since

lt-same : (n i j : ℕ) → nat_lt (n + i) (n + j) ≡ nat_lt i j
lt-same n i j = grind (arith, nat_tests)

choose-one : {X Y : Type 0} (f : X → Y) (b : Bool) (x y : X) → f (cond b x y) ≡ cond b (f x) (f y)
choose-one f true x y = refl
choose-one f false x y = refl

choose : {X Y : Type 0} (f : X → Y) (b c : Bool) (x y : X) → b ≡ c → f (cond b x y) ≡ cond c (f x) (f y)
choose {X} {Y} f b c x y same = choose-one f b x y ∙ ap (λ (d : Bool). cond d (f x) (f y)) same

module _ {O R : Type 0} where
  pub moves-at : (since : ℕ) (moves : List (Move O R)) → moves_of (entries_at since moves) ≡ moves
  moves-at since [] = refl
  moves-at since (m ∷ moves) = ap (λ (l : List (Move O R)). m ∷ l) (moves-at since moves)

  pub moments-at : (since : ℕ) (moves : List (Move O R)) → moments_of (entries_at since moves) ≡ replicate (length moves) since
  moments-at since [] = refl
  moments-at since (m ∷ moves) = ap (λ (l : List ℕ). since ∷ l) (moments-at since moves)

  pub moves-append : (xs ys : List (Entry O R)) → moves_of (xs ++ ys) ≡ moves_of xs ++ moves_of ys
  moves-append xs ys = map-append (λ (e : Entry O R). e.made) xs ys

  pub moments-append : (xs ys : List (Entry O R)) → moments_of (xs ++ ys) ≡ moments_of xs ++ moments_of ys
  moments-append xs ys = map-append (λ (e : Entry O R). e.since) xs ys

  pub prefix-moves : (xs ys : List (Entry O R)) → IsPrefix xs ys → IsPrefix (moves_of xs) (moves_of ys)
  prefix-moves xs ys p = (moves_of p.0, sym (moves-append xs p.0) ∙ ap (λ (l : List (Entry O R)). moves_of l) p.1)

  pub prefix-moments : (xs ys : List (Entry O R)) → IsPrefix xs ys → IsPrefix (moments_of xs) (moments_of ys)
  prefix-moments xs ys p = (moments_of p.0, sym (moments-append xs p.0) ∙ ap (λ (l : List (Entry O R)). moments_of l) p.1)

  pub long-moves : (xs : List (Entry O R)) → length (moves_of xs) ≡ length xs
  long-moves xs = length-map xs (λ (e : Entry O R). e.made)

  pub long-moments : (xs : List (Entry O R)) → length (moments_of xs) ≡ length xs
  long-moments xs = length-map xs (λ (e : Entry O R). e.since)

  -- there is one moment for each move behind those that a store began with
  pub each-known : (begun : List (Move O R)) (xs : List (Entry O R)) → length begun + length (moments_of xs) ≡ length (begun ++ moves_of xs)
  each-known begun xs = omega (arith, long-moments xs, long-moves xs, length-append begun (moves_of xs))

  pub long-behind : (begun : List (Move O R)) (xs : List (Entry O R)) (history : List (Move O R)) → history ≡ begun ++ moves_of xs → length history ≡ length begun + length xs
  long-behind begun xs history is = omega (arith, ap length is, long-moves xs, length-append begun (moves_of xs))

  pub moves-longer : (begun : List (Move O R)) (xs ys : List (Entry O R)) → begun ++ moves_of (longer xs ys) ≡ longer (begun ++ moves_of xs) (begun ++ moves_of ys)
  moves-longer begun xs ys = choose (λ (l : List (Entry O R)). begun ++ moves_of l) (nat_lt (length xs) (length ys)) (nat_lt (length (begun ++ moves_of xs)) (length (begun ++ moves_of ys))) ys xs
      (let one : length (begun ++ moves_of xs) ≡ length begun + length xs = omega (arith, long-moves xs, length-append begun (moves_of xs)) in
      let two : length (begun ++ moves_of ys) ≡ length begun + length ys = omega (arith, long-moves ys, length-append begun (moves_of ys)) in
      sym (lt-same (length begun) (length xs) (length ys)) ∙ sym (ap (λ (n : ℕ). nat_lt n (length (begun ++ moves_of ys))) one ∙ ap (λ (n : ℕ). nat_lt (length begun + length xs) n) two))

  pub moments-longer : (xs ys : List (Entry O R)) → moments_of (longer xs ys) ≡ longer (moments_of xs) (moments_of ys)
  moments-longer xs ys = choose (λ (l : List (Entry O R)). moments_of l) (nat_lt (length xs) (length ys)) (nat_lt (length (moments_of xs)) (length (moments_of ys))) ys xs
      (sym (ap (λ (n : ℕ). nat_lt n (length (moments_of ys))) (long-moments xs) ∙ ap (λ (n : ℕ). nat_lt (length xs) n) (long-moments ys)))

  -- nothing is noted, or what is noted is behind what was
  pub noted-none : (since : ℕ) (entries : List (Entry O R)) → AreNoted since entries entries
  noted-none since entries = ([], sym (append-nil entries))

  pub noted-both : (since : ℕ) (a b c : List (Entry O R)) → AreNoted since a b → AreNoted since b c → AreNoted since a c
  noted-both since a b c p q =
      let one = ap (λ (l : List (Entry O R)). l ++ entries_at since q.0) p.1 in
      let two = append_assoc a (entries_at since p.0) (entries_at since q.0) in
      let three = map-append (λ (m : Move O R). let e : Entry O R = record { made = m; since = since } in e) p.0 q.0 in
      (p.0 ++ q.0, q.1 ∙ (one ∙ (two ∙ ap (λ (l : List (Entry O R)). a ++ l) (sym three))))

  pub noted-moments : (since : ℕ) (old new : List (Entry O R)) → AreNoted since old new → GoOn since (moments_of old) (moments_of new)
  noted-moments since old new p = record {
    count = length p.0;
    is = ap (λ (l : List (Entry O R)). moments_of l) p.1 ∙ (moments-append old (entries_at since p.0) ∙ ap (λ (l : List ℕ). moments_of old ++ l) (moments-at since p.0));
  }

  pub noted-moves : (since : ℕ) (old new : List (Entry O R)) (p : AreNoted since old new) → moves_of new ≡ moves_of old ++ p.0
  noted-moves since old new p = ap (λ (l : List (Entry O R)). moves_of l) p.1 ∙ (moves-append old (entries_at since p.0) ∙ ap (λ (l : List (Move O R)). moves_of old ++ l) (moves-at since p.0))

-- what a pass knows it still knows behind what it learns later
pub knows-both : {M : Type 0} (begun : List M) (a b c : PassView M) → KnowsMoments begun a b → KnowsMoments begun b c → KnowsMoments begun a c
knows-both begun a b c p q = (prefix_trans a.sure b.sure c.sure p.0 q.0, q.1)
