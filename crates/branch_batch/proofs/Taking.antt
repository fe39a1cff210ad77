-- What is taken of the jobs that wait, and what is left.
use Rattle.std.proofs.Common.{◌≡◌, ℕ, zero, suc, ◌≤◌, Bool, true, false, List, [], ◌∷◌, ◌++◌, map, length, take, drop, option_to_list, Option, Some, None, cond, ap, arith, length-append}
use Rattle.branch_batch.specs.Lists.{RisesFrom, first_of, all_but}
use Rattle.branch_batch.specs.Tickets.{Numbered}
use Rattle.branch_batch.specs.Lines.{number_of, is_first, batch_of, left_of}
use Rattle.branch_batch.proofs.Rising.{rises_take, rises_drop, rises_but, rises_own}

take_short : {X : Type 0} (k : ℕ) (xs : List X) → length (take k xs) ≤ k
take_short zero xs = omega arith
take_short (suc k) [] = omega arith
take_short (suc k) (x ∷ xs) = let rest = take_short k xs in omega (arith, rest)

one_short : {X : Type 0} (x : Option X) → length (option_to_list x) ≤ 1
one_short None = omega arith
one_short (Some x) = omega arith

module _ {J : Type 0} (own : ℕ) (jobs : List (Numbered J)) where
  pub batch_first : is_first own jobs ≡ true → batch_of own jobs ≡ take 64 jobs
  batch_first is = ap (λ b. cond b (take 64 jobs) (take 63 jobs ++ option_to_list (first_of number_of own (drop 63 jobs)))) is

  pub batch_own : is_first own jobs ≡ false → batch_of own jobs ≡ take 63 jobs ++ option_to_list (first_of number_of own (drop 63 jobs))
  batch_own is = ap (λ b. cond b (take 64 jobs) (take 63 jobs ++ option_to_list (first_of number_of own (drop 63 jobs)))) is

  pub left_first : is_first own jobs ≡ true → left_of own jobs ≡ drop 64 jobs
  left_first is = ap (λ b. cond b (drop 64 jobs) (all_but number_of own (drop 63 jobs))) is

  pub left_own : is_first own jobs ≡ false → left_of own jobs ≡ all_but number_of own (drop 63 jobs)
  left_own is = ap (λ b. cond b (drop 64 jobs) (all_but number_of own (drop 63 jobs))) is

  few : (b : Bool) → length (cond b (take 64 jobs) (take 63 jobs ++ option_to_list (first_of number_of own (drop 63 jobs)))) ≤ 64
  few true = take_short 64 jobs
  few false = let first = take_short 63 jobs in let one = one_short (first_of number_of own (drop 63 jobs)) in
      omega (arith, length-append (take 63 jobs) (option_to_list (first_of number_of own (drop 63 jobs))), first, one)

  -- at most 64 are taken
  pub batch_few : length (batch_of own jobs) ≤ 64
  batch_few = few (is_first own jobs)

  rises : (b : Bool) (last : ℕ) → RisesFrom 0 (map number_of jobs) last → RisesFrom 0 (map number_of (cond b (take 64 jobs) (take 63 jobs ++ option_to_list (first_of number_of own (drop 63 jobs))))) last
  rises true last up = rises_take number_of 64 0 jobs last up
  rises false last up = rises_own number_of own 63 0 jobs last up

  -- in the order in which they were put
  pub batch_rises : (last : ℕ) → RisesFrom 0 (map number_of jobs) last → RisesFrom 0 (map number_of (batch_of own jobs)) last
  batch_rises last up = rises (is_first own jobs) last up

  stay : (b : Bool) (last : ℕ) → RisesFrom 0 (map number_of jobs) last → RisesFrom 0 (map number_of (cond b (drop 64 jobs) (all_but number_of own (drop 63 jobs)))) last
  stay true last up = rises_drop number_of 64 0 jobs last up
  stay false last up = rises_but number_of own 0 (drop 63 jobs) last (rises_drop number_of 63 0 jobs last up)

  -- and so are those that are left
  pub left_rises : (last : ℕ) → RisesFrom 0 (map number_of jobs) last → RisesFrom 0 (map number_of (left_of own jobs)) last
  left_rises last up = stay (is_first own jobs) last up
