-- Numbers that rise.
use Rattle.std.proofs.Common.{◌≡◌, ℕ, zero, suc, ◌+◌, ◌≤◌, ◌==◌, Bool, true, false, List, [], ◌∷◌, ◌++◌, map, take, drop, option_to_list, Some, cond, arith}
use Rattle.branch_batch.specs.Lists.{RisesFrom, first_of, all_but}

-- the bounds stand in order
pub rises_bounds : (first : ℕ) (ns : List ℕ) (last : ℕ) → RisesFrom first ns last → first ≤ last
rises_bounds first [] last rises = rises
rises_bounds first (n ∷ ns) last rises = let rest = rises_bounds (suc n) ns last rises.1 in omega (arith, rest, rises.0)

-- a lower bound does, and a higher last one
pub rises_lower : (first lower : ℕ) (ns : List ℕ) (last : ℕ) → lower ≤ first → RisesFrom first ns last → RisesFrom lower ns last
rises_lower first lower [] last le rises = omega (arith, le, rises)
rises_lower first lower (n ∷ ns) last le rises = (omega (arith, le, rises.0), rises.1)

pub rises_higher : (first : ℕ) (ns : List ℕ) (last higher : ℕ) → last ≤ higher → RisesFrom first ns last → RisesFrom first ns higher
rises_higher first [] last higher le rises = omega (arith, le, rises)
rises_higher first (n ∷ ns) last higher le rises = (rises.0, rises_higher (suc n) ns last higher le rises.1)

module _ {X : Type 0} (key : X → ℕ) where
  -- one more, with the number that comes next
  pub rises_more : (first : ℕ) (xs : List X) (x : X) (last : ℕ) → key x ≡ last → RisesFrom first (map key xs) last → RisesFrom first (map key (xs ++ x ∷ [])) (last + 1)
  rises_more first [] x last is rises = (omega (arith, is, rises), omega (arith, is))
  rises_more first (y ∷ xs) x last is rises = (rises.0, rises_more (suc (key y)) xs x last is rises.1)

  pub rises_take : (k first : ℕ) (xs : List X) (last : ℕ) → RisesFrom first (map key xs) last → RisesFrom first (map key (take k xs)) last
  rises_take zero first xs last rises = rises_bounds first (map key xs) last rises
  rises_take (suc k) first [] last rises = rises
  rises_take (suc k) first (x ∷ xs) last rises = (rises.0, rises_take k (suc (key x)) xs last rises.1)

  pub rises_drop : (k first : ℕ) (xs : List X) (last : ℕ) → RisesFrom first (map key xs) last → RisesFrom first (map key (drop k xs)) last
  rises_drop zero first xs last rises = rises
  rises_drop (suc k) first [] last rises = rises
  rises_drop (suc k) first (x ∷ xs) last rises =
      rises_lower (suc (key x)) first (map key (drop k xs)) last (omega (arith, rises.0)) (rises_drop k (suc (key x)) xs last rises.1)

  module _ (number : ℕ) where
    but_rises : (b : Bool) (first : ℕ) (x : X) (xs : List X) (last : ℕ) → RisesFrom first (map key (x ∷ xs)) last → RisesFrom (suc (key x)) (map key (all_but key number xs)) last
        → RisesFrom first (map key (cond b xs (x ∷ all_but key number xs))) last
    but_rises true first x xs last rises rest = rises_lower (suc (key x)) first (map key xs) last (omega (arith, rises.0)) rises.1
    but_rises false first x xs last rises rest = (rises.0, rest)

    -- without one of them they still rise
    pub rises_but : (first : ℕ) (xs : List X) (last : ℕ) → RisesFrom first (map key xs) last → RisesFrom first (map key (all_but key number xs)) last
    rises_but first [] last rises = rises
    rises_but first (x ∷ xs) last rises = but_rises (key x == number) first x xs last rises (rises_but (suc (key x)) xs last rises.1)

    one_rises : (b : Bool) (first : ℕ) (x : X) (xs : List X) (last : ℕ) → RisesFrom first (map key (x ∷ xs)) last
        → RisesFrom (suc (key x)) (map key (option_to_list (first_of key number xs))) last
        → RisesFrom first (map key (option_to_list (cond b (Some x) (first_of key number xs)))) last
    one_rises true first x xs last rises rest = (rises.0, rises_bounds (suc (key x)) (map key xs) last rises.1)
    one_rises false first x xs last rises rest =
        rises_lower (suc (key x)) first (map key (option_to_list (first_of key number xs))) last (omega (arith, rises.0)) rest

    -- one of them alone does
    pub rises_one : (first : ℕ) (xs : List X) (last : ℕ) → RisesFrom first (map key xs) last → RisesFrom first (map key (option_to_list (first_of key number xs))) last
    rises_one first [] last rises = rises
    rises_one first (x ∷ xs) last rises = one_rises (key x == number) first x xs last rises (rises_one (suc (key x)) xs last rises.1)

    -- and so do the first ones with one of the others behind them
    pub rises_own : (k first : ℕ) (xs : List X) (last : ℕ) → RisesFrom first (map key xs) last
        → RisesFrom first (map key (take k xs ++ option_to_list (first_of key number (drop k xs)))) last
    rises_own zero first xs last rises = rises_one first xs last rises
    rises_own (suc k) first [] last rises = rises
    rises_own (suc k) first (x ∷ xs) last rises = (rises.0, rises_own k (suc (key x)) xs last rises.1)
