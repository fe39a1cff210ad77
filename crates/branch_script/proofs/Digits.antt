-- Numbers that are read digit by digit.
use Rattle.std.proofs.Common.{◌≡◌, ℕ, ◌+◌, ◌-◌, ◌*◌, ◌<◌, ◌≤◌, List, [], ◌∷◌, length, drop, get_or, arith, drop-cons, add-one}
use Rattle.branch_script.specs.Numbers.{read_on}

pub read_on-ge : (n : ℕ) (ds : List ℕ) → n ≤ read_on n ds
read_on-ge n [] = omega arith
read_on-ge n (d ∷ ds) = let more = read_on-ge (10 * n + (d - 48)) ds in omega (arith, more)

-- one digit further
pub read_on-drop : (n i : ℕ) (ds : List ℕ) → i < length ds → read_on n (drop i ds) ≡ read_on (10 * n + (get_or ds i 0 - 48)) (drop (i + 1) ds)
read_on-drop n i ds h = let cut : drop i ds ≡ get_or ds i 0 ∷ drop (i + 1) ds = rw (add-one, drop-cons ds i 0) in rw cut

-- the number is at least what it is after one digit more
pub read_on-drop_ge : (n i : ℕ) (ds : List ℕ) → i < length ds → 10 * n + (get_or ds i 0 - 48) ≤ read_on n (drop i ds)
read_on-drop_ge n i ds h = let next = read_on-drop n i ds h in let more = read_on-ge (10 * n + (get_or ds i 0 - 48)) (drop (i + 1) ds) in omega (arith, next, more)
