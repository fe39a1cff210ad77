-- Whole numbers as words of a line.
use Rattle.std.specs.Prelude.{ℕ, ℤ, pos, neg_ℤ, ◌+◌, ◌-◌, ◌*◌, ◌^◌, Bool, false, ◌&&◌, not, nat_eq, nat_lt, bytes_eq, codes, Option, Some, None, List, [], ◌∷◌, if◌then◌else◌}
use Rattle.std.specs.Char.{is_ascii_digit}
use Rattle.std.specs.List.{list_all}
use Rattle.std.specs.Option.{option_map}

-- the number that the digits of a number so far, and these behind them, say
abbrev pub read_on : ℕ → List ℕ → ℕ
read_on n [] = n
read_on n (d ∷ ds) = read_on (10 * n + (d - 48)) ds

-- digits, of which the first is not 0
abbrev pub is_positive : List ℕ → Bool
is_positive [] = false
is_positive (d ∷ ds) = not (nat_eq d 48) && list_all is_ascii_digit (d ∷ ds)

-- the number below a bound that such a word says
abbrev pub positive_of : ℕ → List ℕ → Option ℕ
positive_of bound word = if is_positive word && nat_lt (read_on 0 word) bound then Some (read_on 0 word) else None

-- `0`, or an optional `-`, a digit 1 to 9 and further digits, from -2 ^ 63 to 2 ^ 63 - 1
abbrev pub integer_of : List ℕ → Option ℤ
integer_of [] = None
integer_of (b ∷ bs) =
    if bytes_eq (b ∷ bs) (codes "0") then Some (pos 0)
    else if nat_eq b 45 then option_map (λ n. neg_ℤ (pos n)) (positive_of (2 ^ 63 + 1) bs)
    else option_map (λ n. pos n) (positive_of (2 ^ 63) (b ∷ bs))

-- `0`, or a digit 1 to 9 and further digits, up to 2 ^ 32 - 1
abbrev pub place_of : List ℕ → Option ℕ
place_of word = if bytes_eq word (codes "0") then Some 0 else positive_of (2 ^ 32) word
