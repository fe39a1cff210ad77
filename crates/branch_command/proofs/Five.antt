-- The five numbers of a store's limits are in their ranges.
use Rattle.std.proofs.Common.{◌≡◌, ◌+◌, ◌*◌, ◌≤◌, ◌&&◌, ℕ, Bool, true, false, List, [], ◌∷◌, Option, Some, None, IfNone, IsSome, if◌then◌else◌, nat_eq, nat_le, not, codes, arith, refl}
use Rattle.std.specs.Char.{digit_value, is_ascii_digit}
use Rattle.std.specs.Str.Parse.{digits_value, digits_value_after}
use Rattle.std.proofs.lemmas.Bool.{eqb-false, leb-true}
use Rattle.std.proofs.lemmas.Str.{digit_value_digit}
use Rattle.clap.specs.Walk.{Row, first_of}
use Rattle.branch_names.specs.Ranges.{AreInRange}
use Rattle.branch_command.specs.Numbers.{Numbers, is_positive, number_of, number_or, numbers_of}
use Rattle.branch_command.proofs.Digits.{split}

-- each number is what its option says
pub record Reads (given : List Row) (n : Numbers) : Type 0 where
  pub clock : Some n.clock ≡ number_or 18446744073709551615 18446744073709551615 (first_of (codes "max-clock") given)
  pub commits : Some n.commits ≡ number_or 4294967295 16777216 (first_of (codes "max-commits") given)
  pub branches : Some n.branches ≡ number_or 4294967295 65536 (first_of (codes "max-branches") given)
  pub value : Some n.value ≡ number_or 1073741824 16777216 (first_of (codes "max-value") given)
  pub moves : Some n.moves ≡ number_or 281474976710656 1099511627776 (first_of (codes "max-moves") given)

pub all_read : (given : List Row) (n : Numbers) → Reads given n → numbers_of given ≡ Some n
all_read given n r = rw (← r.clock, ← r.commits, ← r.branches, ← r.value, ← r.moves)

after_ge : (n : ℕ) (ds : List ℕ) → n ≤ digits_value_after 10 n ds
after_ge n [] = omega arith
after_ge n (d ∷ ds) = let more = after_ge (n * 10 + digit_value d) ds in omega (arith, more)

false_of : (b : Bool) → not b ≡ true → b ≡ false
false_of true e = cc
false_of false e = refl

positive_low : (word : List ℕ) → is_positive word ≡ true → 1 ≤ digits_value 10 word
positive_low [] e = cc
positive_low (d ∷ ds) e =
    let parts = split (not (nat_eq d 48)) _ e in
    let nonzero = eqb-false d 48 (false_of (nat_eq d 48) parts.0) in
    let digit = split (is_ascii_digit d) _ parts.1 in
    let range = split (nat_le 48 d) _ digit.0 in
    let low : 48 ≤ d = leb-true 48 d range.0 in
    let high : d ≤ 57 = leb-true d 57 range.1 in
    let is = digit_value_digit d (low, high) in
    let more = after_ge (0 * 10 + digit_value d) ds in
    omega (arith, is, more, nonzero)

-- what a word says is positive, and at most the greatest number
pub number_low_high : (most n : ℕ) (word : List ℕ) → Some n ≡ number_of most word → (1 ≤ n) × (n ≤ most)
number_low_high most n word e = go (is_positive word && nat_le (digits_value 10 word) most) refl e
  where
    go : (b : Bool) → (is_positive word && nat_le (digits_value 10 word) most) ≡ b
        → Some n ≡ (if b then Some (digits_value 10 word) else None) → (1 ≤ n) × (n ≤ most)
    go false is e = cc
    go true is e =
        let parts = split (is_positive word) _ is in
        let same : n ≡ digits_value 10 word = cc in
        let low = positive_low word parts.0 in
        let high : digits_value 10 word ≤ most = leb-true _ _ parts.1 in
        rw same (low, high)

-- the number of an option is positive, and at most its greatest one
pub low_high : (most usual n : ℕ) (o : Option (List ℕ)) → 1 ≤ usual → usual ≤ most → Some n ≡ number_or most usual o → (1 ≤ n) × (n ≤ most)
low_high most usual n None low high e = let same : n ≡ usual = cc in (omega arith, omega arith)
low_high most usual n (Some word) low high e = number_low_high most n word e

pub in_range : (given : List Row) (n : Numbers) → Reads given n → AreInRange n.clock n.commits n.branches n.value n.moves
in_range given n r =
    let clock = low_high 18446744073709551615 18446744073709551615 n.clock (first_of (codes "max-clock") given) (omega arith) (omega arith) r.clock in
    let commits = low_high 4294967295 16777216 n.commits (first_of (codes "max-commits") given) (omega arith) (omega arith) r.commits in
    let branches = low_high 4294967295 65536 n.branches (first_of (codes "max-branches") given) (omega arith) (omega arith) r.branches in
    let value = low_high 1073741824 16777216 n.value (first_of (codes "max-value") given) (omega arith) (omega arith) r.value in
    let moves = low_high 281474976710656 1099511627776 n.moves (first_of (codes "max-moves") given) (omega arith) (omega arith) r.moves in
    record {
      clock_low = clock.0;
      clock_high = clock.1;
      commits_low = commits.0;
      commits_high = commits.1;
      branches_low = branches.0;
      branches_high = branches.1;
      value_low = value.0;
      value_high = value.1;
      moves_low = moves.0;
      moves_high = moves.1;
    }

pub never_none : {X : Type 0} (o : Option X) (P : Type 0) → IsSome o → IfNone o P
never_none (Some x) P some = tt
never_none None P some = cc
