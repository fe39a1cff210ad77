-- An address and the word that says it.
use Rattle.std.proofs.Common.{◌≡◌, ◌∙◌, ◌+◌, ◌*◌, ◌/◌, ◌%◌, ◌<◌, ◌≤◌, ◌==◌, ◌&&◌, ◌||◌, not, nat_le, nat_lt, ℕ, zero, suc, Bool, true, false, List, [], ◌∷◌, length, slice_index, Option, Some, None, is_some, unwrap_or, Result, Ok, Err, nat_eq, if◌then◌else◌, refl, sym, ap, ap₂, arith, inl, inr}
use Rattle.std.proofs.lemmas.Bool.{and_parts, cases_lt, eqb-true, leb-true, ltb-true, or_cases}
use Rattle.std.specs.List.{list_all}
use Rattle.std.specs.Result.{is_ok, result_ok, result_unwrap_or}
use Rattle.hex.specs.Hex.{IsBytes, decode_of, decode_pairs, digit_or_error, encode_lower, encode_with, hex_digit_value, lower_digits, pair_value, value_at}
use Rattle.hex.specs.declared.error.FromHexError.{FromHexError}
use Rattle.hex.proofs.Pairs.{cons_byte, decode_pairs-ok_pair}
use Rattle.hex.proofs.HexLemmas.{decode_of-encode_lower, decode_of-even, length-encode_with}
use Rattle.clap.specs.Walk.{Text}
use Rattle.branch_command.specs.Bundles.{address_of, is_address_word, is_lower_digit}

-- a test of the first n numbers
abbrev all_below : (ℕ → Bool) → ℕ → Bool
all_below f zero = true
all_below f (suc n) = f n && all_below f n

all_below-at : (f : ℕ → Bool) (n k : ℕ) → all_below f n ≡ true → k < n → f k ≡ true
all_below-at f zero k h lt = absurd (omega arith)
all_below-at f (suc n) k h lt =
    let parts = and_parts (f n) (all_below f n) h in
    elim (cases_lt k n) [
      | inl below ↦ all_below-at f n k parts.1 below
      | inr top ↦
          let e : k ≡ n = omega arith in
          rw e parts.0
    ]

lower_at : (d : ℕ) → d < 16 → is_lower_digit (slice_index lower_digits d) ≡ true
lower_at d low = all_below-at (λ d. is_lower_digit (slice_index lower_digits d)) 16 d refl low

both : (a b : Bool) → a ≡ true → b ≡ true → (a && b) ≡ true
both a b x y = ap₂ (λ p q. p && q) x y

all_lower : (xs : List ℕ) → IsBytes xs → list_all is_lower_digit (encode_lower xs) ≡ true
unfolding encode_with
all_lower [] h = refl
all_lower (b ∷ rest) h =
    let fits : b < 256 = h 0 in
    both _ _ (lower_at (b / 16) (omega arith)) (both _ _ (lower_at (b % 16) (omega arith)) (all_lower rest (λ k. h (suc k))))

-- the word of an address says it
pub said_back : (a : List ℕ) → length a ≡ 32 → IsBytes a → address_of (encode_lower a) ≡ Some a
said_back a long bytes =
    let size : length (encode_lower a) ≡ 64 = length-encode_with lower_digits a ∙ ap (λ (n : ℕ). 2 * n) long in
    let is : is_address_word (encode_lower a) ≡ true = both _ _ (ap (λ (n : ℕ). nat_eq n 64) size) (all_lower a bytes) in
    ap (λ b. if b then result_ok (decode_of (encode_lower a)) else None) is ∙ ap result_ok (decode_of-encode_lower a bytes)

-- ---- the other way

-- no digit, or one that has a value, whose digit it is
abbrev reads_back : ℕ → Bool
reads_back c = not (is_lower_digit c) || (nat_lt (unwrap_or (hex_digit_value c) 99) 16 && slice_index lower_digits (unwrap_or (hex_digit_value c) 99) == c)

small : (c : ℕ) → is_lower_digit c ≡ true → c < 103
small c lower = elim (or_cases (nat_le 48 c && nat_le c 57) (nat_le 97 c && nat_le c 102) lower) [
  | inl figure ↦ let high : c ≤ 57 = leb-true c 57 (and_parts (nat_le 48 c) (nat_le c 57) figure).1 in omega arith
  | inr letter ↦ let high : c ≤ 102 = leb-true c 102 (and_parts (nat_le 97 c) (nat_le c 102) letter).1 in omega arith
]

either : (a b : Bool) → a ≡ true → (not a || b) ≡ true → b ≡ true
either true b holds is = is
either false b holds is = cc

some_value : (o : Option ℕ) → unwrap_or o 99 < 16 → o ≡ Some (unwrap_or o 99)
some_value (Some v) low = refl
some_value None low = absurd (omega (arith, low))

-- the digit of a value below 16 is it again
record IsDigit (c : ℕ) : Type 0 where
  value : ℕ
  read : hex_digit_value c ≡ Some value
  low : value < 16
  back : slice_index lower_digits value ≡ c

digit : (c : ℕ) → is_lower_digit c ≡ true → IsDigit c
digit c lower =
    let v : ℕ = unwrap_or (hex_digit_value c) 99 in
    let both = and_parts (nat_lt v 16) (slice_index lower_digits v == c) (either (is_lower_digit c) _ lower (all_below-at reads_back 103 c refl (small c lower))) in
    let low : v < 16 = ltb-true v 16 both.0 in
    record { value = v; read = some_value (hex_digit_value c) low; low = low; back = eqb-true (slice_index lower_digits v) c both.1 }

behind_pair : (i x y v w : ℕ) (rest a : List ℕ) (r : Result (List ℕ) FromHexError) → slice_index lower_digits v ≡ x → slice_index lower_digits w ≡ y → v < 16 → w < 16
    → ((b : List ℕ) → r ≡ Ok b → encode_lower b ≡ rest) → cons_byte (v * 16 + w) r ≡ Ok a → encode_lower a ≡ x ∷ y ∷ rest
unfolding encode_with
behind_pair i x y v w rest a (Err e) back_x back_y low_x low_y more is = let bad : false ≡ true = ap (λ (r : Result (List ℕ) FromHexError). is_ok r) is in cc
behind_pair i x y v w rest a (Ok b) back_x back_y low_x low_y more is =
    let same : (v * 16 + w) ∷ b ≡ a = ap (λ (r : Result (List ℕ) FromHexError). result_unwrap_or r []) is in
    let high : (v * 16 + w) / 16 ≡ v = omega arith in
    let low : (v * 16 + w) % 16 ≡ w = omega arith in
    let first : slice_index lower_digits ((v * 16 + w) / 16) ≡ x = ap (slice_index lower_digits) high ∙ back_x in
    let second : slice_index lower_digits ((v * 16 + w) % 16) ≡ y = ap (slice_index lower_digits) low ∙ back_y in
    ap encode_lower (sym same) ∙ ap₂ (λ (c : ℕ) (cs : List ℕ). c ∷ cs) first (ap₂ (λ (c : ℕ) (cs : List ℕ). c ∷ cs) second (more b refl))

encoded : (i : ℕ) (s a : List ℕ) → list_all is_lower_digit s ≡ true → decode_pairs i s ≡ Ok a → encode_lower a ≡ s
unfolding encode_with decode_pairs
encoded i [] a lower is = let e : [] ≡ a = ap (λ (r : Result (List ℕ) FromHexError). result_unwrap_or r []) is in ap encode_lower (sym e)
encoded i (x ∷ []) a lower is = cc is
encoded i (x ∷ y ∷ rest) a lower is =
    let first = and_parts (is_lower_digit x) _ lower in
    let second = and_parts (is_lower_digit y) (list_all is_lower_digit rest) first.1 in
    let dx = digit x first.0 in
    let dy = digit y second.0 in
    let hx : value_at x i ≡ Ok dx.value = ap (digit_or_error x i) dx.read in
    let hy : value_at y (i + 1) ≡ Ok dy.value = ap (digit_or_error y (i + 1)) dy.read in
    let pair : pair_value x y i ≡ Ok (dx.value * 16 + dy.value) = rw (hx, hy) refl in
    behind_pair i x y dx.value dy.value rest a (decode_pairs (i + 2) rest) dx.back dy.back dx.low dy.low (λ b read. encoded (i + 2) rest b second.1 read)
    (sym (decode_pairs-ok_pair i x y (dx.value * 16 + dy.value) rest pair) ∙ is)

read_from : (r : Result (List ℕ) FromHexError) (a : List ℕ) → result_ok r ≡ Some a → r ≡ Ok a
read_from (Ok b) a is = let e : b ≡ a = ap (λ (o : Option (List ℕ)). unwrap_or o []) is in ap Ok e
read_from (Err e) a is = let bad : false ≡ true = ap (λ (o : Option (List ℕ)). is_some o) is in cc

-- a word that says an address is the one of that address
pub said_so : (word : Text) (a : List ℕ) → address_of word ≡ Some a → encode_lower a ≡ word
said_so word a is = go (is_address_word word) refl is
  where
    go : (b : Bool) → is_address_word word ≡ b → (if b then result_ok (decode_of word) else None) ≡ Some a → encode_lower a ≡ word
    go false short says = let bad : false ≡ true = ap (λ (o : Option (List ℕ)). is_some o) says in cc
    go true whole says =
        let parts = and_parts (nat_eq (length word) 64) (list_all is_lower_digit word) whole in
        let long : length word ≡ 64 = eqb-true (length word) 64 parts.0 in
        let even : length word % 2 ≡ 0 = omega (arith, long) in
        encoded 0 word a parts.1 (sym (decode_of-even word even) ∙ read_from (decode_of word) a says)
