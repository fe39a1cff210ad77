-- The number that a word says.
use Rattle.std.proofs.Common.{◌≡◌, ◌∙◌, ◌&&◌, not, nat_eq, ap₂, ◌<◌, ◌≤◌, ◌^◌, ℕ, Bool, true, false, List, [], ◌∷◌, Option, Some, None, Result, Ok, Err, if◌then◌else◌, nat_le, length, arith, refl, sym, ap, rules}
use Rattle.std.specs.Char.{is_ascii_digit}
use Rattle.std.specs.List.{list_all}
use Rattle.std.specs.Prelude.{slice_get}
use Rattle.std.specs.Result.{OkIff}
use Rattle.std.proofs.lemmas.Bool.{leb-true, ne_eqb}
use Rattle.std.specs.Str.Parse.{ParsesUnsigned, digits_value}
use Rattle.std.proofs.lemmas.Str.Parse.{IsNumeralModel, numerals_by_value, parse_plain}
use Rattle.branch_command.specs.Numbers.{is_positive, number_of}

own : IsNumeralModel (λ ds. list_all is_ascii_digit ds ≡ true) (digits_value 10)
own = numerals_by_value _ (search rules)

-- what std reads, if it is at most a greatest number
abbrev pub up_to : {E : Type 0} → ℕ → Result ℕ E → Option ℕ
up_to most (Ok n) = if nat_le n most then Some n else None
up_to most (Err e) = None

pub split : (a b : Bool) → (a && b) ≡ true → (a ≡ true) × (b ≡ true)
split true b e = (refl, e)
split false b e = cc

digits_read : {E : Type 0} (most d : ℕ) (ds : List ℕ) (r : Result ℕ E) → is_ascii_digit d ≡ true → (d ≡ 48 → ⊥) → most < 2 ^ 64
    → OkIff r ((list_all is_ascii_digit (d ∷ ds) ≡ true) × (0 < length (d ∷ ds)) × (digits_value 10 (d ∷ ds) < 2 ^ 64)) (digits_value 10 (d ∷ ds))
    → up_to most r ≡ number_of most (d ∷ ds)
digits_read most d ds (Ok n) digit nonzero fits h =
    let z : nat_eq d 48 ≡ false = ne_eqb d 48 nonzero in
    let good : is_positive (d ∷ ds) ≡ true = ap₂ (λ x y. not x && y) z h.0.0 in
    ap (λ m. if nat_le m most then Some m else None) h.1
    ∙ sym (ap (λ b. if b && nat_le (digits_value 10 (d ∷ ds)) most then Some (digits_value 10 (d ∷ ds)) else None) good)
digits_read most d ds (Err e) digit nonzero fits h = go (is_positive (d ∷ ds) && nat_le (digits_value 10 (d ∷ ds)) most) refl
  where
    go : (b : Bool) → (is_positive (d ∷ ds) && nat_le (digits_value 10 (d ∷ ds)) most) ≡ b
        → None ≡ (if b then Some (digits_value 10 (d ∷ ds)) else None)
    go false e = refl
    go true e =
        let parts = split (is_positive (d ∷ ds)) _ e in
        let all = split (not (nat_eq d 48)) _ parts.0 in
        let low : digits_value 10 (d ∷ ds) ≤ most = leb-true _ _ parts.1 in
        absurd (h (all.1, omega arith, omega arith))

-- what std reads of a word that begins with a digit 1 to 9 is the number of the word
pub number_read : {E : Type 0} (most d : ℕ) (word : List ℕ) (r : Result ℕ E) → Some d ≡ slice_get word 0 → is_ascii_digit d ≡ true → (d ≡ 48 → ⊥) → most < 2 ^ 64
    → ParsesUnsigned 64 10 word r → up_to most r ≡ number_of most word
number_read most d [] r first digit nonzero fits parses = cc
number_read most d (x ∷ xs) r first digit nonzero fits parses =
    let same : d ≡ x = cc in
    let here : is_ascii_digit x ≡ true = ap is_ascii_digit (sym same) ∙ digit in
    let above : 48 ≤ x = leb-true 48 x (split (nat_le 48 x) _ here).0 in
    digits_read most x xs r here (λ e. nonzero (same ∙ e)) fits (parse_plain own 64 (x ∷ xs) r parses (λ e. let e43 : x ≡ 43 = e in omega arith))
