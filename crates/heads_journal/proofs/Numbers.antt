-- The numbers of commits that are joined, in 32 bytes.
use Rattle.std.proofs.Common.{◌≡◌, ℕ, zero, suc, ◌+◌, ◌-◌, ◌*◌, ◌<◌, ◌≤◌, ◌^◌, List, [], ◌∷◌, ◌++◌, length, take, drop, get_or, true, refl, sym, ◌∙◌, ap, arith, length-append, take-append-drop, length-drop}
use Rattle.std.specs.Prelude.{replicate}
use Rattle.std.specs.List.{flat_map, list_all, AllByRecursion}
use Rattle.std.proofs.lemmas.List.{take_at, drop_at, length-replicate, length-take-le, drop-drop}
use Rattle.branch_wire.specs.Fields.{short_number}
use Rattle.branch_wire.proofs.Numbers.{same_parts, length-short_number, short_number-same}
use Rattle.heads_journal.specs.Numbers.{filled, numbers_body, AreNumbers, IsJoined}
use Rattle.heads_journal.proofs.Padding.{all_zeros, zeros_are, is_zero}

pub length-numbers : (ns : List ℕ) → length (flat_map short_number ns) ≡ 4 * length ns
length-numbers [] = refl
length-numbers (n ∷ ns) = omega (arith, length-append (short_number n) (flat_map short_number ns), length-short_number n, length-numbers ns)

pub length-filled : (ns : List ℕ) → length ns ≤ 8 → length (filled ns) ≡ 8
length-filled ns few = omega (arith, few, length-append ns (replicate (8 - length ns) 0), length-replicate {A = ℕ} (8 - length ns) 0)

pub length-numbers_body : (ns : List ℕ) → length ns ≤ 8 → length (numbers_body ns) ≡ 32
length-numbers_body ns few = omega (arith, length-numbers (filled ns), length-filled ns few)

-- lists of as many numbers are read in one way
numbers-same : (ns ms : List ℕ) → length ns ≡ length ms → AllByRecursion (λ n. n < 2 ^ 32) ns → AllByRecursion (λ n. n < 2 ^ 32) ms → flat_map short_number ns ≡ flat_map short_number ms → ns ≡ ms
numbers-same [] [] many p q is = refl
numbers-same [] (m ∷ ms) many p q is = absurd (omega (arith, many))
numbers-same (n ∷ ns) [] many p q is = absurd (omega (arith, many))
numbers-same (n ∷ ns) (m ∷ ms) many p q is =
    let parts = same_parts (short_number n) (flat_map short_number ns) (short_number m) (flat_map short_number ms) (length-short_number n ∙ sym (length-short_number m)) is in
    ap (λ (k : ℕ). k ∷ ns) (short_number-same n m p.0 q.0 parts.0) ∙ ap (λ (l : List ℕ). m ∷ l) (numbers-same ns ms (omega (arith, many)) p.1 q.1 parts.1)

small-zeros : (k : ℕ) → AllByRecursion (λ n. n < 2 ^ 32) (replicate k 0)
small-zeros zero = tt
small-zeros (suc k) = (omega arith, small-zeros k)

small-append : (ns ms : List ℕ) → AllByRecursion (λ n. n < 2 ^ 32) ns → AllByRecursion (λ n. n < 2 ^ 32) ms → AllByRecursion (λ n. n < 2 ^ 32) (ns ++ ms)
small-append [] ms p q = q
small-append (n ∷ ns) ms p q = (p.0, small-append ns ms p.1 q)

pub small-filled : (ns : List ℕ) → AreNumbers ns → AllByRecursion (λ n. n < 2 ^ 32) (filled ns)
small-filled ns are = small-append ns (replicate (8 - length ns) 0) are.small (small-zeros (8 - length ns))

-- eight numbers that spell the bytes of some are these, filled up
pub spelled-filled : (ns all : List ℕ) → AreNumbers ns → length all ≡ 8 → AllByRecursion (λ n. n < 2 ^ 32) all → numbers_body ns ≡ flat_map short_number all → filled ns ≡ all
spelled-filled ns all are eight small is = numbers-same (filled ns) all (length-filled ns are.few ∙ sym eight) (small-filled ns are) small is

pub numbers_body-same : (ns ms : List ℕ) → AreNumbers ns → AreNumbers ms → length ns ≡ length ms → numbers_body ns ≡ numbers_body ms → ns ≡ ms
numbers_body-same ns ms p q many is =
    let same : filled ns ≡ filled ms = spelled-filled ns (filled ms) p (length-filled ms q.few) (small-filled ms q) is in
    sym (take_at ns (replicate (8 - length ns) 0) (length ns) refl) ∙ ap (take (length ns)) same ∙ take_at ms (replicate (8 - length ms) 0) (length ns) (sym many)

small-take : (k : ℕ) (all : List ℕ) → AllByRecursion (λ n. n < 2 ^ 32) all → AllByRecursion (λ n. n < 2 ^ 32) (take k all)
small-take zero all small = tt
small-take (suc k) [] small = tt
small-take (suc k) (n ∷ ns) small = (small.0, small-take k ns small.1)

-- eight numbers, of which all but the first are zeros
module _ (all : List ℕ) (used : ℕ) (eight : length all ≡ 8) (small : AllByRecursion (λ n. n < 2 ^ 32) all) (some : 2 ≤ used) (few : used ≤ 8) where
  counted : length (take used all) ≡ used
  counted = length-take-le used all (omega (arith, eight, few))

  module _ (zeros : list_all is_zero (drop used all) ≡ true) where
    filled_up : filled (take used all) ≡ all
    filled_up =
        let rest : drop used all ≡ replicate (length (drop used all)) 0 = zeros_are (drop used all) zeros in
        let count : 8 - length (take used all) ≡ length (drop used all) = omega (arith, counted, eight, length-drop used all) in
        ap (λ (n : ℕ). take used all ++ replicate n 0) count ∙ ap (λ (l : List ℕ). take used all ++ l) (sym rest) ∙ take-append-drop used all

    pub joined : IsJoined used all
    joined = record {
      numbers = record { some = omega (arith, counted, some); few = omega (arith, counted, few); small = small-take used all small };
      counted = counted;
      filled = filled_up;
    }

  -- where some numbers of this count are spelled, zeros stand behind them
  pub zeros_behind : (ns : List ℕ) → AreNumbers ns → length ns ≡ used → numbers_body ns ≡ flat_map short_number all → list_all is_zero (drop used all) ≡ true
  zeros_behind ns are many is =
      let same = spelled-filled ns all are eight small is in
      ap (λ (l : List ℕ). list_all is_zero (drop used l)) (sym same) ∙ ap (list_all is_zero) (drop_at ns (replicate (8 - length ns) 0) used many) ∙ all_zeros (8 - length ns)

-- numbers, and zeros behind them
pub kept_joined : (ns : List ℕ) → AreNumbers ns → IsJoined (length ns) (filled ns)
kept_joined ns are =
    let front : take (length ns) (filled ns) ≡ ns = take_at ns (replicate (8 - length ns) 0) (length ns) refl in
    record { numbers = rw front are; counted = ap length front; filled = ap filled front }

-- each item is a number of 32 bits
pub all_small : (ns : List ℕ) → ((i : ℕ) → get_or ns i 0 < 2 ^ 32) → AllByRecursion (λ n. n < 2 ^ 32) ns
all_small [] each = tt
all_small (n ∷ ns) each = (each 0, all_small ns (λ i. each (suc i)))

-- bytes by fours
module _ (bytes : List ℕ) where
  four : (at : ℕ) (rest : List ℕ) → rest ≡ drop (at + 4) bytes → take 4 (drop at bytes) ++ rest ≡ drop at bytes
  four at rest is = ap (λ (r : List ℕ). take 4 (drop at bytes) ++ r) (is ∙ sym (drop-drop 4 at bytes)) ∙ take-append-drop 4 (drop at bytes)

  none : (xs : List ℕ) → length xs ≡ 0 → [] ≡ xs
  none [] long = refl
  none (x ∷ xs) long = absurd (omega (arith, long))

  module _ (long : length bytes ≡ 32) where
    -- eight numbers that are spelled one behind another
    pub eight : (a b c d e f g h : ℕ) → short_number a ≡ take 4 (drop 0 bytes) → short_number b ≡ take 4 (drop 4 bytes) → short_number c ≡ take 4 (drop 8 bytes) → short_number d ≡ take 4 (drop 12 bytes)
        → short_number e ≡ take 4 (drop 16 bytes) → short_number f ≡ take 4 (drop 20 bytes) → short_number g ≡ take 4 (drop 24 bytes) → short_number h ≡ take 4 (drop 28 bytes)
        → flat_map short_number (a ∷ b ∷ c ∷ d ∷ e ∷ f ∷ g ∷ h ∷ []) ≡ bytes
    eight a b c d e f g h pa pb pc pd pe pf pg ph =
        let r8 : [] ≡ drop 32 bytes = none (drop 32 bytes) (omega (arith, long, length-drop 32 bytes)) in
        let r7 = ap (λ (l : List ℕ). l ++ []) ph ∙ four 28 [] r8 in
        let r6 = ap (λ (l : List ℕ). l ++ (short_number h ++ [])) pg ∙ four 24 (short_number h ++ []) r7 in
        let r5 = ap (λ (l : List ℕ). l ++ (short_number g ++ (short_number h ++ []))) pf ∙ four 20 (short_number g ++ (short_number h ++ [])) r6 in
        let r4 = ap (λ (l : List ℕ). l ++ flat_map short_number (f ∷ g ∷ h ∷ [])) pe ∙ four 16 (flat_map short_number (f ∷ g ∷ h ∷ [])) r5 in
        let r3 = ap (λ (l : List ℕ). l ++ flat_map short_number (e ∷ f ∷ g ∷ h ∷ [])) pd ∙ four 12 (flat_map short_number (e ∷ f ∷ g ∷ h ∷ [])) r4 in
        let r2 = ap (λ (l : List ℕ). l ++ flat_map short_number (d ∷ e ∷ f ∷ g ∷ h ∷ [])) pc ∙ four 8 (flat_map short_number (d ∷ e ∷ f ∷ g ∷ h ∷ [])) r3 in
        let r1 = ap (λ (l : List ℕ). l ++ flat_map short_number (c ∷ d ∷ e ∷ f ∷ g ∷ h ∷ [])) pb ∙ four 4 (flat_map short_number (c ∷ d ∷ e ∷ f ∷ g ∷ h ∷ [])) r2 in
        ap (λ (l : List ℕ). l ++ flat_map short_number (b ∷ c ∷ d ∷ e ∷ f ∷ g ∷ h ∷ [])) pa ∙ four 0 (flat_map short_number (b ∷ c ∷ d ∷ e ∷ f ∷ g ∷ h ∷ [])) r1
