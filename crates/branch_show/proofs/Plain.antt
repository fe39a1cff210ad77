-- Bytes that stand for themselves in a string.
use Rattle.std.proofs.Common.{◌≡◌, ℕ, ◌+◌, ◌/◌, ◌%◌, ◌^◌, ◌<◌, ◌≤◌, List, [], ◌∷◌, ◌++◌, ap, ◌∙◌, arith}
use Rattle.std.specs.Fmt.{decimal}
use Rattle.std.specs.List.{flat_map}
use Rattle.std.proofs.lemmas.Grind.{flat_map-append}
use Rattle.std.proofs.lemmas.Bool.Decides.{nat_tests}
use Rattle.std.proofs.lemmas.Fmt.{decimal_by_steps}
use Rattle.branch_show.specs.Json.{json_byte}

-- bytes that do
abbrev IsPlain : ℕ → List ℕ → Type 0
IsPlain n bytes = flat_map json_byte bytes ≡ bytes

-- a digit does
digit : (d : ℕ) → d < 10 → json_byte (48 + d) ≡ (48 + d) ∷ []
digit d small = grind (arith, nat_tests)

-- a number does
pub number : (n : ℕ) → n < 2 ^ 64 → flat_map json_byte (decimal n) ≡ decimal n
number n small = decimal_by_steps IsPlain one more n small
  where
    one : (d : ℕ) → d < 10 → IsPlain d ((48 + d) ∷ [])
    one d small = ap (λ t. t ++ []) (digit d small)

    more : (m : ℕ) (ds : List ℕ) → 10 ≤ m → IsPlain (m / 10) ds → IsPlain m (ds ++ ((48 + m % 10) ∷ []))
    more m ds big is =
        flat_map-append json_byte ds ((48 + m % 10) ∷ []) ∙ ap (λ t. t ++ flat_map json_byte ((48 + m % 10) ∷ [])) is ∙ ap (λ t. ds ++ t) (one (m % 10) (omega arith))
