-- The words of a line, where they are too few.
use Rattle.std.proofs.Common.{◌≡◌, ℕ, ◌<◌, Bor, List, [], ◌∷◌, map, length, refl, Err, arith}
use Rattle.branch_script.specs.declared.step.LineRefused.TheVariants.{Syntax}
use Rattle.branch_script.specs.Script.{words_line}

-- fewer than two words fit no form
pub too_few : (words : List (Bor (List ℕ))) → length words < 2 → words_line (map (λ word. word.now) words) ≡ Err Syntax
too_few [] few = refl
too_few (a ∷ []) few = refl
too_few (a ∷ b ∷ more) few = absurd (omega (arith, few))
