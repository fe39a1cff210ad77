-- Whether a file begins with a text, of which so many bytes were read.
use Rattle.std.proofs.Common.{◌≡◌, ℕ, ◌≤◌, List, length, take, sym, ◌∙◌, ap, arith, length-take, take_all}
use Rattle.branch_wire.specs.StoredObjects.{Begins}

module _ (text first front file : List ℕ) (count : ℕ) (same : first ≡ text) (counted : count ≡ length first) (is : front ≡ take count file) where
  short : length front ≤ length first
  short = omega (arith, ap length is, length-take count file, counted)

  all : take count file ≡ take (length text) file
  all = ap (λ (n : ℕ). take n file) (counted ∙ ap length same)

  pub front-begins : take (length first) front ≡ first → Begins text file
  front-begins starts = sym all ∙ sym is ∙ sym (take_all (length first) front short) ∙ starts ∙ same

  pub begins-front : Begins text file → take (length first) front ≡ first
  begins-front begins = take_all (length first) front short ∙ is ∙ all ∙ begins ∙ sym same
