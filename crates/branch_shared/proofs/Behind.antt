-- Lists behind one that all begin with, and what is said of numbers.
use Rattle.std.proofs.Common.{◌≡◌, ℕ, List, ◌++◌, ap, ◌∙◌, subst, append_assoc}
use mathlib.Core.List.{IsPrefix}
use Rattle.branch_front.specs.Lists.{AreAllWithin, AreSomeWithin}

module _ {A : Type 0} where
  pub prefix_behind : (begun xs ys : List A) → IsPrefix xs ys → IsPrefix (begun ++ xs) (begun ++ ys)
  prefix_behind begun xs ys p = (p.0, append_assoc begun xs p.0 ∙ ap (λ w. begun ++ w) p.1)

-- what is said of claims between two bounds, where these are others' too
pub all-within : (first first' last last' : ℕ) (ns ns' : List ℕ) → first ≡ first' → ns ≡ ns' → last ≡ last' → AreAllWithin first ns last → AreAllWithin first' ns' last'
all-within first first' last last' ns ns' p q r all = subst (λ (f : ℕ). AreAllWithin f ns' last') p (subst (λ (ms : List ℕ). AreAllWithin first ms last') q (subst (λ (l : ℕ). AreAllWithin first ns l) r all))

pub some-within : (first first' last last' : ℕ) (ns ns' : List ℕ) → first ≡ first' → ns ≡ ns' → last ≡ last' → AreSomeWithin first ns last → AreSomeWithin first' ns' last'
some-within first first' last last' ns ns' p q r all = subst (λ (f : ℕ). AreSomeWithin f ns' last') p (subst (λ (ms : List ℕ). AreSomeWithin first ms last') q (subst (λ (l : ℕ). AreSomeWithin first ns l) r all))
