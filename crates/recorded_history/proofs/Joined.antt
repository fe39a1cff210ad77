-- The addresses of the commits that are joined to a head, one behind another.
use Rattle.std.proofs.Common.{◌≡◌, ℕ, ◌+◌, ◌<◌, ◌≤◌, suc, List, [], ◌∷◌, ◌++◌, length, map, take, get_or, slice_get, ap, sym, ◌∙◌, arith, Some, take-suc, take_all}
use Rattle.std.proofs.lemmas.List.{map-append}
use Rattle.std.proofs.lemmas.Option.{get_or_from_slice_get}

module _ (addresses : List (List ℕ)) (head : ℕ) (others : List ℕ) (found : List (List ℕ)) (i : ℕ) (is : found ≡ map (λ n. get_or addresses n []) (head ∷ take i others)) where
  abbrev at : ℕ → List ℕ
  at n = get_or addresses n []

  pub next-address : (a : List ℕ) → i < length others → slice_get addresses (get_or others i 0) ≡ Some a → found ++ a ∷ [] ≡ map (λ n. get_or addresses n []) (head ∷ take (i + 1) others)
  next-address a lt there =
      let next : i + 1 ≡ suc i = omega arith in
      ap (λ (l : List (List ℕ)). l ++ a ∷ []) is
      ∙ ap (λ (x : List ℕ). at head ∷ (map at (take i others) ++ x ∷ [])) (sym (get_or_from_slice_get addresses (get_or others i 0) a [] there))
      ∙ ap (λ (l : List (List ℕ)). at head ∷ l) (sym (map-append at (take i others) (get_or others i 0 ∷ [])))
      ∙ ap (λ (l : List ℕ). at head ∷ map at l) (sym (ap (λ (k : ℕ). take k others) next ∙ take-suc others i 0 lt))

  pub all-addresses : length others ≤ i → found ≡ map (λ n. get_or addresses n []) (head ∷ others)
  all-addresses le = is ∙ ap (λ (l : List ℕ). at head ∷ map at l) (take_all i others le)
