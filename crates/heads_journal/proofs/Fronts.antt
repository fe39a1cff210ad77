-- A block without the gate behind it, behind a gate.
use Rattle.std.proofs.Common.{◌≡◌, ℕ, List, [], ◌∷◌, ◌++◌, length, take, ◌∙◌, ap, append_assoc}
use Rattle.std.proofs.lemmas.List.{take_at}

pub put-behind : (old pushed new fields block : List ℕ) → length fields ≡ 63 → block ≡ fields ++ 0 ∷ [] → pushed ≡ old ++ 1 ∷ [] → new ≡ pushed ++ take 63 block → new ≡ old ++ 1 ∷ fields
put-behind old pushed new fields block long is gate put =
    put ∙ ap (λ (l : List ℕ). l ++ take 63 block) gate
    ∙ ap (λ (l : List ℕ). (old ++ 1 ∷ []) ++ l) (ap (take 63) is ∙ take_at fields (0 ∷ []) 63 long)
    ∙ append_assoc old (1 ∷ []) fields
