-- Lines and nodes that are written part by part.
use Rattle.std.proofs.Common.{◌≡◌, ℕ, ◌++◌, List, [], ap, sym, ◌∙◌, append_assoc, Result, Ok, Err, OnOk}
use Rattle.std.proofs.lemmas.List.{append-nil}

-- the five parts of a line
pub line-written : {T E : Type 0} (r : Result T E) (old first second third fourth new a b c d e whole : List ℕ) → first ≡ old ++ a → second ≡ first ++ b → third ≡ second ++ c → fourth ≡ third ++ d
    → OnOk r (new ≡ fourth ++ e) → whole ≡ a ++ b ++ c ++ d ++ e → OnOk r (new ≡ old ++ whole)
line-written (Ok x) old first second third fourth new a b c d e whole p q s t u same =
    let parts : (((old ++ a) ++ b) ++ c) ++ d ++ e ≡ old ++ (a ++ b ++ c ++ d ++ e) = simp append_assoc in
    let before : fourth ≡ ((old ++ a) ++ b) ++ c ++ d = t ∙ ap (λ (o : List ℕ). o ++ d) (s ∙ ap (λ (o : List ℕ). o ++ c) (q ∙ ap (λ (o : List ℕ). o ++ b) p)) in
    u ∙ ap (λ (o : List ℕ). o ++ e) before ∙ parts ∙ ap (λ (l : List ℕ). old ++ l) (sym same)
line-written (Err x) old first second third fourth new a b c d e whole p q s t u same = tt

-- the parts of a node, of which the first are pieces with the number twice, and of its edges
pub node-written : {T E : Type 0} (r : Result T E) (old first second third new a digits l label q ending edges number whole : List ℕ) → digits ≡ number
    → first ≡ old ++ (a ++ (digits ++ (l ++ (digits ++ [])))) → second ≡ first ++ label → third ≡ second ++ (q ++ ending)
    → OnOk r (new ≡ third ++ edges) → whole ≡ a ++ number ++ l ++ number ++ label ++ q ++ ending ++ edges → OnOk r (new ≡ old ++ whole)
node-written (Ok x) old first second third new a digits l label q ending edges number whole is p s t u same =
    let pieces : first ≡ old ++ (a ++ (number ++ (l ++ (number ++ [])))) = p ∙ ap (λ (d : List ℕ). old ++ (a ++ (d ++ (l ++ (d ++ []))))) is in
    let before : third ≡ old ++ (a ++ (number ++ (l ++ (number ++ [])))) ++ label ++ (q ++ ending) = t ∙ ap (λ (o : List ℕ). o ++ (q ++ ending)) (s ∙ ap (λ (o : List ℕ). o ++ label) pieces) in
    let parts : old ++ (a ++ (number ++ (l ++ (number ++ [])))) ++ label ++ (q ++ ending) ++ edges ≡ old ++ (a ++ number ++ l ++ number ++ label ++ q ++ ending ++ edges) = simp (append-nil, append_assoc) in
    u ∙ ap (λ (o : List ℕ). o ++ edges) before ∙ parts ∙ ap (λ (t : List ℕ). old ++ t) (sym same)
node-written (Err x) old first second third new a digits l label q ending edges number whole is p s t u same = tt
