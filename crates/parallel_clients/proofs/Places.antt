-- The places of clients, together and by two.
use Rattle.std.proofs.Common.{zero, suc, ◌≡◌, ◌≢◌, ℕ, ◌+◌, ◌≤◌, ◌<◌, List, [], ◌∷◌, ◌++◌, length, refl, ap, sym, ◌∙◌, append_assoc, append-nil, arith}
use Rattle.std.specs.Prelude.{slice_get, Some}
use Rattle.branch_front.specs.Lists.{times, AreApart, AreDistinct}
use Rattle.branch_front.proofs.Claims.{times-append}
use Rattle.parallel_clients.specs.declared.outcome.Outcome.{Outcome}
use Rattle.parallel_clients.specs.Outcomes.{places_of}
use Rattle.parallel_clients.specs.Clients.{all_places, HavePlacesApart}

pub all_places-more : (outcomes : List Outcome) (last : Outcome) → all_places (outcomes ++ last ∷ []) ≡ all_places outcomes ++ places_of last
all_places-more [] last = append-nil (places_of last)
all_places-more (first ∷ outcomes) last = ap (λ ns. places_of first ++ ns) (all_places-more outcomes last) ∙ sym (append_assoc (places_of first) (all_places outcomes) (places_of last))

-- the last of three lists
pub last-distinct : (xs ys zs : List ℕ) → AreDistinct (xs ++ (ys ++ zs)) → AreDistinct zs
last-distinct xs ys zs once n =
    let all = once n in
    let outer = times-append n xs (ys ++ zs) in
    let inner = times-append n ys zs in
    omega arith

-- what one client has of a number all have
some-places : (n : ℕ) (outcomes : List Outcome) (k : ℕ) (one : Outcome) → slice_get outcomes k ≡ Some one → times n (places_of one) ≤ times n (all_places outcomes)
some-places n [] k one at = absurd (let never : ⊥ = cc in never)
some-places n (first ∷ outcomes) zero one at =
    let same : first ≡ one = cc in
    let is = ap (λ o. times n (places_of o)) same in
    let sum = times-append n (places_of first) (all_places outcomes) in
    omega arith
some-places n (first ∷ outcomes) (suc k) one at =
    let rest = some-places n outcomes k one at in
    let sum = times-append n (places_of first) (all_places outcomes) in
    omega arith

-- and what two have
two-places : (n : ℕ) (outcomes : List Outcome) (j k : ℕ) (one other : Outcome) → j ≢ k → slice_get outcomes j ≡ Some one → slice_get outcomes k ≡ Some other
    → times n (places_of one) + times n (places_of other) ≤ times n (all_places outcomes)
two-places n [] j k one other apart at at' = absurd (let never : ⊥ = cc in never)
two-places n (first ∷ outcomes) zero zero one other apart at at' = absurd (apart refl)
two-places n (first ∷ outcomes) zero (suc k) one other apart at at' =
    let same : first ≡ one = cc in
    let is = ap (λ o. times n (places_of o)) same in
    let rest = some-places n outcomes k other at' in
    let sum = times-append n (places_of first) (all_places outcomes) in
    omega arith
two-places n (first ∷ outcomes) (suc j) zero one other apart at at' =
    let same : first ≡ other = cc in
    let is = ap (λ o. times n (places_of o)) same in
    let rest = some-places n outcomes j one at in
    let sum = times-append n (places_of first) (all_places outcomes) in
    omega arith
two-places n (first ∷ outcomes) (suc j) (suc k) one other apart at at' =
    let rest = two-places n outcomes j k one other (λ e. apart (ap suc e)) at at' in
    let sum = times-append n (places_of first) (all_places outcomes) in
    omega arith

pub places-apart : (outcomes : List Outcome) → AreDistinct (all_places outcomes) → HavePlacesApart outcomes
places-apart outcomes once j k one other apart at at' n there =
    let both = two-places n outcomes j k one other apart at at' in
    let all = once n in
    omega arith
