-- Words on lists that the contracts use.
use Rattle.std.specs.Prelude.{◌≡◌, ℕ, ◌+◌, ◌<◌, ◌≤◌, List, [], ◌∷◌, length, cond, nat_eq, nat_le, nat_lt, ◌&&◌}

-- the longer of two lists, and the shorter. Of two of one length the first is the longer
abbrev pub longer : {A : Type 0} → List A → List A → List A
longer xs ys = cond (nat_lt (length xs) (length ys)) ys xs

abbrev pub shorter : {A : Type 0} → List A → List A → List A
shorter xs ys = cond (nat_lt (length xs) (length ys)) xs ys

-- the numbers rise, all above the first bound, and none above the last
abbrev pub RisesWithin : ℕ → List ℕ → ℕ → Type 0
RisesWithin first [] last = first ≤ last
RisesWithin first (n ∷ ns) last = (first < n) × RisesWithin n ns last

-- f of each, added up
abbrev pub total : {A : Type 0} → (A → ℕ) → List A → ℕ
total f [] = 0
total f (x ∷ xs) = f x + total f xs

-- how often a number stands in a list
abbrev pub times : ℕ → List ℕ → ℕ
times n [] = 0
times n (m ∷ ms) = cond (nat_eq n m) 1 0 + times n ms

-- 1 of a number above the first, up to the last, and 0 of any other
abbrev pub once_within : ℕ → ℕ → ℕ → ℕ
once_within first last n = cond (nat_lt first n && nat_le n last) 1 0

-- each number above the first, up to the last, stands once in the list, and no other stands there
abbrev pub AreAllWithin : ℕ → List ℕ → ℕ → Type 0
AreAllWithin first ns last = (n : ℕ) → times n ns ≡ once_within first last n

-- no number stands twice in the list
abbrev pub AreDistinct : List ℕ → Type 0
AreDistinct ns = (n : ℕ) → times n ns ≤ 1

-- no number stands twice in the list, and each is above the first, up to the last
abbrev pub AreSomeWithin : ℕ → List ℕ → ℕ → Type 0
AreSomeWithin first ns last = (n : ℕ) → times n ns ≤ once_within first last n

-- no number stands in both lists
abbrev pub AreApart : List ℕ → List ℕ → Type 0
AreApart ns ms = (n : ℕ) → 0 < times n ns → times n ms ≡ 0
