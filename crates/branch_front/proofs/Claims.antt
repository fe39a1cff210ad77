-- How often a number stands in lists, and in what the views claim.
use Rattle.std.proofs.lemmas.Bool.Decides.{nat_tests}
use Rattle.std.proofs.Common.{◌≡◌, ℕ, ◌+◌, ◌≤◌, List, [], ◌∷◌, ◌++◌, length, cond, nat_eq, refl, arith, length-append}
use Rattle.branch_front.specs.Lists.{times, once_within, AreApart}

pub times-append : (n : ℕ) (ns ms : List ℕ) → times n (ns ++ ms) ≡ times n ns + times n ms
times-append n [] ms = omega arith
times-append n (m ∷ ns) ms = omega (arith, times-append n ns ms)

pub times-none : (n : ℕ) (ns : List ℕ) → length ns ≡ 0 → times n ns ≡ 0
times-none n [] none = refl
times-none n (m ∷ ns) none = absurd (omega arith)

-- one number more among the first of two lists
pub times-more : (n next : ℕ) (mine others : List ℕ) → times n ((mine ++ next ∷ []) ++ others) ≡ times n (mine ++ others) + cond (nat_eq n next) 1 0
times-more n next mine others = omega (arith, times-append n (mine ++ next ∷ []) others, times-append n mine (next ∷ []), times-append n mine others)

-- the next number is one more of those up to it
pub once-more : (first last next n : ℕ) → first ≤ last → next ≡ last + 1 → once_within first next n ≡ once_within first last n + cond (nat_eq n next) 1 0
once-more first last next n le is = grind (arith, nat_tests)

pub once-least : (first last n : ℕ) → once_within first last n ≤ 1
once-least first last n = grind (arith, nat_tests)

pub once-none : (first last n : ℕ) → last ≡ first → once_within first last n ≡ 0
once-none first last n is = grind (arith, nat_tests)

-- what one claims and what another claims, put together as a caller's, as the writer's, and as one's own
pub times-together : (n : ℕ) (mine others mine' others' : List ℕ) → times n (mine ++ (others ++ (mine' ++ others'))) ≡ times n (mine ++ others) + times n (mine' ++ others')
times-together n mine others mine' others' = omega (arith, times-append n mine (others ++ (mine' ++ others')), times-append n others (mine' ++ others'), times-append n mine others)

pub times-taken : (n : ℕ) (mine others mine' others' : List ℕ) → times n (mine' ++ (mine ++ (others ++ others'))) ≡ times n (mine ++ others) + times n (mine' ++ others')
times-taken n mine others mine' others' =
    omega (arith, times-append n mine' (mine ++ (others ++ others')), times-append n mine (others ++ others'), times-append n others others', times-append n mine others, times-append n mine' others')

pub times-adopted : (n : ℕ) (mine others mine' others' : List ℕ) → times n ((mine ++ mine') ++ (others ++ others')) ≡ times n (mine ++ others) + times n (mine' ++ others')
times-adopted n mine others mine' others' =
    omega (arith, times-append n (mine ++ mine') (others ++ others'), times-append n mine mine', times-append n others others', times-append n mine others, times-append n mine' others')

-- lists of which no number stands twice in both are apart
pub apart-sum : (ns ms : List ℕ) → ((n : ℕ) → times n ns + times n ms ≤ 1) → AreApart ns ms
apart-sum ns ms least n some_there = let most = least n in omega arith

-- as long
pub length-more : (next : ℕ) (mine others : List ℕ) → length ((mine ++ next ∷ []) ++ others) ≡ length (mine ++ others) + 1
length-more next mine others = omega (arith, length-append (mine ++ next ∷ []) others, length-append mine (next ∷ []), length-append mine others)

pub length-together : (mine others mine' others' : List ℕ) → length (mine ++ (others ++ (mine' ++ others'))) ≡ length (mine ++ others) + length (mine' ++ others')
length-together mine others mine' others' = omega (arith, length-append mine (others ++ (mine' ++ others')), length-append others (mine' ++ others'), length-append mine others)

pub length-taken : (mine others mine' others' : List ℕ) → length (mine' ++ (mine ++ (others ++ others'))) ≡ length (mine ++ others) + length (mine' ++ others')
length-taken mine others mine' others' =
    omega (arith, length-append mine' (mine ++ (others ++ others')), length-append mine (others ++ others'), length-append others others', length-append mine others, length-append mine' others')

pub length-adopted : (mine others mine' others' : List ℕ) → length ((mine ++ mine') ++ (others ++ others')) ≡ length (mine ++ others) + length (mine' ++ others')
length-adopted mine others mine' others' =
    omega (arith, length-append (mine ++ mine') (others ++ others'), length-append mine mine', length-append others others', length-append mine others, length-append mine' others')
