-- Sums of amounts.
use Rattle.std.proofs.Common.{◌≡◌, ℕ, zero, suc, ℤ, pos, ◌+◌, ◌<◌, ◌+ℤ◌, ◌≤ℤ◌, List, [], ◌∷◌, ◌++◌, length, take, drop, get_or, ◌∙◌, ap, sym, add-one, arith, length-append, ◌-ℤ◌, FitsSigned}
use Rattle.std.specs.Int.{w128}
use Rattle.std.proofs.Math.Seq.{drop-cons, take-append-add}
use Rattle.std.proofs.lemmas.List.{take-append-le}
use Rattle.std.proofs.lemmas.Grind.{flat_map-append}
use Rattle.std.proofs.lemmas.Int.{ints}
use Rattle.shared_list.specs.Trees.{amounts, lists, IsReached}
use Rattle.shared_list.proofs.Kids.{lists_around}

pub amounts-append : {T : Type 0} (f : T → ℤ) (xs ys : List T) → amounts f (xs ++ ys) ≡ amounts f xs +ℤ amounts f ys
amounts-append f [] ys = omega (arith, ints)
amounts-append f (x ∷ xs) ys = let rest = amounts-append f xs ys in omega (arith, ints, rest)

drop-next : {X : Type 0} (xs : List X) (i : ℕ) (x : X) → i < length xs → x ≡ get_or xs i x → drop i xs ≡ x ∷ drop (i + 1) xs
drop-next xs i x here is = rw (add-one) (drop-cons xs i x here ∙ ap (λ y. y ∷ drop (suc i) xs) (sym is))

-- one entry more
pub amounts_next : {T : Type 0} (f : T → ℤ) (xs : List T) (i : ℕ) (x : T) (sum : ℤ) → i < length xs → x ≡ get_or xs i x → sum +ℤ amounts f (drop i xs) ≡ amounts f xs → (sum +ℤ f x) +ℤ amounts f (drop (i + 1) xs) ≡ amounts f xs
amounts_next f xs i x sum here is so_far =
    let cut : amounts f (drop i xs) ≡ f x +ℤ amounts f (drop (i + 1) xs) = ap (amounts f) (drop-next xs i x here is) in
    omega (arith, ints, cut, so_far)

-- one tree more
pub amounts_next_tree : {T : Type 0} (f : T → ℤ) (kids : List (ℕ × List T)) (i : ℕ) (kid : ℕ × List T) (sum : ℤ) → i < length kids → kid ≡ get_or kids i kid → sum +ℤ amounts f (lists (drop i kids)) ≡ amounts f (lists kids) → (sum +ℤ amounts f kid.1) +ℤ amounts f (lists (drop (i + 1) kids)) ≡ amounts f (lists kids)
amounts_next_tree f kids i kid sum here is so_far =
    let cut : amounts f (lists (drop i kids)) ≡ amounts f kid.1 +ℤ amounts f (lists (drop (i + 1) kids)) = ap (λ ks. amounts f (lists ks)) (drop-next kids i kid here is) ∙ amounts-append f kid.1 (lists (drop (i + 1) kids)) in
    omega (arith, ints, cut, so_far)

take-suc : {X : Type 0} (xs : List X) (i : ℕ) (x : X) → i < length xs → x ≡ get_or xs i x → take (suc i) xs ≡ take i xs ++ x ∷ []
take-suc [] i x here is = absurd (omega arith)
take-suc (y ∷ xs) zero x here is = ap (λ z. z ∷ []) (sym is)
take-suc (y ∷ xs) (suc i) x here is = ap (λ zs. y ∷ zs) (take-suc xs i x (omega (arith, here)) is)

take-next : {X : Type 0} (xs : List X) (i : ℕ) (x : X) → i < length xs → x ≡ get_or xs i x → take (i + 1) xs ≡ take i xs ++ x ∷ []
take-next xs i x here is = rw (add-one i) (take-suc xs i x here is)

-- the amounts of the first entries, with one more
pub amounts_take : {T : Type 0} (f : T → ℤ) (xs : List T) (i : ℕ) (x : T) → i < length xs → x ≡ get_or xs i x → amounts f (take (i + 1) xs) ≡ amounts f (take i xs) +ℤ f x
amounts_take f xs i x here is =
    let all : amounts f (take (i + 1) xs) ≡ amounts f (take i xs) +ℤ amounts f (x ∷ []) = ap (amounts f) (take-next xs i x here is) ∙ amounts-append f (take i xs) (x ∷ []) in
    omega (arith, ints, all)

-- how many entries the first trees have, with one more
pub count_take : {T : Type 0} (kids : List (ℕ × List T)) (i : ℕ) (kid : ℕ × List T) → i < length kids → kid ≡ get_or kids i kid → length (lists (take (i + 1) kids)) ≡ length (lists (take i kids)) + length kid.1
count_take kids i kid here is =
    let cut : lists (take (i + 1) kids) ≡ lists (take i kids) ++ (kid.1 ++ []) = ap lists (take-next kids i kid here is) ∙ flat_map-append (λ t. t.1) (take i kids) (kid ∷ []) in
    rw cut (omega (arith, length-append (lists (take i kids)) (kid.1 ++ []), length-append kid.1 []))

-- the amounts of the first trees, with one more
pub amounts_take_tree : {T : Type 0} (f : T → ℤ) (kids : List (ℕ × List T)) (i : ℕ) (kid : ℕ × List T) → i < length kids → kid ≡ get_or kids i kid → amounts f (lists (take (i + 1) kids)) ≡ amounts f (lists (take i kids)) +ℤ amounts f kid.1
amounts_take_tree f kids i kid here is =
    let cut : lists (take (i + 1) kids) ≡ lists (take i kids) ++ (kid.1 ++ []) = ap lists (take-next kids i kid here is) ∙ flat_map-append (λ t. t.1) (take i kids) (kid ∷ []) in
    let all : amounts f (lists (take (i + 1) kids)) ≡ amounts f (lists (take i kids)) +ℤ amounts f (kid.1 ++ []) = ap (amounts f) cut ∙ amounts-append f (lists (take i kids)) (kid.1 ++ []) in
    let one : amounts f (kid.1 ++ []) ≡ amounts f kid.1 +ℤ pos 0 = amounts-append f kid.1 [] in
    omega (arith, ints, all, one)

-- amounts of which none is negative
pub amounts_rise : {T : Type 0} (f : T → ℤ) (xs : List T) → ((x : T) → pos 0 ≤ℤ f x) → pos 0 ≤ℤ amounts f xs
amounts_rise f [] up = omega (arith, ints)
amounts_rise f (x ∷ xs) up = let here = up x in let rest = amounts_rise f xs up in omega (arith, ints, here, rest)

-- a sum that passes in one list that stands among others
reached_middle : {T : Type 0} (f : T → ℤ) (xs ys zs : List T) (a : ℤ) (n : ℕ) → IsReached f ys a n → IsReached f (xs ++ (ys ++ zs)) (amounts f xs +ℤ a) (length xs + n)
reached_middle f xs ys zs a n is =
    let sums : length xs + n + 1 ≡ length xs + (n + 1) = omega arith in
    let front = amounts-append f xs (take n ys) in
    let more = amounts-append f xs (take (n + 1) ys) in
    let low = is.before in
    let high = is.passed in
    record {
      there = omega (arith, is.there, length-append xs (ys ++ zs), length-append ys zs);
      before = rw (take-append-add xs (ys ++ zs) n, take-append-le n ys zs (omega (arith, is.there))) (omega (arith, ints, low, front));
      passed = rw (sums, take-append-add xs (ys ++ zs) (n + 1), take-append-le (n + 1) ys zs (omega (arith, is.there))) (omega (arith, ints, high, more));
    }

pub reached_inside : {T : Type 0} (f : T → ℤ) (kids : List (ℕ × List T)) (i : ℕ) (d : ℕ × List T) (rest a : ℤ) (before n : ℕ) → i < length kids → before ≡ length (lists (take i kids)) → amounts f (lists (take i kids)) +ℤ rest ≡ a → IsReached f (get_or kids i d).1 rest n → IsReached f (lists kids) a (before + n)
reached_inside f kids i d rest a before n p q s is = rw (lists_around kids i d p, q, ← s) (reached_middle f (lists (take i kids)) (get_or kids i d).1 (lists (drop (i + 1) kids)) rest n is)

-- what is left of an amount
pub rest_fits : (a b : ℤ) → pos 0 ≤ℤ b → b ≤ℤ a → FitsSigned w128 a → FitsSigned w128 (a -ℤ b)
rest_fits a b some less fits = omega (arith, ints, some, less, fits)

pub less_fits : (a b : ℤ) → pos 0 ≤ℤ a → a ≤ℤ b → FitsSigned w128 b → FitsSigned w128 a
less_fits a b some less fits = omega (arith, ints, some, less, fits)
