-- Joins of rows: the order and the number of rows that are joined show in nothing.
use Rattle.std.proofs.Common.{◌≡◌, ℕ, zero, suc, ◌+◌, ◌<◌, ◌≤◌, ◌≢◌, ◌^◌, max, List, [], ◌∷◌, ◌++◌, refl, ◌∙◌, ap, sym, arith, replicate, get_or}
use Rattle.std.specs.List.{AllByRecursion}
use Rattle.greatest_row.specs.declared.mark.Mark.{Mark}
use Rattle.greatest_row.specs.Rows.{join, one, AreNumbers}

same_items : (m n : ℕ) (l r : List ℕ) → m ≡ n → l ≡ r → m ∷ l ≡ n ∷ r
same_items m n l r p q = cc

pub join-nil : (row : List ℕ) → join row [] ≡ row
join-nil [] = refl
join-nil (m ∷ row) = refl

pub join-comm : (l r : List ℕ) → join l r ≡ join r l
join-comm [] r = sym (join-nil r)
join-comm (m ∷ l) [] = refl
join-comm (m ∷ l) (n ∷ r) = same_items (max m n) (max n m) (join l r) (join r l) (omega arith) (join-comm l r)

pub join-assoc : (l r s : List ℕ) → join (join l r) s ≡ join l (join r s)
join-assoc [] r s = refl
join-assoc (m ∷ l) [] s = refl
join-assoc (m ∷ l) (n ∷ r) [] = refl
join-assoc (m ∷ l) (n ∷ r) (k ∷ s) = same_items (max (max m n) k) (max m (max n k)) (join (join l r) s) (join l (join r s)) (omega arith) (join-assoc l r s)

pub join-own : (l : List ℕ) → join l l ≡ l
join-own [] = refl
join-own (m ∷ l) = same_items (max m m) m (join l l) l (omega arith) (join-own l)

-- of three rows any may be the first
pub join-swap : (l u r : List ℕ) → join l (join u r) ≡ join u (join l r)
join-swap l u r = sym (join-assoc l u r) ∙ ap (λ t. join t r) (join-comm l u) ∙ join-assoc u l r

-- what is in both rows is in them once
pub join-twice : (u l r : List ℕ) → join (join u l) (join u r) ≡ join u (join l r)
join-twice u l r = join-assoc u l (join u r) ∙ ap (join u) (join-swap l u r) ∙ sym (join-assoc u u (join l r)) ∙ ap (λ t. join t (join l r)) (join-own u)

pub join-at : (l r : List ℕ) (place : ℕ) → get_or (join l r) place 0 ≡ max (get_or l place 0) (get_or r place 0)
join-at [] r place = omega arith
join-at (m ∷ l) [] place = omega arith
join-at (m ∷ l) (n ∷ r) zero = refl
join-at (m ∷ l) (n ∷ r) (suc place) = join-at l r place

pub one-here : (place n : ℕ) → get_or (replicate place 0 ++ n ∷ []) place 0 ≡ n
one-here zero n = refl
one-here (suc place) n = one-here place n

pub one-other : (place n other : ℕ) → other ≢ place → get_or (replicate place 0 ++ n ∷ []) other 0 ≡ 0
one-other zero n zero other = absurd (other refl)
one-other zero n (suc k) other = refl
one-other (suc place) n zero other = refl
one-other (suc place) n (suc k) other = one-other place n k (λ is. other (ap suc is))

pub join-numbers : (l r : List ℕ) → AreNumbers l → AreNumbers r → AreNumbers (join l r)
join-numbers [] r p q = q
join-numbers (m ∷ l) [] p q = p
join-numbers (m ∷ l) (n ∷ r) p q = let a = p.0 in let b = q.0 in (omega (arith, a, b), join-numbers l r p.1 q.1)

pub one-numbers : (place n : ℕ) → n < 2 ^ 64 → AreNumbers (replicate place 0 ++ n ∷ [])
one-numbers zero n fits = (fits, tt)
one-numbers (suc place) n fits = (omega arith, one-numbers place n fits)
