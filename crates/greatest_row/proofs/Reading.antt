-- Rows that are written, read and searched.
use Rattle.std.proofs.Common.{◌≡◌, ℕ, zero, suc, ◌+◌, ◌-◌, ◌*◌, ◌<◌, ◌≤◌, ◌^◌, nat_lt, max, Bool, true, false, cond, List, [], ◌∷◌, ◌++◌, length, get_or, refl, ◌∙◌, ap, sym, subst, arith, append_assoc, length-append, below_more}
use Rattle.std.specs.List.{flat_map, AllByRecursion}
use Rattle.std.proofs.lemmas.Bool.{ltb-true, ltb-false}
use Rattle.std.proofs.lemmas.List.{append-nil}
use Rattle.mrdt_model.specs.Spelled.{capped}
use Rattle.branch_wire.specs.Fields.{number}
use Rattle.branch_wire.proofs.Numbers.{length-number}
use Rattle.branch_wire.proofs.OneWay.{numbers}
use Rattle.greatest_row.specs.declared.mark.Mark.{Mark}
use Rattle.greatest_row.specs.Rows.{join, row_spelling, AreNumbers, IsRowSpelling, greater, best_of, highest, IsHighest}
use Rattle.greatest_row.proofs.Joins.{join-nil}

pub row-length : (row : List ℕ) → length (row_spelling row) ≡ length row * 8
row-length [] = refl
row-length (n ∷ row) = let size = length-append (number n) (row_spelling row) in let here = length-number n in let rest = row-length row in omega (arith, size, here, rest)

-- rows that are spelled alike are one
pub row-same : (l r : List ℕ) → AreNumbers l → AreNumbers r → row_spelling l ≡ row_spelling r → l ≡ r
row-same [] [] p q is = refl
row-same [] (n ∷ r) p q is = let size = row-length (n ∷ r) in let same = ap length is in absurd (omega (arith, size, same))
row-same (m ∷ l) [] p q is = let size = row-length (m ∷ l) in let same = ap length is in absurd (omega (arith, size, same))
row-same (m ∷ l) (n ∷ r) p q is =
    let parts = numbers.one m n (row_spelling l) (row_spelling r) p.0 q.0 is in
    ap (λ k. k ∷ l) parts.0 ∙ ap (λ t. n ∷ t) (row-same l r p.1 q.1 parts.1)

-- the end of the bytes is too short for a number, and there is one
pub row-outside : (bytes rest numbers : List ℕ) → bytes ≡ row_spelling numbers ++ rest → (rest ≡ [] → ⊥) → length rest < 8 → IsRowSpelling bytes → ⊥
row-outside bytes [] numbers is some short row = some refl
row-outside bytes (b ∷ rest) numbers is some short row =
    let own : length bytes ≡ length row.0 * 8 = ap length row.2 ∙ row-length row.0 in
    let all : length bytes ≡ length numbers * 8 + length (b ∷ rest) = ap length is ∙ length-append (row_spelling numbers) (b ∷ rest) ∙ ap (λ k. k + length (b ∷ rest)) (row-length numbers) in
    omega (arith, own, all, short)

-- one more number
pub row-more : (row : List ℕ) (n : ℕ) → row_spelling (row ++ n ∷ []) ≡ row_spelling row ++ number n
row-more [] n = append-nil (number n)
row-more (m ∷ row) n = ap (λ rest. number m ++ rest) (row-more row n) ∙ sym (append_assoc (number m) (row_spelling row) (number n))

pub numbers-more : (row : List ℕ) (n : ℕ) → AreNumbers row → n < 2 ^ 64 → AreNumbers (row ++ n ∷ [])
numbers-more [] n all here = (here, tt)
numbers-more (m ∷ row) n all here = (all.0, numbers-more row n all.1 here)

-- the greater number of the next place is put behind the others
pub joined-more : (whole numbers new mine theirs more others : List ℕ) (m n : ℕ) → numbers ++ join mine theirs ≡ whole → mine ≡ m ∷ more → theirs ≡ n ∷ others → new ≡ numbers ++ max m n ∷ [] → new ++ join more others ≡ whole
joined-more whole numbers new mine theirs more others m n so_far p q is =
    ap (λ l. l ++ join more others) is ∙ append_assoc numbers (max m n ∷ []) (join more others)
    ∙ ap (λ l. numbers ++ join l (n ∷ others)) (sym p) ∙ ap (λ r. numbers ++ join mine r) (sym q) ∙ so_far

-- the best so far of the places before this one
record SoFar (at : ℕ → ℕ) (best : Mark) (place : ℕ) : Type 0 where
  pub there : 0 < best.number → at best.place ≡ best.number
  pub most : (k : ℕ) → k < place → at k ≤ best.number
  pub least : (k : ℕ) → k < best.place → at k < best.number

same_there : (n v : ℕ) → (0 < n → v ≡ n) → v ≤ n → v ≡ n
same_there zero v there most = omega arith
same_there (suc n) v there most = there (omega arith)

module _ (f : ℕ → ℕ) where
  all_below : (best : Mark) (place : ℕ) → SoFar f best place → ((i : ℕ) → f (place + i) ≡ 0) → (k : ℕ) → f k ≤ best.number
  all_below best place h none k = at (nat_lt k place) refl
    where
      at : (b : Bool) → nat_lt k place ≡ b → f k ≤ best.number
      at true is = h.most k (ltb-true k place is)
      at false is =
          let far : place ≤ k = ltb-false k place is in
          let past : k ≡ place + (k - place) = omega arith in
          let nothing : f k ≡ 0 = ap f past ∙ none (k - place) in
          omega (arith, nothing)

  next_best : (best : Mark) (place n : ℕ) (b : Bool) → nat_lt best.number n ≡ b → SoFar f best place → f place ≡ n → SoFar f (cond b (record { place = place; number = n }) best) (place + 1)
  next_best best place n true is h here =
      let more : best.number < n = ltb-true best.number n is in
      record {
        there = λ some. here;
        most = below_more _ _ (λ k before. let old = h.most k before in omega arith) (omega (arith, here));
        least = λ k before. let old = h.most k before in omega arith;
      }
  next_best best place n false is h here =
      let less : n ≤ best.number = ltb-false best.number n is in
      record {
        there = h.there;
        most = below_more _ _ h.most (omega (arith, here));
        least = h.least;
      }

  best_is : (best : Mark) (place : ℕ) (row : List ℕ) → SoFar f best place → ((i : ℕ) → f (place + i) ≡ get_or row i 0) → IsHighest f (best_of best place row)
  best_is best place [] h rest =
      let all = all_below best place h rest in
      record { there = same_there best.number (f best.place) h.there (all best.place); greatest = all; least = h.least }
  best_is best place (n ∷ row) h rest =
      let first : place ≡ place + 0 = omega arith in
      let next : (i : ℕ) → place + 1 + i ≡ place + suc i = λ i. omega arith in
      best_is (greater best place n) (place + 1) row (next_best best place n (nat_lt best.number n) refl h (ap f first ∙ rest 0)) (λ i. ap f (next i) ∙ rest (suc i))

-- what is found is the greatest
pub highest-is : (row : List ℕ) → IsHighest (λ place. get_or row place 0) (highest row)
highest-is row =
    best_is (λ place. get_or row place 0) (record { place = 0; number = 0 }) 0 row
    (record { there = λ some. absurd (omega arith); most = λ k before. absurd (omega arith); least = λ k before. absurd (omega arith) })
    (λ i. ap (λ k. get_or row k 0) (plain i))
  where
    plain : (i : ℕ) → 0 + i ≡ i
    plain i = omega arith

pub numbers-each : (row : List ℕ) → ((i : ℕ) → get_or row i 0 < 2 ^ 64) → AreNumbers row
numbers-each [] each = tt
numbers-each (n ∷ row) each = (each 0, numbers-each row (λ i. each (suc i)))
