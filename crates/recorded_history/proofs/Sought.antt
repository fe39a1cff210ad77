-- Commits that have addresses, found one after another.
use Rattle.std.proofs.Common.{zero, suc, ◌≡◌, ℕ, ◌+◌, ◌<◌, ◌≤◌, List, [], ◌∷◌, ◌++◌, length, map, take, get_or, refl, ap, sym, ◌∙◌, arith, subst, Option, Some, None, take-suc, take_all}
use Rattle.std.specs.Prelude.{slice_get}
use Rattle.std.specs.List.{AllByRecursion}
use Rattle.std.proofs.lemmas.List.{map-append}
use Rattle.branch_history.specs.declared.moves.Move.{Move}
use Rattle.branch_history.specs.History.{Store}
use Rattle.branch_machine.specs.Fixed.{Fixed}
use Rattle.branch_machine.specs.Objects.{Pair, address_at, pairs_of, store_after}
use Rattle.branch_machine.proofs.Pairs.{length-pairs_of}
use Rattle.recorded_history.specs.Asks.{HaveAddresses}
use Rattle.store_seen.specs.Nodes.{commit_at}
use Rattle.recorded_history.specs.Machine.{addresses_of, commit_of_address}
use Rattle.recorded_history.proofs.Here.{found-address, missing-address}

-- one more that passes
all-more : (P : ℕ → Type 0) (ns : List ℕ) (n : ℕ) → AllByRecursion P ns → P n → AllByRecursion P (ns ++ n ∷ [])
all-more P [] n all is = (is, tt)
all-more P (k ∷ ks) n all is = (all.0, all-more P ks n all.1 is)

module _ {S O R Q A : Type 0} (fixed : Fixed S O R Q A) (history : List (Move O R)) where
  abbrev s : Store O R
  s = store_after fixed history

  abbrev at : ℕ → List ℕ
  at = address_at fixed.address (pairs_of fixed s.commits)

  -- none so far
  pub have-none : (xs : List (List ℕ)) → HaveAddresses fixed history (take 0 xs) []
  have-none xs = record { there = tt; addressed = refl }

  -- one more
  pub have-next : (xs : List (List ℕ)) (i : ℕ) (ns : List ℕ) (n : ℕ) (d : List ℕ) → i < length xs → HaveAddresses fixed history (take i xs) ns → commit_of_address fixed history (get_or xs i d) ≡ Some n → HaveAddresses fixed history (take (i + 1) xs) (ns ++ n ∷ [])
  have-next xs i ns n d lt have is =
      let found = found-address fixed history (get_or xs i d) n is in
      let count = length-pairs_of fixed s.commits in
      let within : n < length s.commits = let less = found.0 in omega (arith, less, count) in
      let next : i + 1 ≡ suc i = omega arith in
      record {
        there = all-more (λ k. k < length s.commits) ns n have.there within;
        addressed = map-append at ns (n ∷ []) ∙ ap (λ (l : List (List ℕ)). l ++ at n ∷ []) have.addressed ∙ ap (λ (a : List ℕ). take i xs ++ a ∷ []) found.1 ∙ sym (ap (λ (k : ℕ). take k xs) next ∙ take-suc xs i d lt);
      }

  -- all of them
  pub have-all : (xs : List (List ℕ)) (i : ℕ) (ns : List ℕ) → length xs ≤ i → HaveAddresses fixed history (take i xs) ns → HaveAddresses fixed history xs ns
  have-all xs i ns le have = subst (λ (l : List (List ℕ)). HaveAddresses fixed history l ns) (take_all i xs le) have

  missing-at : (xs : List (List ℕ)) (i : ℕ) (d : List ℕ) → i < length xs → commit_of_address fixed history (get_or xs i d) ≡ None → (ns : List ℕ) → AllByRecursion (λ n. n < length s.commits) ns → map at ns ≡ xs → ⊥
  missing-at [] i d lt none ns there is = absurd (omega (arith, lt))
  missing-at (x ∷ xs) i d lt none [] there is = let e : [] ≡ x ∷ xs = is in cc e
  missing-at (x ∷ xs) zero d lt none (n ∷ ns) there is =
      let first : at n ≡ x = cc is in
      let count = length-pairs_of fixed s.commits in
      let less : n < length (pairs_of fixed s.commits) = let low = there.0 in omega (arith, low, count) in
      missing-address fixed history x n less first none
  missing-at (x ∷ xs) (suc i) d lt none (n ∷ ns) there is = let rest : map at ns ≡ xs = cc is in missing-at xs i d (omega (arith, lt)) none ns there.1 rest

  -- where one is missing, no commits have them all
  pub have-missing : (xs : List (List ℕ)) (i : ℕ) (d : List ℕ) → i < length xs → commit_of_address fixed history (get_or xs i d) ≡ None → (ns : List ℕ) → HaveAddresses fixed history xs ns → ⊥
  have-missing xs i d lt none ns have = missing-at xs i d lt none ns have.there have.addressed

  -- the same of a half in memory that has these addresses
  module _ (known : List (List ℕ)) (same : known ≡ addresses_of fixed history) (xs : List (List ℕ)) (i : ℕ) (d : List ℕ) (lt : i < length xs) (o : Option ℕ) (is : o ≡ commit_at known (get_or xs i d)) where
    asked : commit_of_address fixed history (get_or xs i d) ≡ o
    asked = ap (λ (l : List (List ℕ)). commit_at l (get_or xs i d)) (sym same) ∙ sym is

    pub known-next : (ns : List ℕ) (n : ℕ) → HaveAddresses fixed history (take i xs) ns → o ≡ Some n → HaveAddresses fixed history (take (i + 1) xs) (ns ++ n ∷ [])
    known-next ns n have some = have-next xs i ns n d lt have (asked ∙ some)

    pub known-missing : o ≡ None → (ns : List ℕ) → HaveAddresses fixed history xs ns → ⊥
    known-missing none ns have = have-missing xs i d lt (asked ∙ none) ns have
