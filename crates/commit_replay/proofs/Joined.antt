-- A merge brings some commits as they are exactly where it brings each at its place.
use Rattle.std.proofs.Common.{zero, suc, ◌≡◌, ℕ, ◌<◌, Bool, true, false, ◌&&◌, ◌||◌, ◌==◌, IsTrue, List, [], ◌∷◌, length, take, get_or, filter, refl, sym, ◌∙◌, ap, arith, subst}
use Rattle.std.specs.Prelude.{not, nat_eq}
use Rattle.std.specs.List.{list_any, AllByRecursion}
use Rattle.std.proofs.lemmas.Bool.{and_parts, eq-eqb, ne_eqb, not-true, not_from_false, or_from, both_ways}
use Rattle.branch_graph.specs.Graph.{reaches}
use Rattle.branch_history.specs.Merging.{is_below, brought, each_once}
use Rattle.branch_history.proofs.Merging.{IsOnce, filter-passes, filter-whole, each_once-same, brought-above, brought-once}
use Rattle.commit_replay.specs.Apart.{IsBroughtAt}

-- a fact of each item, and the fact at each place
pub all-at : (P : ℕ → Type 0) (ns : List ℕ) → AllByRecursion P ns → (i : ℕ) → i < length ns → P (get_or ns i 0)
all-at P [] all i lt = absurd (omega arith)
all-at P (n ∷ ns) all zero lt = all.0
all-at P (n ∷ ns) all (suc i) lt = all-at P ns all.1 i (omega arith)

pub at-all : (P : ℕ → Type 0) (ns : List ℕ) → ((i : ℕ) → i < length ns → P (get_or ns i 0)) → AllByRecursion P ns
at-all P [] each = tt
at-all P (n ∷ ns) each = (each 0 (omega arith), at-all P ns (λ i lt. each (suc i) (omega arith)))

or-none : (a b : Bool) → (a || b) ≡ false → (a ≡ false) × (b ≡ false)
or-none true b is = absurd (cc)
or-none false b is = (refl, is)

other-way : (n k : ℕ) → nat_eq n k ≡ false → IsTrue (not (k == n))
other-way n k is = not_from_false (k == n) (ne_eqb k n (λ same. both_ways (nat_eq n k) is (eq-eqb n k (sym same))))

back-way : (n k : ℕ) → IsTrue (not (k == n)) → nat_eq n k ≡ false
back-way n k is = ne_eqb n k (λ same. both_ways (k == n) (not-true (k == n) is) (eq-eqb k n (sym same)))

-- no number is there twice exactly where none was there before
first-once : (ns : List ℕ) → ((i : ℕ) → i < length ns → list_any (λ k. nat_eq k (get_or ns i 0)) (take i ns) ≡ false) → IsOnce ns
first-once [] first = tt
first-once (n ∷ ns) first = (
  at-all (λ k. IsTrue (not (k == n))) ns
      (λ i lt. other-way n (get_or ns i 0) (or-none (nat_eq n (get_or ns i 0)) (list_any (λ k. nat_eq k (get_or ns i 0)) (take i ns)) (first (suc i) (omega arith))).0),
  first-once ns (λ i lt. (or-none (nat_eq n (get_or ns i 0)) (list_any (λ k. nat_eq k (get_or ns i 0)) (take i ns)) (first (suc i) (omega arith))).1),
)

once-first : (ns : List ℕ) → IsOnce ns → (i : ℕ) → i < length ns → list_any (λ k. nat_eq k (get_or ns i 0)) (take i ns) ≡ false
once-first [] once i lt = absurd (omega arith)
once-first (n ∷ ns) once zero lt = refl
once-first (n ∷ ns) once (suc i) lt =
    or_from (nat_eq n (get_or ns i 0)) (list_any (λ k. nat_eq k (get_or ns i 0)) (take i ns))
    (back-way n (get_or ns i 0) (all-at (λ k. IsTrue (not (k == n))) ns once.0 i (omega arith))) (once-first ns once.1 i (omega arith))

module _ (graph : List (List ℕ)) (h : ℕ) (ns : List ℕ) where
  abbrev test : ℕ → Bool
  test n = not (reaches graph h n) && not (is_below graph ns n)

  passes : (n : ℕ) → reaches graph h n ≡ false → is_below graph ns n ≡ false → IsTrue (test n)
  passes n above below = ap (λ t. not t && not (is_below graph ns n)) above ∙ ap (λ t. not t) below

  pub each-brought : ((i : ℕ) → i < length ns → IsBroughtAt graph h ns i) → brought graph h ns ≡ ns
  unfolding brought
  each-brought each =
      ap (λ l. filter test l) (each_once-same ns (first-once ns (λ i lt. (each i lt).first)))
      ∙ filter-whole test ns (at-all (λ n. IsTrue (test n)) ns (λ i lt. let at = each i lt in passes (get_or ns i 0) at.above at.below))

  not-below : AllByRecursion (λ n. is_below graph ns n ≡ false) (brought graph h ns)
  unfolding brought
  not-below =
      filter-passes test (λ n. is_below graph ns n ≡ false) (each_once ns)
      (λ n is. let parts = and_parts (not (reaches graph h n)) (not (is_below graph ns n)) is in not-true (is_below graph ns n) parts.1)

  pub brought-each : brought graph h ns ≡ ns → (i : ℕ) → i < length ns → IsBroughtAt graph h ns i
  brought-each is i lt = record {
    first = once-first ns (subst IsOnce is (brought-once graph h ns)) i lt;
    above = all-at (λ n. reaches graph h n ≡ false) ns (subst (AllByRecursion (λ n. reaches graph h n ≡ false)) is (brought-above graph h ns)) i lt;
    below = all-at (λ n. is_below graph ns n ≡ false) ns (subst (AllByRecursion (λ n. is_below graph ns n ≡ false)) is not-below) i lt;
  }
