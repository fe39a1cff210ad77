-- Tables by strictly rising lists of bytes.
use Rattle.std.proofs.Common.{◌≡◌, ℕ, Bool, true, false, cond, ◌&&◌, ◌||◌, Option, None, Some, List, [], ◌∷◌, map, filter, refl, ◌∙◌, ap, sym, subst}
use Rattle.std.specs.List.{list_any, AllByRecursion}
use Rattle.std.specs.declared.cmp.Ordering.{Ordering}
use Rattle.std.specs.declared.cmp.Ordering.TheVariants.{Less, Equal, Greater}
use Rattle.std.specs.Ordering.{nat_cmp, is_eq, match_ordering, ordering_reverse}
use Rattle.std.specs.Cmp.{eq_by_cmp_equiv}
use Rattle.std.specs.Cmp.Lexicographic.{slice_cmp}
use Rattle.std.specs.Map.{keys_of, lookup}
use Rattle.std.specs.List.Sorted.{IsStrictlySortedBy}
use Rattle.std.proofs.lemmas.Cmp.{nat_list_cmp_total}
use Rattle.std.proofs.lemmas.Map.Lookups.{exact_bytes}
use Rattle.std.specs.BTreeSet.{insert_key}

abbrev pub cmp : List ℕ → List ℕ → Ordering
cmp = slice_cmp nat_cmp

abbrev pub same_bytes : List ℕ → List ℕ → Bool
same_bytes j k = is_eq (cmp j k)

-- a list of bytes in its place
abbrev pub insert_bytes : List ℕ → List (List ℕ) → List (List ℕ)
insert_bytes k ks = insert_key cmp ks k

abbrev pub Below : List ℕ → List (List ℕ) → Type 0
Below k ks = AllByRecursion (λ j. cmp k j ≡ Less) ks

pub same_bytes-eq : (j k : List ℕ) → same_bytes j k ≡ true → j ≡ k
same_bytes-eq j k h = exact_bytes j k (equal (cmp j k) h)
  where
    equal : (o : Ordering) → is_eq o ≡ true → o ≡ Equal
    equal Less h = cc
    equal Equal h = refl
    equal Greater h = cc

pub same_bytes-refl : (k : List ℕ) → same_bytes k k ≡ true
same_bytes-refl k = (eq_by_cmp_equiv nat_list_cmp_total).refl k

pub same_bytes-sym : (j k : List ℕ) → same_bytes j k ≡ same_bytes k j
same_bytes-sym j k = (eq_by_cmp_equiv nat_list_cmp_total).symm j k

pub below_trans : (k j : List ℕ) (ks : List (List ℕ)) → cmp k j ≡ Less → Below j ks → Below k ks
below_trans k j [] h b = tt
below_trans k j (i ∷ ks) h b = (nat_list_cmp_total.trans k j i h b.0, below_trans k j ks h b.1)

pub turned : (k j : List ℕ) → cmp k j ≡ Greater → cmp j k ≡ Less
turned k j h = nat_list_cmp_total.antisymm j k ∙ ap ordering_reverse h

-- what holds of each element that is there, and of a new one
step_all : (o : Ordering) (P : List ℕ → Type 0) (k j : List ℕ) (ks rest : List (List ℕ)) → P k → P j → AllByRecursion P ks → AllByRecursion P rest → AllByRecursion P (match_ordering o (k ∷ j ∷ ks) (j ∷ ks) (j ∷ rest))
step_all Less P k j ks rest p q r s = (p, (q, r))
step_all Equal P k j ks rest p q r s = (q, r)
step_all Greater P k j ks rest p q r s = (q, s)

pub insert-all : (P : List ℕ → Type 0) (k : List ℕ) (ks : List (List ℕ)) → P k → AllByRecursion P ks → AllByRecursion P (insert_bytes k ks)
insert-all P k [] p r = (p, tt)
insert-all P k (j ∷ ks) p r = step_all (cmp k j) P k j ks (insert_bytes k ks) p r.0 r.1 (insert-all P k ks p r.1)

below_insert : (o : Ordering) (k j : List ℕ) (ks : List (List ℕ)) → cmp k j ≡ o → Below j ks → Below j (match_ordering o [] [] (insert_bytes k ks))
below_insert Less k j ks is b = tt
below_insert Equal k j ks is b = tt
below_insert Greater k j ks is b = insert-all (λ i. cmp j i ≡ Less) k ks (turned k j is) b

step_insert : (o : Ordering) (k j : List ℕ) (ks : List (List ℕ)) → cmp k j ≡ o → IsStrictlySortedBy cmp (j ∷ ks) → IsStrictlySortedBy cmp (insert_bytes k ks) → IsStrictlySortedBy cmp (match_ordering o (k ∷ j ∷ ks) (j ∷ ks) (j ∷ insert_bytes k ks))
unfolding IsStrictlySortedBy
step_insert Less k j ks is s r = ((is, below_trans k j ks is s.0), s)
step_insert Equal k j ks is s r = s
step_insert Greater k j ks is s r = (below_insert Greater k j ks is s.0, r)

pub insert-sorted : (k : List ℕ) (ks : List (List ℕ)) → IsStrictlySortedBy cmp ks → IsStrictlySortedBy cmp (insert_bytes k ks)
unfolding IsStrictlySortedBy
insert-sorted k [] s = (tt, tt)
insert-sorted k (j ∷ ks) s = step_insert (cmp k j) k j ks refl s (insert-sorted k ks s.1)

step_any : (o : Ordering) (q k j : List ℕ) (ks rest : List (List ℕ)) → cmp k j ≡ o → list_any (same_bytes q) rest ≡ (same_bytes q k || list_any (same_bytes q) ks)
    → list_any (same_bytes q) (match_ordering o (k ∷ j ∷ ks) (j ∷ ks) (j ∷ rest)) ≡ (same_bytes q k || (same_bytes q j || list_any (same_bytes q) ks))
step_any Less q k j ks rest is h = refl
step_any Equal q k j ks rest is h = absorb (same_bytes q k) (same_bytes q j) (list_any (same_bytes q) ks) (ap (same_bytes q) (exact_bytes k j is))
  where
    absorb : (a b c : Bool) → a ≡ b → (b || c) ≡ (a || (b || c))
    absorb true true c e = refl
    absorb true false c e = cc
    absorb false b c e = refl
step_any Greater q k j ks rest is h = ap (λ b. same_bytes q j || b) h ∙ swap (same_bytes q j) (same_bytes q k) (list_any (same_bytes q) ks)
  where
    swap : (a b c : Bool) → (a || (b || c)) ≡ (b || (a || c))
    swap true true c = refl
    swap true false c = refl
    swap false true c = refl
    swap false false c = refl

pub insert-any : (q k : List ℕ) (ks : List (List ℕ)) → list_any (same_bytes q) (insert_bytes k ks) ≡ (same_bytes q k || list_any (same_bytes q) ks)
insert-any q k [] = refl
insert-any q k (j ∷ ks) = step_any (cmp k j) q k j ks (insert_bytes k ks) refl (insert-any q k ks)

-- what a test keeps
keep_all : (b : Bool) (P Q : List ℕ → Type 0) (k : List ℕ) (ks : List (List ℕ)) → (b ≡ true → Q k) → AllByRecursion Q ks → AllByRecursion Q (cond b (k ∷ ks) ks)
keep_all true P Q k ks here rest = (here refl, rest)
keep_all false P Q k ks here rest = rest

pub filter-all : (p : List ℕ → Bool) (P Q : List ℕ → Type 0) (ks : List (List ℕ)) → ((k : List ℕ) → P k → p k ≡ true → Q k) → AllByRecursion P ks → AllByRecursion Q (filter p ks)
filter-all p P Q [] given all = tt
filter-all p P Q (k ∷ ks) given all = keep_all (p k) P Q k (filter p ks) (given k all.0) (filter-all p P Q ks given all.1)

keep_sorted : (b : Bool) (k : List ℕ) (ks : List (List ℕ)) → Below k ks → IsStrictlySortedBy cmp ks → IsStrictlySortedBy cmp (cond b (k ∷ ks) ks)
unfolding IsStrictlySortedBy
keep_sorted true k ks below rest = (below, rest)
keep_sorted false k ks below rest = rest

pub filter-sorted : (p : List ℕ → Bool) (ks : List (List ℕ)) → IsStrictlySortedBy cmp ks → IsStrictlySortedBy cmp (filter p ks)
unfolding IsStrictlySortedBy
filter-sorted p [] s = tt
filter-sorted p (k ∷ ks) s = keep_sorted (p k) k (filter p ks) (filter-all p (λ j. cmp k j ≡ Less) (λ j. cmp k j ≡ Less) ks (λ j h b. h) s.0) (filter-sorted p ks s.1)

keep_any : (q k : List ℕ) (p : List ℕ → Bool) (kept : List (List ℕ)) (m b c : Bool) → p k ≡ b → same_bytes q k ≡ c → list_any (same_bytes q) kept ≡ (p q && m) → list_any (same_bytes q) (cond b (k ∷ kept) kept) ≡ (p q && (same_bytes q k || m))
keep_any q k p kept m true true is same rest = let in_p : p q ≡ true = ap p (same_bytes-eq q k same) ∙ is in rw (same, in_p) refl
keep_any q k p kept m true false is same rest = rw same rest
keep_any q k p kept m false true is same rest = let out : p q ≡ false = ap p (same_bytes-eq q k same) ∙ is in rw out (rw out at rest)
keep_any q k p kept m false false is same rest = rw same rest

and_false : (b : Bool) → (b && false) ≡ false
and_false true = refl
and_false false = refl

pub filter-any : (q : List ℕ) (p : List ℕ → Bool) (ks : List (List ℕ)) → list_any (same_bytes q) (filter p ks) ≡ (p q && list_any (same_bytes q) ks)
filter-any q p [] = sym (and_false (p q))
filter-any q p (k ∷ ks) = keep_any q k p (filter p ks) (list_any (same_bytes q) ks) (p k) (same_bytes q k) refl refl (filter-any q p ks)

module _ {V : Type 0} where
  abbrev pub value_at : List (List ℕ × V) → List ℕ → Option V
  value_at es k = lookup (same_bytes k) es

  -- a table of a function over elements
  abbrev pub table_of : (List ℕ → V) → List (List ℕ) → List (List ℕ × V)
  table_of f ks = map {B = List ℕ × V} (λ k. (k, f k)) ks

  pub keys-table : (f : List ℕ → V) (ks : List (List ℕ)) → keys_of (table_of f ks) ≡ ks
  keys-table f [] = refl
  keys-table f (k ∷ ks) = ap (λ js. k ∷ js) (keys-table f ks)

  pub value-table : (f : List ℕ → V) (ks : List (List ℕ)) (q : List ℕ) → value_at (table_of f ks) q ≡ cond (list_any (same_bytes q) ks) (Some (f q)) None
  value-table f [] q = refl
  value-table f (k ∷ ks) q = at (same_bytes q k) refl (value-table f ks q)
    where
      at : (b : Bool) → same_bytes q k ≡ b → value_at (table_of f ks) q ≡ cond (list_any (same_bytes q) ks) (Some (f q)) None → cond b (Some (f k)) (value_at (table_of f ks) q) ≡ cond (b || list_any (same_bytes q) ks) (Some (f q)) None
      at true is rest = ap (λ j. Some (f j)) (sym (same_bytes-eq q k is))
      at false is rest = rest

  pub none-below : (k : List ℕ) (es : List (List ℕ × V)) → Below k (keys_of es) → value_at es k ≡ None
  none-below k [] below = refl
  none-below k (e ∷ es) below = ap (λ o. cond (is_eq o) (Some e.1) (value_at es k)) below.0 ∙ none-below k es below.1

  own_value : (e : List ℕ × V) (es : List (List ℕ × V)) → value_at (e ∷ es) e.0 ≡ Some e.1
  own_value e es = ap (λ p. cond p (Some e.1) (value_at es e.0)) (same_bytes-refl e.0)

  same_entry : (e f : List ℕ × V) → e.0 ≡ f.0 → e.1 ≡ f.1 → e ≡ f
  same_entry e f p q = ap {B = List ℕ × V} (λ k. (k, e.1)) p ∙ ap {B = List ℕ × V} (λ v. (f.0, v)) q

  lower : (e : List ℕ × V) (fs es : List (List ℕ × V)) → Below e.0 (keys_of fs) → value_at (e ∷ es) e.0 ≡ value_at fs e.0 → ⊥
  lower e fs es below same = let clash : Some e.1 ≡ None = sym (own_value e es) ∙ same ∙ none-below e.0 fs below in cc

  -- two tables that have the same at each element
  pub same_tables : (es fs : List (List ℕ × V)) → IsStrictlySortedBy cmp (keys_of es) → IsStrictlySortedBy cmp (keys_of fs) → ((k : List ℕ) → value_at es k ≡ value_at fs k) → es ≡ fs
  unfolding IsStrictlySortedBy
  same_tables [] [] p q same = refl
  same_tables [] (f ∷ fs) p q same = absurd (lower f [] fs tt (sym (same f.0)))
  same_tables (e ∷ es) [] p q same = absurd (lower e [] es tt (same e.0))
  same_tables (e ∷ es) (f ∷ fs) p q same = at (cmp e.0 f.0) refl (same_tables es fs p.1 q.1)
    where
      tails : e.0 ≡ f.0 → (k : List ℕ) (b : Bool) → same_bytes k e.0 ≡ b → value_at es k ≡ value_at fs k
      tails is k true here =
          let key : k ≡ e.0 = same_bytes-eq k e.0 here in
          none-below k es (subst (λ j. Below j (keys_of es)) (sym key) p.0) ∙ sym (none-below k fs (subst (λ j. Below j (keys_of fs)) (sym (key ∙ is)) q.0))
      tails is k false there =
          sym (ap (λ b. cond b (Some e.1) (value_at es k)) there)
          ∙ same k ∙ ap (λ b. cond b (Some f.1) (value_at fs k)) (subst (λ j. same_bytes k j ≡ false) is there)

      at : (o : Ordering) → cmp e.0 f.0 ≡ o → (((k : List ℕ) → value_at es k ≡ value_at fs k) → es ≡ fs) → e ∷ es ≡ f ∷ fs
      at Less is rest = absurd (lower e (f ∷ fs) es (is, below_trans e.0 f.0 (keys_of fs) is q.0) (same e.0))
      at Greater is rest = let less = turned e.0 f.0 is in absurd (lower f (e ∷ es) fs (less, below_trans f.0 e.0 (keys_of es) less p.0) (sym (same f.0)))
      at Equal is rest =
          let key : e.0 ≡ f.0 = exact_bytes e.0 f.0 is in
          let here : Some e.1 ≡ Some f.1 = sym (own_value e es) ∙ same e.0 ∙ ap (λ k. value_at (f ∷ fs) k) key ∙ own_value f fs in
          let value : e.1 ≡ f.1 = cc in
          ap (λ i. i ∷ es) (same_entry e f key value) ∙ ap (λ is. f ∷ is) (rest (λ k. tails key k (same_bytes k e.0) refl))
