-- Entries by their keys: in an index, and in chunks.
use Rattle.std.proofs.Common.{zero, suc, ◌≡◌, ℕ, ◌+◌, ◌-◌, ◌*◌, ◌<◌, ◌≤◌, true, false, List, [], ◌∷◌, ◌++◌, None, Some, length, take, refl, ap, sym, ◌∙◌, subst, arith, ⊎_elim, length-append}
use Rattle.std.specs.Prelude.{slice_get, option_to_list, is_some, IfSome, IfNone}
use Rattle.std.specs.declared.cmp.Ordering.{Ordering}
use Rattle.std.specs.declared.cmp.Ordering.TheVariants.{Less, Equal, Greater}
use Rattle.std.specs.declared.option.Option.{Option}
use Rattle.std.specs.BTreeMap.{BTreeMap, get, is_at, Updates}
use Rattle.std.specs.Option.{option_map_or}
use Rattle.std.specs.Ordering.{nat_cmp, is_eq}
use Rattle.std.proofs.lemmas.Bool.{cases_lt}
use Rattle.std.proofs.lemmas.List.{length-take}
use Rattle.std.proofs.lemmas.Map.Lookups.{CmpEqualImpliesEq, exact_unsigned, exact_pairs}
use Rattle.shared_chunks.specs.Chunks.{joined, entries_of, IsChunked}
use Rattle.shared_chunks.specs.Keys.{HasKey, IsIndex, key_cmp}
use Rattle.shared_chunks.proofs.Joined.{finds, get-front, get-behind, get-take, length-joined}

equal : (o : Ordering) → is_eq o ≡ true → o ≡ Equal
equal Less e = absurd (cc)
equal Equal e = refl
equal Greater e = absurd (cc)

exact : CmpEqualImpliesEq key_cmp
exact = exact_pairs nat_cmp nat_cmp exact_unsigned exact_unsigned

module _ {X : Type 0} (key_of : X → Option (ℕ × ℕ)) where
  pub key-within : (xs : List X) (n : ℕ) (key : ℕ × ℕ) → HasKey key_of xs n key → n < length xs
  key-within [] n key has = absurd (cc)
  key-within (x ∷ xs) zero key has = omega arith
  key-within (x ∷ xs) (suc n) key has = let lt = key-within xs n key has in omega arith

  -- the same entry elsewhere
  pub key-moved : (xs ys : List X) (n m : ℕ) (key : ℕ × ℕ) → slice_get ys m ≡ slice_get xs n → HasKey key_of xs n key → HasKey key_of ys m key
  key-moved xs ys n m key same has = ap (λ (o : Option X). option_map_or key_of o None) same ∙ has

  key-grown : (xs : List X) (x : X) (n : ℕ) (key : ℕ × ℕ) → HasKey key_of xs n key → HasKey key_of (xs ++ x ∷ []) n key
  key-grown xs x n key has = key-moved xs (xs ++ x ∷ []) n n key (get-front xs (x ∷ []) n (key-within xs n key has)) has

  key-old : (xs : List X) (x : X) (n : ℕ) (key : ℕ × ℕ) → n < length xs → HasKey key_of (xs ++ x ∷ []) n key → HasKey key_of xs n key
  key-old xs x n key lt has = key-moved (xs ++ x ∷ []) xs n n key (sym (get-front xs (x ∷ []) n lt)) has

  last-place : (xs : List X) (x : X) (n : ℕ) (key : ℕ × ℕ) → length xs ≤ n → HasKey key_of (xs ++ x ∷ []) n key → n ≡ length xs
  last-place xs x n key le has = omega (arith, key-within (xs ++ x ∷ []) n key has, length-append xs (x ∷ []))

  key-new : (xs : List X) (x : X) (n : ℕ) (key : ℕ × ℕ) → length xs ≤ n → HasKey key_of (xs ++ x ∷ []) n key → key_of x ≡ Some key
  key-new xs x n key le has =
      let here : n ≡ length xs + 0 = omega (arith, last-place xs x n key le has) in
      sym (ap (λ (o : Option X). option_map_or key_of o None) (get-behind xs (x ∷ []) 0 n here)) ∙ has

  -- an entry whose key another one has adds nothing to the index
  pub index-known : (xs : List X) (x : X) (k : ℕ) (own : ℕ × ℕ) (index : BTreeMap (ℕ × ℕ) ℕ) → HasKey key_of xs k own → key_of x ≡ Some own
      → IsIndex key_of xs index → IsIndex key_of (xs ++ x ∷ []) index
  index-known xs x k own index known its is n key has =
      ⊎_elim
      (λ lt. let found = is n key (key-old xs x n key lt has) in (found.0, found.1, found.2, key-grown xs x found.0 key found.3))
      (λ le.
      let found = is k key (known ∙ sym its ∙ key-new xs x n key le has) in
      let before : found.0 ≤ n = let at_most = found.2 in let there = key-within xs k own known in omega arith in
      (found.0, found.1, before, key-grown xs x found.0 key found.3))
      (cases_lt n (length xs))

  -- one with a key that no other entry has
  module _ (xs : List X) (own : ℕ × ℕ) (before after : BTreeMap (ℕ × ℕ) ℕ) (free : (n : ℕ) → HasKey key_of xs n own → ⊥) (put : Updates key_cmp before after own (Some (length xs))) (is : IsIndex key_of xs before) where
    stays : (n k : ℕ) (key : ℕ × ℕ) → HasKey key_of xs n key → get key_cmp before key ≡ Some k → get key_cmp after key ≡ Some k
    stays n k key has found =
        put.2 key
        (elim (is_at (key_cmp own) key) as (λ t. is_at (key_cmp own) key ≡ t → is_at (key_cmp own) key ≡ false) [
          | true ↦ λ e. absurd (free n (has ∙ ap (λ (x : ℕ × ℕ). Some x) (sym (exact own key (equal (key_cmp own key) e)))))
          | false ↦ λ e. e
        ] refl)
        ∙ found

    pub index-put_kept : IsIndex key_of xs after
    index-put_kept n key has = let found = is n key has in (found.0, stays n found.0 key has found.1, found.2, found.3)

    pub index-put_next : (x : X) → key_of x ≡ Some own → IsIndex key_of (xs ++ x ∷ []) after
    index-put_next x its n key has =
        ⊎_elim
        (λ lt. let found = index-put_kept n key (key-old xs x n key lt has) in (found.0, found.1, found.2, key-grown xs x found.0 key found.3))
        (λ le.
        let here = last-place xs x n key le has in
        let e : Some own ≡ Some key = sym its ∙ key-new xs x n key le has in
        let same : own ≡ key = cc in
        let self : n ≤ n = omega arith in
        (n, subst (λ (k : ℕ × ℕ). get key_cmp after k ≡ Some n) same (rw here put.1), self, has))
        (cases_lt n (length xs))

  -- the entries of chunks
  module _ (full : List (List X)) (last : Option (List X)) (rest : ℕ) (kept : IsChunked full last rest) where
    full-get : (q r n : ℕ) (chunk : List X) → slice_get (full ++ option_to_list last) q ≡ Some chunk → q < length full → n ≡ 1024 * q + r → r < 1024
        → (r < length chunk) × (slice_get (joined full ++ take rest (entries_of last)) n ≡ slice_get chunk r)
    full-get q r n chunk at lt is less = finds last rest kept.short kept.there full q r n chunk kept.whole is less (omega arith) at

    pub full-whole : (q : ℕ) (chunk : List X) → slice_get (full ++ option_to_list last) q ≡ Some chunk → q < length full → 1024 ≤ length chunk
    full-whole q chunk at lt = let most = (full-get q 1023 (1024 * q + 1023) chunk at lt refl (omega arith)).0 in omega arith

    pub found-full : (q m n : ℕ) (key : ℕ × ℕ) (chunk : List X) → slice_get (full ++ option_to_list last) q ≡ Some chunk → q < length full → n ≡ q * 1024 + m
        → HasKey key_of (take 1024 chunk) m key → HasKey key_of (joined full ++ take rest (entries_of last)) n key
    found-full q m n key chunk at lt is has =
        let less : m < 1024 = omega (arith, key-within (take 1024 chunk) m key has, length-take 1024 chunk) in
        let same = (full-get q m n chunk at lt (omega arith) less).1 in
        key-moved (take 1024 chunk) (joined full ++ take rest (entries_of last)) m n key (same ∙ sym (get-take chunk 1024 m less)) has

    pub none-full : (q from : ℕ) (key : ℕ × ℕ) (chunk : List X) → slice_get (full ++ option_to_list last) q ≡ Some chunk → q < length full
        → ((m : ℕ) → HasKey key_of (take 1024 chunk) m key → ⊥)
        → ((n : ℕ) → from ≤ n → n < 1024 * q → HasKey key_of (joined full ++ take rest (entries_of last)) n key → ⊥)
        → (n : ℕ) → from ≤ n → n < 1024 * (q + 1) → HasKey key_of (joined full ++ take rest (entries_of last)) n key → ⊥
    none-full q from key chunk at lt here before n le less has =
        ⊎_elim
        (λ old. before n le old has)
        (λ new.
        let within : n - 1024 * q < 1024 = omega arith in
        let same = (full-get q (n - 1024 * q) n chunk at lt (omega arith) within).1 in
        here (n - 1024 * q) (key-moved (joined full ++ take rest (entries_of last)) (take 1024 chunk) n (n - 1024 * q) key (get-take chunk 1024 (n - 1024 * q) within ∙ sym same) has))
        (cases_lt n (1024 * q))

    last-get : (m n : ℕ) → n ≡ 1024 * length full + m → slice_get (joined full ++ take rest (entries_of last)) n ≡ slice_get (take rest (entries_of last)) m
    last-get m n is = get-behind (joined full) (take rest (entries_of last)) m n (omega (arith, is, length-joined full kept.whole))

    pub found-last : (m n : ℕ) (key : ℕ × ℕ) → n ≡ length full * 1024 + m → HasKey key_of (take rest (entries_of last)) m key
        → HasKey key_of (joined full ++ take rest (entries_of last)) n key
    found-last m n key is has = key-moved (take rest (entries_of last)) (joined full ++ take rest (entries_of last)) m n key (last-get m n (omega arith)) has

    pub none-last : (from number : ℕ) (key : ℕ × ℕ) → length full ≤ number
        → ((m : ℕ) → HasKey key_of (take rest (entries_of last)) m key → ⊥)
        → ((n : ℕ) → from ≤ n → n < 1024 * number → HasKey key_of (joined full ++ take rest (entries_of last)) n key → ⊥)
        → (n : ℕ) → from ≤ n → HasKey key_of (joined full ++ take rest (entries_of last)) n key → ⊥
    none-last from number key all here before n le has =
        ⊎_elim
        (λ old. before n le (omega arith) has)
        (λ new. here (n - 1024 * length full) (key-moved (joined full ++ take rest (entries_of last)) (take rest (entries_of last)) n (n - 1024 * length full) key (sym (last-get (n - 1024 * length full) n (omega arith))) has))
        (cases_lt n (1024 * length full))

pub if_some : {X : Type 0} (o : Option X) (P : X → Type 0) → is_some o ≡ true → IfSome o P → (x : X) × P x
if_some (Some x) P is h = (x, h)
if_some None P is h = absurd (cc)

pub if_none : {X : Type 0} (o : Option X) (P : Type 0) → is_some o ≡ false → IfNone o P → P
if_none (Some x) P is h = absurd (cc)
if_none None P is h = h

pub at_none : {X : Type 0} (o : Option X) (P : Type 0) → o ≡ None → IfNone o P → P
at_none (Some x) P is h = absurd (cc)
at_none None P is h = h
