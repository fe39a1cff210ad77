-- Lists that are walked, two side by side, or one while it is written.
use Rattle.std.proofs.Common.{◌≡◌, ℕ, ◌+◌, ◌-◌, nat_lt, None, Some, List, [], ◌∷◌, ◌++◌, length, drop, slice_get, refl, ◌∙◌, ap, sym, append_assoc, arith}
use Rattle.std.specs.List.{flat_map, sum_by}
use Rattle.std.proofs.lemmas.List.Concat.{flat_map-append, length-flat_map}
use Rattle.std.proofs.lemmas.List.Sums.{sum_by-cons}
use Rattle.std.proofs.lemmas.Bool.{lt-ltb}
use Rattle.mrdt_model.specs.Spelled.{AppendsPart, capped}
use Rattle.live_set.specs.declared.kept.Kept.{Kept}
use Rattle.live_set.specs.Effects.{has_any}
use Rattle.live_set.proofs.Writing.{PutSoFar, so_far-more, so_far-part}

capped_more : (m s r : ℕ) → capped s ≡ capped r → capped (capped m + s) ≡ capped (m + r)
capped_more m s r is = omega (arith, is)

module _ {X : Type 0} where
  pub first_is : (xs : List X) (x : X) → slice_get xs 0 ≡ Some x → xs ≡ x ∷ drop 1 xs
  first_is [] x at = absurd (cc at)
  first_is (y ∷ xs) x at = let own : y ≡ x = cc at in ap (λ z. z ∷ xs) own

  pub first_not : (xs : List X) → slice_get xs 0 ≡ None → xs ≡ []
  first_not [] at = refl
  first_not (y ∷ xs) at = absurd (cc at)

  -- a walk takes an entry
  pub walk_shorter : (xs : List X) (x : X) → slice_get xs 0 ≡ Some x → length (drop 1 xs) + 1 ≡ length xs
  walk_shorter [] x at = absurd (cc at)
  walk_shorter (y ∷ xs) x at = omega arith

  cancel : (xs ys zs : List X) → xs ++ ys ≡ xs ++ zs → ys ≡ zs
  cancel [] ys zs is = is
  cancel (x ∷ xs) ys zs is = let rest : xs ++ ys ≡ xs ++ zs = cc is in cancel xs ys zs rest

-- behind entries that are the same, these are ahead
pub record AreAlike {X : Type 0} (xs ys mine theirs : List X) : Type 0 where
  pub front : List X
  pub left : xs ≡ front ++ mine
  pub right : ys ≡ front ++ theirs

pub any_long : {V : Type 0} (ks : List (Kept V)) → has_any ks ≡ nat_lt 0 (length ks)
any_long [] = refl
any_long (k ∷ ks) = sym (lt-ltb 0 (length (k ∷ ks)) (omega arith))

module _ {X : Type 0} where
  pub alike_start : (xs ys mine theirs : List X) → mine ≡ xs → theirs ≡ ys → AreAlike xs ys mine theirs
  alike_start xs ys mine theirs p q = record { front = []; left = sym p; right = sym q }

  pub alike_more : (xs ys mine theirs : List X) (x y : X) → AreAlike xs ys mine theirs → slice_get mine 0 ≡ Some x → slice_get theirs 0 ≡ Some y → x ≡ y → AreAlike xs ys (drop 1 mine) (drop 1 theirs)
  alike_more xs ys mine theirs x y a p q same = record {
    front = a.front ++ x ∷ [];
    left = a.left ∙ ap (λ zs. a.front ++ zs) (first_is mine x p) ∙ sym (append_assoc a.front (x ∷ []) (drop 1 mine));
    right = a.right ∙ ap (λ zs. a.front ++ zs) (first_is theirs y q) ∙ ap (λ z. a.front ++ z ∷ drop 1 theirs) (sym same) ∙ sym (append_assoc a.front (x ∷ []) (drop 1 theirs));
  }

  length-behind : (xs ys zs : List X) → length (xs ++ ys) ≡ length (xs ++ zs) → length ys ≡ length zs
  length-behind [] ys zs is = is
  length-behind (x ∷ xs) ys zs is = length-behind xs ys zs (omega (arith, is))

  ahead_length : (xs ys mine theirs : List X) → AreAlike xs ys mine theirs → length xs ≡ length ys → length mine ≡ length theirs
  ahead_length xs ys mine theirs a long = length-behind a.front mine theirs (sym (ap length a.left) ∙ long ∙ ap length a.right)

  none_left : (ys : List X) → 0 ≡ length ys → ys ≡ []
  none_left [] is = refl
  none_left (y ∷ ys) is = absurd (omega (arith, is))

  pub alike_end : (xs ys mine theirs : List X) → AreAlike xs ys mine theirs → slice_get mine 0 ≡ None → length xs ≡ length ys → xs ≡ ys
  alike_end xs ys mine theirs a none long =
      let mine_none : mine ≡ [] = first_not mine none in
      let theirs_none : theirs ≡ [] = none_left theirs (sym (ap length mine_none) ∙ ahead_length xs ys mine theirs a long) in
      a.left ∙ ap (λ zs. a.front ++ zs) mine_none ∙ sym (ap (λ zs. a.front ++ zs) theirs_none) ∙ sym a.right

  pub alike_apart : (xs ys mine theirs : List X) (x y : X) → AreAlike xs ys mine theirs → slice_get mine 0 ≡ Some x → slice_get theirs 0 ≡ Some y → xs ≡ ys → x ≡ y
  alike_apart xs ys mine theirs x y a p q same =
      let rest : mine ≡ theirs = cancel a.front mine theirs (sym a.left ∙ same ∙ a.right) in
      let one : Some x ≡ Some y = sym p ∙ ap (λ zs. slice_get zs 0) rest ∙ q in
      cc one

  pub alike_short : (xs ys mine theirs : List X) (x : X) → AreAlike xs ys mine theirs → slice_get mine 0 ≡ Some x → slice_get theirs 0 ≡ None → length xs ≡ length ys → ⊥
  alike_short xs ys mine theirs x a p q long =
      let some : length mine ≡ length (x ∷ drop 1 mine) = ap length (first_is mine x p) in
      let none : length theirs ≡ 0 = ap length (first_not theirs q) in
      omega (arith, some, none, ahead_length xs ys mine theirs a long)

  -- the spellings of the next entries stand at the front of the same bytes
  pub alike_spelled : (spell : X → List ℕ) (xs ys mine theirs : List X) (x y : X) → AreAlike xs ys mine theirs → slice_get mine 0 ≡ Some x → slice_get theirs 0 ≡ Some y → flat_map spell xs ≡ flat_map spell ys
      → spell x ++ flat_map spell (drop 1 mine) ≡ spell y ++ flat_map spell (drop 1 theirs)
  alike_spelled spell xs ys mine theirs x y a p q same =
      let left : flat_map spell xs ≡ flat_map spell a.front ++ flat_map spell mine = ap (flat_map spell) a.left ∙ flat_map-append spell a.front mine in
      let right : flat_map spell ys ≡ flat_map spell a.front ++ flat_map spell theirs = ap (flat_map spell) a.right ∙ flat_map-append spell a.front theirs in
      let rest : flat_map spell mine ≡ flat_map spell theirs = cancel (flat_map spell a.front) (flat_map spell mine) (flat_map spell theirs) (sym left ∙ same ∙ right) in
      sym (ap (flat_map spell) (first_is mine x p)) ∙ rest ∙ ap (flat_map spell) (first_is theirs y q)

  -- an entry more is written
  pub written_more : (spell : X → List ℕ) (old out new whole : List ℕ) (ahead : List X) (x : X) → slice_get ahead 0 ≡ Some x → PutSoFar old out (flat_map spell ahead) whole → new ≡ out ++ spell x → PutSoFar old new (flat_map spell (drop 1 ahead)) whole
  written_more spell old out new whole ahead x at so_far is =
      let now : PutSoFar old out (spell x ++ flat_map spell (drop 1 ahead)) whole = rw (ap (flat_map spell) (first_is ahead x at)) at so_far in
      so_far-more old out new (spell x) (flat_map spell (drop 1 ahead)) whole now is

  pub written_part : (spell : X → List ℕ) (old out new whole : List ℕ) (ahead : List X) (x : X) → slice_get ahead 0 ≡ Some x → PutSoFar old out (flat_map spell ahead) whole → AppendsPart out new (spell x) → AppendsPart old new whole
  written_part spell old out new whole ahead x at so_far part =
      let now : PutSoFar old out (spell x ++ flat_map spell (drop 1 ahead)) whole = rw (ap (flat_map spell) (first_is ahead x at)) at so_far in
      so_far-part old out new (spell x) (flat_map spell (drop 1 ahead)) whole now part

  capped_sums : (f : X → ℕ) (xs : List X) → capped (sum_by (λ x. capped (f x)) xs) ≡ capped (sum_by f xs)
  capped_sums f [] = refl
  capped_sums f (x ∷ xs) =
      ap capped (sum_by-cons (λ y. capped (f y)) x xs) ∙ capped_more (f x) (sum_by (λ y. capped (f y)) xs) (sum_by f xs) (capped_sums f xs) ∙ sym (ap capped (sum_by-cons f x xs))

  -- the sum of the lengths, each as it is kept in 64 bits
  pub capped_lengths : (spell : X → List ℕ) (xs : List X) → capped (sum_by (λ x. capped (length (spell x))) xs) ≡ capped (length (flat_map spell xs))
  capped_lengths spell xs = capped_sums (λ x. length (spell x)) xs ∙ ap capped (sym (length-flat_map spell xs))
