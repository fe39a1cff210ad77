-- Lists kept in chunks: how many they are, each of them, one more and one fewer.
use Rattle.std.proofs.Common.{zero, suc, ◌≡◌, ℕ, ◌+◌, ◌-◌, ◌*◌, ◌/◌, ◌%◌, ◌<◌, ◌≤◌, List, [], ◌∷◌, ◌++◌, None, Some, IsSome, length, map, take, refl, ap, sym, ◌∙◌, subst, arith, append_assoc, length-append}
use Rattle.std.specs.Prelude.{slice_get, option_to_list}
use Rattle.std.specs.declared.option.Option.{Option}
use Rattle.std.specs.Option.{option_map}
use Rattle.std.specs.List.{AllByRecursion}
use Rattle.std.proofs.lemmas.List.{length-take, length-map, map-append, take-take, take_all}
use Rattle.shared_chunks.specs.Chunks.{joined, entries_of, IsChunked}

module _ {X : Type 0} where
  abbrev pub AreWhole : List (List X) → Type 0
  AreWhole full = AllByRecursion (λ chunk. length chunk ≡ 1024) full

  pub length-joined : (full : List (List X)) → AreWhole full → length (joined full) ≡ 1024 * length full
  length-joined [] whole = refl
  length-joined (chunk ∷ full) whole = let rest = length-joined full whole.1 in omega (arith, whole.0, length-append chunk (joined full))

  pub length-chunked : (full : List (List X)) (last : Option (List X)) (rest : ℕ) → IsChunked full last rest
      → length (joined full ++ take rest (entries_of last)) ≡ 1024 * length full + rest
  length-chunked full last rest kept =
      let there = kept.there in
      omega (arith, length-append (joined full) (take rest (entries_of last)), length-joined full kept.whole, length-take rest (entries_of last))

  append_nil : (xs : List X) → xs ++ [] ≡ xs
  append_nil [] = refl
  append_nil (x ∷ xs) = ap (λ rest. x ∷ rest) (append_nil xs)

  pub joined-push : (full : List (List X)) (chunk : List X) → joined (full ++ chunk ∷ []) ≡ joined full ++ chunk
  joined-push [] chunk = append_nil chunk
  joined-push (first ∷ full) chunk = ap (λ rest. first ++ rest) (joined-push full chunk) ∙ sym (append_assoc first (joined full) chunk)

  -- one more, with which the last chunk is full
  pub joined-closed : (full : List (List X)) (chunk first : List X) (list : X) (last : List X) → chunk ≡ first ++ list ∷ []
      → joined (full ++ chunk ∷ []) ++ take 0 last ≡ (joined full ++ first) ++ list ∷ []
  joined-closed full chunk first list last is =
      append_nil (joined (full ++ chunk ∷ [])) ∙ joined-push full chunk ∙ ap (λ c. joined full ++ c) is ∙ sym (append_assoc (joined full) first (list ∷ []))

  pub AreWhole-push : (full : List (List X)) (chunk : List X) → AreWhole full → length chunk ≡ 1024 → AreWhole (full ++ chunk ∷ [])
  AreWhole-push [] chunk whole is = (is, tt)
  AreWhole-push (first ∷ full) chunk whole is = (whole.0, AreWhole-push full chunk whole.1 is)

  pub AreWhole-pop : (full : List (List X)) (chunk : List X) → AreWhole (full ++ chunk ∷ []) → AreWhole full × (length chunk ≡ 1024)
  AreWhole-pop [] chunk whole = (tt, whole.0)
  AreWhole-pop (first ∷ full) chunk whole = let rest = AreWhole-pop full chunk whole.1 in ((whole.0, rest.0), rest.1)

  -- the list at a place of one that goes on, behind another, and of the first ones
  pub get-front : (xs more : List X) (n : ℕ) → n < length xs → slice_get (xs ++ more) n ≡ slice_get xs n
  get-front [] more n lt = absurd (omega arith)
  get-front (x ∷ xs) more zero lt = refl
  get-front (x ∷ xs) more (suc n) lt = get-front xs more n (omega arith)

  pub get-behind : (xs more : List X) (n k : ℕ) → k ≡ length xs + n → slice_get (xs ++ more) k ≡ slice_get more n
  get-behind [] more n k is = let same : k ≡ n = omega arith in ap (slice_get more) same
  get-behind (x ∷ xs) more n zero is = absurd (omega arith)
  get-behind (x ∷ xs) more n (suc k) is = get-behind xs more n k (omega arith)

  pub get-take : (xs : List X) (count n : ℕ) → n < count → slice_get (take count xs) n ≡ slice_get xs n
  get-take xs zero n lt = absurd (omega arith)
  get-take [] (suc count) n lt = refl
  get-take (x ∷ xs) (suc count) zero lt = refl
  get-take (x ∷ xs) (suc count) (suc n) lt = get-take xs count n (omega arith)

  -- the chunk that a number lies in is there, and has the list of the number
  module _ (last : Option (List X)) (rest : ℕ) (short : rest < 1024) (there : rest ≤ length (entries_of last)) where
    places : (full : List (List X)) (q r n : ℕ) → AreWhole full → n ≡ 1024 * q + r → r < 1024 → n < 1024 * length full + rest → q < length (full ++ option_to_list last)
    places [] q r n whole is lt within = last_there last there
      where
        last_there : (o : Option (List X)) → rest ≤ length (entries_of o) → q < length (option_to_list o)
        last_there None le = absurd (omega arith)
        last_there (Some chunk) le = omega arith
    places (chunk ∷ full) zero r n whole is lt within = omega arith
    places (chunk ∷ full) (suc q) r n whole is lt within = let more = places full q r (n - 1024) whole.1 (omega arith) lt (omega arith) in omega arith

    pub finds : (full : List (List X)) (q r n : ℕ) (found : List X) → AreWhole full → n ≡ 1024 * q + r → r < 1024 → n < 1024 * length full + rest
        → slice_get (full ++ option_to_list last) q ≡ Some found → (r < length found) × (slice_get (joined full ++ take rest (entries_of last)) n ≡ slice_get found r)
    finds [] q r n found whole is lt within at = found_last last there at
      where
        found_last : (o : Option (List X)) → rest ≤ length (entries_of o) → slice_get (option_to_list o) q ≡ Some found → (r < length found) × (slice_get (take rest (entries_of o)) n ≡ slice_get found r)
        found_last None le none = absurd (omega arith)
        found_last (Some chunk) le one =
            let none : q ≡ 0 = omega arith in
            let first : slice_get (chunk ∷ []) 0 ≡ Some found = subst (λ (k : ℕ). slice_get (chunk ∷ []) k ≡ Some found) none one in
            let same : chunk ≡ found = cc first in
            let place : n ≡ r = omega arith in
            subst (λ (es : List X). (r < length es) × (slice_get (take rest chunk) n ≡ slice_get es r)) same
            ((omega arith), rw place (get-take chunk rest r (omega arith)))
    finds (chunk ∷ full) zero r n found whole is lt within at =
        let same : chunk ≡ found = cc at in
        let place : n ≡ r = omega arith in
        let long = whole.0 in
        subst (λ (es : List X). (r < length es) × (slice_get ((chunk ++ joined full) ++ take rest (entries_of last)) n ≡ slice_get es r)) same
        ((omega arith), rw (place, append_assoc) (get-front chunk (joined full ++ take rest (entries_of last)) r (omega arith)))
    finds (chunk ∷ full) (suc q) r n found whole is lt within at =
        let more = finds full q r (n - 1024) found whole.1 (omega arith) lt (omega arith) at in
        let long = whole.0 in
        (more.0, rw append_assoc (get-behind chunk (joined full ++ take rest (entries_of last)) (n - 1024) n (omega arith)) ∙ more.1)

  pub chunk-there : (full : List (List X)) (last : Option (List X)) (rest n : ℕ) → IsChunked full last rest → n < length (joined full ++ take rest (entries_of last))
      → n / 1024 < length (full ++ option_to_list last)
  chunk-there full last rest n kept lt =
      let short = kept.short in
      let within : n < 1024 * length full + rest = let len = length-chunked full last rest kept in omega arith in
      places last rest kept.short kept.there full (n / 1024) (n % 1024) n kept.whole (omega arith) (omega arith) within

  pub chunk-finds : (full : List (List X)) (last : Option (List X)) (rest n : ℕ) (found : List X) → IsChunked full last rest → n < length (joined full ++ take rest (entries_of last))
      → slice_get (full ++ option_to_list last) (n / 1024) ≡ Some found → (n % 1024 < length found) × (slice_get (joined full ++ take rest (entries_of last)) n ≡ slice_get found (n % 1024))
  chunk-finds full last rest n found kept lt at =
      let within : n < 1024 * length full + rest = let len = length-chunked full last rest kept in omega arith in
      finds last rest kept.short kept.there full (n / 1024) (n % 1024) n found kept.whole (omega arith) (omega arith) within at

  -- all but the last
  pub take-last : (xs ys : List X) (n : ℕ) → n < length ys → take (length (xs ++ take (n + 1) ys) - 1) (xs ++ take (n + 1) ys) ≡ xs ++ take n ys
  take-last [] ys n lt = first_ones ys n lt
    where
      first_ones : (ys : List X) (n : ℕ) → n < length ys → take (length (take (n + 1) ys) - 1) (take (n + 1) ys) ≡ take n ys
      first_ones ys n lt =
          let len : length (take (n + 1) ys) - 1 ≡ n = omega (arith, length-take (n + 1) ys) in
          rw len (take-take n (n + 1) ys (omega arith))
  take-last (x ∷ xs) ys n lt =
      let some : 0 < length (xs ++ take (n + 1) ys) = omega (arith, length-append xs (take (n + 1) ys), length-take (n + 1) ys) in
      let count : length (x ∷ (xs ++ take (n + 1) ys)) - 1 ≡ suc (length (xs ++ take (n + 1) ys) - 1) = omega arith in
      rw count (ap (λ rest. x ∷ rest) (take-last xs ys n lt))

  -- the list at a place comes behind those before it
  pub take-get : (xs : List X) (i : ℕ) (x : X) → slice_get xs i ≡ Some x → take (i + 1) xs ≡ take i xs ++ x ∷ []
  take-get xs i x at = let more : i + 1 ≡ suc i = omega arith in rw more (by xs i at)
    where
      by : (xs : List X) (i : ℕ) → slice_get xs i ≡ Some x → take (suc i) xs ≡ take i xs ++ x ∷ []
      by [] i at = absurd (cc at)
      by (y ∷ ys) zero at = let same : y ≡ x = cc at in ap (λ z. z ∷ []) same
      by (y ∷ ys) (suc i) at = ap (λ rest. y ∷ rest) (by ys i at)

  -- the same of the values that are kept
  module _ {C : Type 0} (f : C → List X) where
    pub steps-within : (items : List C) (last : Option (List X)) (rest : ℕ) → IsChunked (map f items) last rest
        → length items + rest + 1 ≤ length (joined (map f items) ++ take rest (entries_of last)) / 1024 + 1024
    steps-within items last rest kept =
        let short = kept.short in
        omega (arith, length-chunked (map f items) last rest kept, length-map items f)

    pub pushed-closed : (items more : List C) (chunk : C) (first es : List X) (list : X) → more ≡ items ++ chunk ∷ [] → Some (f chunk) ≡ Some (first ++ list ∷ [])
        → joined (map f more) ++ take 0 es ≡ (joined (map f items) ++ first) ++ list ∷ []
    pushed-closed items more chunk first es list is at =
        let same : f chunk ≡ first ++ list ∷ [] = cc at in
        rw (is, map-append) (joined-closed (map f items) (f chunk) first list es same)

    pub popped : (items : List C) (last : Option (List X)) (rest : ℕ) → (rest ≡ 0 → ⊥) → IsChunked (map f items) last rest
        → IsChunked (map f items) last (rest - 1)
        × (joined (map f items) ++ take (rest - 1) (entries_of last) ≡ take (length (joined (map f items) ++ take rest (entries_of last)) - 1) (joined (map f items) ++ take rest (entries_of last)))
    popped items last rest some kept =
        let there = kept.there in
        let short = kept.short in
        let whole : rest - 1 + 1 ≡ rest = omega arith in (
          record { whole = kept.whole; short = omega arith; there = omega arith },
          sym (subst (λ (k : ℕ). take (length (joined (map f items) ++ take k (entries_of last)) - 1) (joined (map f items) ++ take k (entries_of last)) ≡ joined (map f items) ++ take (rest - 1) (entries_of last)) whole
              (take-last (joined (map f items)) (entries_of last) (rest - 1) (omega arith))),
        )

    pub popped-opened : (items fewer : List C) (last : Option (List X)) (rest : ℕ) (chunk : Option C) → rest ≡ 0 → items ≡ fewer ++ option_to_list chunk → (0 < length items → IsSome chunk)
        → 0 < length (joined (map f items) ++ take rest (entries_of last)) → IsChunked (map f items) last rest
        → IsChunked (map f fewer) (option_map f chunk) 1023
        × (joined (map f fewer) ++ take 1023 (entries_of (option_map f chunk)) ≡ take (length (joined (map f items) ++ take rest (entries_of last)) - 1) (joined (map f items) ++ take rest (entries_of last)))
    popped-opened items fewer last rest None none is variant long kept =
        let some : 0 < length items = omega (arith, length-chunked (map f items) last rest kept, length-map items f) in
        absurd (cc (variant some))
    popped-opened items fewer last rest (Some x) none is variant long kept =
        let split : map f items ≡ map f fewer ++ f x ∷ [] = ap (map f) is ∙ map-append f fewer (x ∷ []) in
        let whole = AreWhole-pop (map f fewer) (f x) (subst AreWhole split kept.whole) in
        let full = whole.1 in
        let all : take 1024 (f x) ≡ f x = take_all 1024 (f x) (omega arith) in
        let view : joined (map f items) ++ take rest (entries_of last) ≡ joined (map f fewer) ++ take 1024 (f x) =
        rw (none, split) (append_nil (joined (map f fewer ++ f x ∷ [])) ∙ joined-push (map f fewer) (f x) ∙ ap (λ c. joined (map f fewer) ++ c) (sym all)) in (
          record { whole = whole.0; short = omega arith; there = omega arith },
          sym (subst (λ (v : List X). take (length v - 1) v ≡ joined (map f fewer) ++ take 1023 (f x)) (sym view) (take-last (joined (map f fewer)) (f x) 1023 (omega arith))),
        )
