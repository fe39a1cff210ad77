-- Objects that are copied one behind the other, each once.
use Rattle.std.proofs.Common.{◌≡◌, ℕ, ◌+◌, ◌<◌, Bool, true, false, cond, Option, Some, None, slice_get, List, [], ◌∷◌, ◌++◌, length, map, take, zero, suc, get_or, refl, sym, ◌∙◌, ap, arith, append_assoc, append-nil}
use Rattle.std.specs.List.{list_any, flat_map, concat}
use Rattle.std.specs.Option.{option_map_or}
use Rattle.std.proofs.lemmas.List.{length-take}
use Rattle.std.proofs.lemmas.List.Concat.{flat_map-append}
use Rattle.branch_machine.specs.Objects.{Pair, both, commit_text, value_text}
use Rattle.branch_machine.proofs.Stored.{fresh-append}
use Rattle.branch_wire.specs.StoredObjects.{Stored, file_of, fresh, same}
use Rattle.object_store.proofs.Written.{file-both}
use Rattle.branch_compact.specs.Compact.{at_places}
use Rattle.store_compact.specs.declared.copying.Placed.{Placed}
use Rattle.store_compact.specs.Copied.{added, kept_unless, listed, objects_in, pair_of, placed_after, placed_of, unless_known, value_address, values_in}

-- what is told of an address goes in where it is not known
pub insert-known : (a : List ℕ) (known new : List (List ℕ)) → new ≡ cond (list_any (same a) known) known (known ++ a ∷ []) → new ≡ known ++ fresh known (a ∷ [])
insert-known a known new is = is ∙ at (list_any (same a) known)
  where
    at : (b : Bool) → cond b known (known ++ a ∷ []) ≡ known ++ cond b [] (a ∷ [])
    at true = sym (append-nil known)
    at false = refl

pub copied-new : (a x : List ℕ) (known : List (List ℕ)) → list_any (same a) known ≡ false → concat (unless_known known a x) ≡ x
copied-new a x known is = ap (λ (b : Bool). concat (cond b [] (x ∷ []))) is ∙ append-nil x

pub copied-known : (a x : List ℕ) (known : List (List ℕ)) → list_any (same a) known ≡ true → concat (unless_known known a x) ≡ []
copied-known a x known is = ap (λ (b : Bool). concat (cond b [] (x ∷ []))) is

abbrev value_listed : (List ℕ → List ℕ) → Pair → List (List ℕ)
value_listed address q = listed (value_address address q.value)

-- the addresses of values with one more
pub values-more : (address : List ℕ → List ℕ) (pairs : List Pair) (p : Pair) → values_in address (pairs ++ p ∷ []) ≡ values_in address pairs ++ fresh (values_in address pairs) (listed (value_address address p.value))
values-more address pairs p =
    ap (fresh []) (flat_map-append (value_listed address) pairs (p ∷ [])) ∙ fresh-append [] (flat_map (value_listed address) pairs) (flat_map (value_listed address) (p ∷ []))
    ∙ ap (λ (l : List (List ℕ)). values_in address pairs ++ fresh (values_in address pairs) l) (append-nil (value_listed address p))

-- the objects with one more
pub objects-more : (pairs : List Pair) (p : Pair) → objects_in (pairs ++ p ∷ []) ≡ objects_in pairs ++ fresh (objects_in pairs) (both p)
objects-more pairs p =
    ap (fresh []) (flat_map-append both pairs (p ∷ [])) ∙ fresh-append [] (flat_map both pairs) (flat_map both (p ∷ []))
    ∙ ap (λ (l : Stored). objects_in pairs ++ fresh (objects_in pairs) l) (append-nil (both p))

placed_after-more : (address : List ℕ → List ℕ) (before pairs : List Pair) (p : Pair)
    → placed_after address before (pairs ++ p ∷ []) ≡ placed_after address before pairs ++ record { address = address p.commit; end = length (file_of (objects_in ((before ++ pairs) ++ p ∷ []))) } ∷ []
placed_after-more address before [] p = ap (λ (l : List Pair). record { address = address p.commit; end = length (file_of (objects_in (l ++ p ∷ []))) } ∷ []) (sym (append-nil before))
placed_after-more address before (q ∷ pairs) p =
    ap (λ (l : List Placed). record { address = address q.commit; end = length (file_of (objects_in (before ++ q ∷ []))) } ∷ l)
    (placed_after-more address (before ++ q ∷ []) pairs p
    ∙ ap (λ (l : List Pair). placed_after address (before ++ q ∷ []) pairs ++ record { address = address p.commit; end = length (file_of (objects_in (l ++ p ∷ []))) } ∷ []) (append_assoc before (q ∷ []) pairs))

pub placed-more : (address : List ℕ → List ℕ) (pairs : List Pair) (p : Pair)
    → placed_of address (pairs ++ p ∷ []) ≡ placed_of address pairs ++ record { address = address p.commit; end = length (file_of (objects_in (pairs ++ p ∷ []))) } ∷ []
placed-more address pairs p = placed_after-more address [] pairs p

-- where one of them stands
placed_after-at : (address : List ℕ → List ℕ) (before pairs : List Pair) (k : ℕ) (d : Placed) → k < length pairs
    → get_or (placed_after address before pairs) k d ≡ record { address = address (commit_text pairs k); end = length (file_of (objects_in (before ++ take (suc k) pairs))) }
placed_after-at address before [] k d lt = absurd (omega (arith, lt))
placed_after-at address before (p ∷ ps) zero d lt = refl
placed_after-at address before (p ∷ ps) (suc k) d lt =
    placed_after-at address (before ++ p ∷ []) ps k d (omega (arith, lt))
    ∙ ap (λ (l : List Pair). record { address = address (commit_text ps k); end = length (file_of (objects_in l)) }) (append_assoc before (p ∷ []) (take (suc k) ps))

pub placed-at : (address : List ℕ → List ℕ) (pairs : List Pair) (k : ℕ) (d : Placed) → k < length pairs
    → get_or (placed_of address pairs) k d ≡ record { address = address (commit_text pairs k); end = length (file_of (objects_in (take (suc k) pairs))) }
placed-at address pairs k d lt = placed_after-at address [] pairs k d lt

pub length-placed : (address : List ℕ → List ℕ) (before pairs : List Pair) → length (placed_after address before pairs) ≡ length pairs
length-placed address before [] = refl
length-placed address before (p ∷ ps) = ap suc (length-placed address (before ++ p ∷ []) ps)

-- those at the places that are kept, with one more
pub at_places-more : {X : Type 0} (keep : ℕ → Bool) (n : ℕ) (xs : List X) (x : X) → at_places keep n (xs ++ x ∷ []) ≡ at_places keep n xs ++ cond (keep (n + length xs)) (x ∷ []) []
at_places-more {X} keep n [] x = let at : n ≡ n + 0 = omega arith in ap (λ (k : ℕ). cond (keep k) (x ∷ []) []) at
at_places-more {X} keep n (y ∷ ys) x =
    let at : suc n + length ys ≡ n + length (y ∷ ys) = omega arith in
    either (keep n) (at_places-more keep (suc n) ys x) ∙ ap (λ (k : ℕ). at_places keep n (y ∷ ys) ++ cond (keep k) (x ∷ []) []) at
  where
    either : (b : Bool) → at_places keep (suc n) (ys ++ x ∷ []) ≡ at_places keep (suc n) ys ++ cond (keep (suc n + length ys)) (x ∷ []) []
        → cond b (y ∷ at_places keep (suc n) (ys ++ x ∷ [])) (at_places keep (suc n) (ys ++ x ∷ [])) ≡ cond b (y ∷ at_places keep (suc n) ys) (at_places keep (suc n) ys) ++ cond (keep (suc n + length ys)) (x ∷ []) []
    either true rest = ap (λ (l : List X). y ∷ l) rest
    either false rest = rest

-- the objects of the next commit
take-pair : (pairs : List Pair) (k : ℕ) → k < length pairs → take (suc k) pairs ≡ take k pairs ++ pair_of pairs k ∷ []
take-pair [] k lt = absurd (omega (arith, lt))
take-pair (p ∷ ps) zero lt = refl
take-pair (p ∷ ps) (suc k) lt = ap (λ (l : List Pair). p ∷ l) (take-pair ps k (omega (arith, lt)))

module _ (keep : ℕ → Bool) (pairs : List Pair) (k : ℕ) (lt : k < length pairs) where
  abbrev pub kept_to : ℕ → List Pair
  kept_to n = at_places keep 0 (take n pairs)

  abbrev next : Pair
  next = pair_of pairs k

  with-next : kept_to (k + 1) ≡ kept_to k ++ cond (keep k) (next ∷ []) []
  with-next =
      let one : k + 1 ≡ suc k = omega arith in
      let count : 0 + length (take k pairs) ≡ k = omega (arith, length-take k pairs, lt) in
      ap kept_to one ∙ ap (at_places keep 0) (take-pair pairs k lt) ∙ at_places-more keep 0 (take k pairs) next
      ∙ ap (λ (n : ℕ). kept_to k ++ cond (keep n) (next ∷ []) []) count

  next-kept : keep k ≡ true → kept_to (k + 1) ≡ kept_to k ++ next ∷ []
  next-kept is = with-next ∙ ap (λ (b : Bool). kept_to k ++ cond b (next ∷ []) []) is

  pub next-gone : keep k ≡ false → kept_to (k + 1) ≡ kept_to k
  next-gone is = with-next ∙ ap (λ (b : Bool). kept_to k ++ cond b (next ∷ []) []) is ∙ append-nil (kept_to k)

  module _ (is : keep k ≡ true) (address : List ℕ → List ℕ) (known : List (List ℕ)) (was : known ≡ values_in address (kept_to k)) where
    pub known-next : (new : List (List ℕ)) → new ≡ known ++ fresh known (listed (value_address address (value_text pairs k))) → new ≡ values_in address (kept_to (k + 1))
    known-next new grown =
        grown ∙ ap (λ (l : List (List ℕ)). l ++ fresh l (listed (value_address address (value_text pairs k)))) was ∙ sym (values-more address (kept_to k) next)
        ∙ sym (ap (values_in address) (next-kept is))

    module _ (adds : fresh (objects_in (kept_to k)) (both next) ≡ added address (values_in address (kept_to k)) next) (text longer : List ℕ) (stood : text ≡ file_of (objects_in (kept_to k)))
        (copied : longer ≡ text ++ concat (added address known next)) where
      pub whole-next : longer ≡ file_of (objects_in (kept_to (k + 1)))
      whole-next =
          copied ∙ ap (λ (l : List ℕ). l ++ concat (added address known next)) stood
          ∙ ap (λ (l : Stored). file_of (objects_in (kept_to k)) ++ concat l) (ap (λ (l : List (List ℕ)). added address l next) was ∙ sym adds)
          ∙ sym (file-both (objects_in (kept_to k)) (fresh (objects_in (kept_to k)) (both next)))
          ∙ sym (ap file_of (objects-more (kept_to k) next)) ∙ sym (ap (λ (ps : List Pair). file_of (objects_in ps)) (next-kept is))

      pub placed-next : (before after : List Placed) → before ≡ placed_of address (kept_to k)
          → after ≡ before ++ record { address = address (commit_text pairs k); end = length longer } ∷ [] → after ≡ placed_of address (kept_to (k + 1))
      placed-next before after first stands =
          stands ∙ ap (λ (l : List Placed). l ++ record { address = address (commit_text pairs k); end = length longer } ∷ []) first
          ∙ ap (λ (l : List ℕ). placed_of address (kept_to k) ++ record { address = address (commit_text pairs k); end = length l } ∷ [])
          (whole-next ∙ ap (λ (ps : List Pair). file_of (objects_in ps)) (next-kept is))
          ∙ sym (placed-more address (kept_to k) next) ∙ sym (ap (placed_of address) (next-kept is))

-- the objects that were found
pub value-found : (pairs : List Pair) (k : ℕ) (p : Pair) → Some p ≡ slice_get pairs k → p.value ≡ value_text pairs k
value-found pairs k p is = ap (λ o. option_map_or (λ q. q.value) o []) is

pub commit-found : (pairs : List Pair) (k : ℕ) (p : Pair) → Some p ≡ slice_get pairs k → p.commit ≡ commit_text pairs k
commit-found pairs k p is = ap (λ o. option_map_or (λ q. q.commit) o []) is

-- the object of a commit behind that of its value, where there is one
added-both : (known : List (List ℕ)) (a : Option (List ℕ)) (value commit first second third : List ℕ) → second ≡ first ++ concat (kept_unless known a value) → third ≡ second ++ commit
    → third ≡ first ++ concat (kept_unless known a value ++ commit ∷ [])
added-both known None value commit first second third one two =
    two ∙ ap (λ (l : List ℕ). l ++ commit) one ∙ append_assoc first [] commit ∙ ap (λ (l : List ℕ). first ++ l) (sym (append-nil commit))
added-both known (Some a) value commit first second third one two =
    two ∙ ap (λ (l : List ℕ). l ++ commit) one ∙ at (list_any (same a) known)
  where
    at : (b : Bool) → (first ++ concat (cond b [] (value ∷ []))) ++ commit ≡ first ++ concat (cond b [] (value ∷ []) ++ commit ∷ [])
    at true = append_assoc first [] commit ∙ ap (λ (l : List ℕ). first ++ l) (sym (append-nil commit))
    at false =
        append_assoc first (value ++ []) commit ∙ ap (λ (l : List ℕ). first ++ (l ++ commit)) (append-nil value)
        ∙ ap (λ (l : List ℕ). first ++ (value ++ l)) (sym (append-nil commit))

pub added-same : (address : List ℕ → List ℕ) (known : List (List ℕ)) (a : Option (List ℕ)) (value commit : List ℕ) (p : Pair) → a ≡ value_address address p.value → value ≡ p.value → commit ≡ p.commit → (first second third : List ℕ)
    → second ≡ first ++ concat (kept_unless known a value) → third ≡ second ++ commit → third ≡ first ++ concat (added address known p)
added-same address known a value commit p is one two first second third behind last =
    added-both known a value commit first second third behind last
    ∙ ap (λ (b : Option (List ℕ)). first ++ concat (kept_unless known b value ++ commit ∷ [])) is
    ∙ ap (λ (v : List ℕ). first ++ concat (kept_unless known (value_address address p.value) v ++ commit ∷ [])) one
    ∙ ap (λ (c : List ℕ). first ++ concat (kept_unless known (value_address address p.value) p.value ++ c ∷ [])) two

-- what is there is found
pub not-none : {X : Type 0} (xs : List X) (k : ℕ) → k < length xs → None ≡ slice_get xs k → ⊥
not-none [] k lt is = omega (arith, lt)
not-none (x ∷ xs) zero lt is = cc
not-none (x ∷ xs) (suc k) lt is = not-none xs k (omega (arith, lt)) is

pub address-at : (address : List ℕ → List ℕ) (pairs : List Pair) (k : ℕ) (a : List ℕ) → Some a ≡ slice_get (map (λ (p : Pair). address p.commit) pairs) k → a ≡ address (commit_text pairs k)
address-at address [] k a is = absurd (cc)
address-at address (p ∷ ps) zero a is = let same : a ≡ address p.commit = cc in same
address-at address (p ∷ ps) (suc k) a is = address-at address ps k a is

pub placed-same : (a b : List ℕ) (e f : ℕ) (before after : List Placed) → after ≡ before ++ record { address = a; end = e } ∷ [] → a ≡ b → e ≡ f → after ≡ before ++ record { address = b; end = f } ∷ []
placed-same a b e f before after is one two =
    is ∙ ap (λ (l : List ℕ). before ++ record { address = l; end = e } ∷ []) one ∙ ap (λ (n : ℕ). before ++ record { address = b; end = n } ∷ []) two
