-- Which commit has the two objects of an item.
use Rattle.std.proofs.Common.{zero, suc, ◌≡◌, ℕ, ◌+◌, ◌<◌, List, [], ◌∷◌, length, map, refl, ap, sym, ◌∙◌, arith, subst, Option, Some, None}
use Rattle.std.specs.Prelude.{slice_get}
use Rattle.std.specs.Option.{option_map, option_map_or}
use Rattle.std.specs.Str.{bytes_eq}
use Rattle.std.proofs.lemmas.Bool.{both_ways}
use Rattle.std.proofs.lemmas.List.{length-map}
use Rattle.std.proofs.lemmas.Slice.Eq.{bytes_eq-Decides}
use Rattle.mrdt_model.specs.Laws.{KeepsLaws}
use Rattle.branch_history.specs.declared.moves.Move.{Move}
use Rattle.branch_history.specs.History.{Store}
use Rattle.branch_history.proofs.Lists.{position-found, position-within, position-none}
use Rattle.branch_machine.specs.Fixed.{Fixed}
use Rattle.branch_machine.specs.Objects.{Pair, commit_text, value_text, pairs_of, store_after}
use Rattle.branch_machine.specs.Machine.{commit_with, commit_at}
use Rattle.branch_machine.specs.Laws.{HasSize}
use Rattle.branch_machine.specs.Validity.{IsFullyValid}
use Rattle.branch_machine.proofs.Distinct.{none-with, valid-sound}
use Rattle.branch_machine.proofs.Items.{at-found}
use Rattle.branch_machine.proofs.Pairs.{length-pairs_of}
use Rattle.recorded_history.specs.Machine.{addresses_of, commit_of_address}

-- a pair that is there, by its two objects
text-of : (pairs : List Pair) (n : ℕ) → n < length pairs → slice_get pairs n ≡ Some (record { value = value_text pairs n; commit = commit_text pairs n })
text-of [] n lt = absurd (omega arith)
text-of (p ∷ ps) zero lt = refl
text-of (p ∷ ps) (suc n) lt = text-of ps n (omega arith)

-- what is in both
some-same : {X : Type 0} (x y : X) → Some x ≡ Some y → x ≡ y
some-same x y is = cc is

-- the address of a pair's commit
mapped : (f : Pair → List ℕ) (pairs : List Pair) (n : ℕ) → slice_get (map f pairs) n ≡ option_map f (slice_get pairs n)
mapped f [] n = refl
mapped f (p ∷ ps) zero = refl
mapped f (p ∷ ps) (suc n) = mapped f ps n

module _ {S O R Q A : Type 0} (fixed : Fixed S O R Q A) (history : List (Move O R)) where
  abbrev s : Store O R
  s = store_after fixed history

  abbrev pairs : List Pair
  pairs = pairs_of fixed s.commits

  abbrev addresses : List (List ℕ)
  addresses = addresses_of fixed history

  address-at : (n : ℕ) → n < length pairs → slice_get addresses n ≡ Some (fixed.address (commit_text pairs n))
  address-at n lt = mapped (λ p. fixed.address p.commit) pairs n ∙ ap (option_map (λ p. fixed.address p.commit)) (text-of pairs n lt)

  -- the commit with an address, if one is found
  pub found-address : (wanted : List ℕ) (n : ℕ) → commit_of_address fixed history wanted ≡ Some n → (n < length pairs) × (fixed.address (commit_text pairs n) ≡ wanted)
  found-address wanted n is =
      let zero_n : n ≡ 0 + n = omega arith in
      let within = (position-within (bytes_eq wanted) 0 n addresses is).1 in
      let found = position-found (bytes_eq wanted) 0 n n addresses is zero_n in
      let there : n < length pairs = omega (arith, within, length-map pairs (λ p. fixed.address p.commit)) in
      let both : Some (fixed.address (commit_text pairs n)) ≡ Some found.0 = sym (address-at n there) ∙ found.1 in
      let same : fixed.address (commit_text pairs n) ≡ found.0 = cc both in
      (there, same ∙ sym ((bytes_eq-Decides wanted found.0).0 found.2))

  -- a commit that is there has its address
  pub missing-address : (wanted : List ℕ) (n : ℕ) → n < length pairs → fixed.address (commit_text pairs n) ≡ wanted → commit_of_address fixed history wanted ≡ None → ⊥
  missing-address wanted n lt is none = both_ways (bytes_eq wanted wanted) (position-none (bytes_eq wanted) 0 addresses n wanted none (address-at n lt ∙ ap Some is)) ((bytes_eq-Decides wanted wanted).1 refl)

module _ {S O R Q A : Type 0} (fixed : Fixed S O R Q A) (laws : KeepsLaws fixed.meaning) (size : HasSize fixed.address) (history : List (Move O R)) (valid : IsFullyValid fixed history) (item : Pair) where
  abbrev own : Store O R
  own = store_after fixed history

  abbrev all : List Pair
  all = pairs_of fixed own.commits

  abbrev wanted : List ℕ
  wanted = fixed.address item.commit

  -- commits of one address are the same
  one-commit : (j k : ℕ) → j < length all → k < length all → fixed.address (commit_text all j) ≡ fixed.address (commit_text all k) → j ≡ k
  one-commit j k in_j in_k same =
      let sound = valid-sound fixed laws size history valid in
      let count = length-pairs_of fixed own.commits in
      let at_j : j < length own.commits = omega (arith, count) in
      let at_k : k < length own.commits = omega (arith, count) in
      sound.distinct j k at_j at_k (sound.one j k at_j at_k same)

  -- no commit has the address of the item's
  pub here-none : commit_of_address fixed history wanted ≡ None → commit_at fixed history item ≡ None
  here-none none = at (commit_at fixed history item) refl
    where
      at : (o : Option ℕ) → commit_at fixed history item ≡ o → o ≡ None
      at None is = refl
      at (Some n) is =
          let found = at-found fixed history item n is in
          absurd (missing-address fixed history wanted n found.0 (ap fixed.address found.2) none)

  module _ (n : ℕ) (is : commit_of_address fixed history wanted ≡ Some n) where
    -- the commit of that address is there
    pub here-there : n < length all
    here-there = (found-address fixed history wanted n is).0

    -- so it has objects
    pub here-missing : None ≡ slice_get all n → ⊥
    here-missing none = let e : ◌≡◌ {A = Option Pair} None (Some (record { value = value_text all n; commit = commit_text all n })) = none ∙ text-of all n (found-address fixed history wanted n is).0 in cc e

    -- it has both objects
    pub here-is : (p : Pair) → Some p ≡ slice_get all n → p.value ≡ item.value → p.commit ≡ item.commit → commit_at fixed history item ≡ Some n
    unfolding commit_at
    here-is p got values commits = at (commit_at fixed history item) refl
      where
        texts : Some p ≡ Some (let q : Pair = record { value = value_text all n; commit = commit_text all n } in q)
        texts = got ∙ text-of all n (found-address fixed history wanted n is).0

        value-is : value_text all n ≡ item.value
        value-is = sym (ap (λ (q : Pair). q.value) (some-same p (record { value = value_text all n; commit = commit_text all n }) texts)) ∙ values

        commit-is : commit_text all n ≡ item.commit
        commit-is = sym (ap (λ (q : Pair). q.commit) (some-same p (record { value = value_text all n; commit = commit_text all n }) texts)) ∙ commits

        at : (o : Option ℕ) → commit_at fixed history item ≡ o → o ≡ Some n
        at None none = absurd (none-with all item n none (found-address fixed history wanted n is).0 value-is commit-is)
        at (Some k) some =
            let found = at-found fixed history item k some in
            ap Some (one-commit k n found.0 (found-address fixed history wanted n is).0 (ap fixed.address (found.2 ∙ sym commit-is)))

    -- it has others
    pub here-other : (p : Pair) → Some p ≡ slice_get all n → (p.value ≡ item.value → p.commit ≡ item.commit → ⊥) → commit_at fixed history item ≡ None
    here-other p got differs = at (commit_at fixed history item) refl
      where
        texts : Some p ≡ Some (let q : Pair = record { value = value_text all n; commit = commit_text all n } in q)
        texts = got ∙ text-of all n (found-address fixed history wanted n is).0

        at : (o : Option ℕ) → commit_at fixed history item ≡ o → o ≡ None
        at None none = refl
        at (Some k) some =
            let found = at-found fixed history item k some in
            let same : k ≡ n = one-commit k n found.0 (found-address fixed history wanted n is).0 (ap fixed.address found.2 ∙ sym (found-address fixed history wanted n is).1) in
            let v = ap (λ (q : Pair). q.value) (some-same p (record { value = value_text all n; commit = commit_text all n }) texts) in
            let t = ap (λ (q : Pair). q.commit) (some-same p (record { value = value_text all n; commit = commit_text all n }) texts) in
            absurd (differs (v ∙ ap (value_text all) (sym same) ∙ found.1) (t ∙ ap (commit_text all) (sym same) ∙ found.2))
