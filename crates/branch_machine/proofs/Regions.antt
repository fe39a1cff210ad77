-- The region of a move that makes a commit: the commit's object, and before it that of its value where this is not stored.
use Rattle.std.proofs.Common.{Option, zero, suc, ◌≡◌, ◌⊎◌, inl, inr, ℕ, ◌+◌, ◌<◌, Bool, true, false, cond, List, [], ◌∷◌, ◌++◌, length, refl, sym, ◌∙◌, ap, arith, append-nil, length-append, ⊎_elim, ◌||◌}
use Rattle.std.specs.List.{concat, flat_map, list_any, AllByRecursion}
use Rattle.std.proofs.lemmas.Bool.{cases_Bool}
use Rattle.std.proofs.lemmas.List.Folds.{list_any-append}
use Rattle.branch_wire.specs.Fields.{field}
use Rattle.mrdt_model.specs.Laws.{KeepsLaws}
use Rattle.branch_wire.specs.Objects.{commit_kind, commit_body}
use Rattle.branch_wire.specs.StoredObjects.{Stored, same, fresh}
use Rattle.branch_history.specs.declared.moves.Move.{Move}
use Rattle.branch_history.specs.Commits.{Commit, visible}
use Rattle.branch_machine.specs.Fixed.{Form, FixedIn}
use Rattle.branch_machine.specs.Objects.{Pair, given, both, kept_address, commit_text, store_after, fields_of, pair_at, pairs_after, pairs_of, objects_of, region}
use Rattle.branch_machine.specs.Laws.{HasSize}
use Rattle.branch_machine.specs.Validity.{IsFullyValid}
use Rattle.branch_machine.proofs.Stored.{same-eq}
use Rattle.branch_machine.proofs.Both.{commit-unlike, any-both}
use Rattle.branch_machine.proofs.Pairs.{commit_text-old, commit_text-new, length-pairs_of, pairs_of-one}
use Rattle.branch_machine.proofs.Distinct.{MakesOne, made-objects, no-objects, valid-distinct}

-- what is added is of the list
listed-in : (z : List ℕ) (stored xs : Stored) → list_any (same z) (fresh stored xs) ≡ true → list_any (same z) xs ≡ true
listed-in z stored [] is = cc
listed-in z stored (x ∷ xs) is = at (listed-in z stored xs) (listed-in z (stored ++ x ∷ []) xs) (list_any (same x) stored) is (same z x) refl
  where
    at : (list_any (same z) (fresh stored xs) ≡ true → list_any (same z) xs ≡ true) → (list_any (same z) (fresh (stored ++ x ∷ []) xs) ≡ true → list_any (same z) xs ≡ true)
        → (b : Bool) → list_any (same z) (cond b (fresh stored xs) (x ∷ fresh (stored ++ x ∷ []) xs)) ≡ true → (d : Bool) → same z x ≡ d → (d || list_any (same z) xs) ≡ true
    at kept added b any true e = refl
    at kept added true any false e = kept any
    at kept added false any false e = added (ap (λ c. c || list_any (same z) (fresh (stored ++ x ∷ []) xs)) (sym e) ∙ any)

-- a text is not the object of a commit's value
abbrev pub IsUnlike : List ℕ → Pair → Type 0
IsUnlike z p = same z p.value ≡ false

-- what is stored and no value's object is that of a commit
commit-listed : (z : List ℕ) (pairs : List Pair) → AllByRecursion (IsUnlike z) pairs → list_any (same z) (flat_map both pairs) ≡ true → (j : ℕ) × (j < length pairs) × (commit_text pairs j ≡ z)
commit-listed z [] values is = absurd (cc)
commit-listed z (p ∷ ps) values is = at (λ any. commit-listed z ps values.1 any) (same z p.commit) refl (sym (any-both z p (flat_map both ps) values.0) ∙ is)
  where
    at : (list_any (same z) (flat_map both ps) ≡ true → (j : ℕ) × (j < length ps) × (commit_text ps j ≡ z))
        → (d : Bool) → same z p.commit ≡ d → (d || list_any (same z) (flat_map both ps)) ≡ true → (j : ℕ) × (j < length (p ∷ ps)) × (commit_text (p ∷ ps) j ≡ z)
    at rest true f any = (zero, omega arith, sym (same-eq z p.commit f))
    at rest false f any = let more = rest any in (suc more.0, (let lt = more.1 in omega arith), more.2)

all-append : {X : Type 0} (P : X → Type 0) (xs : List X) (x : X) → AllByRecursion P xs → P x → AllByRecursion P (xs ++ x ∷ [])
all-append P [] x all is = (is, tt)
all-append P (y ∷ ys) x all is = (all.0, all-append P ys x all.1 is)

-- of two objects, of which the second is neither stored nor the first
fresh-second : (stored : Stored) (v c : List ℕ) → list_any (same c) stored ≡ false → same c v ≡ false → (concat (fresh stored (v ∷ c ∷ [])) ≡ c) ⊎ (concat (fresh stored (v ∷ c ∷ [])) ≡ v ++ c)
fresh-second stored v c new other = at (list_any (same v) stored)
  where
    behind : list_any (same c) (stored ++ v ∷ []) ≡ false
    behind = list_any-append (same c) stored (v ∷ []) ∙ ap (λ b. b || (same c v || false)) new ∙ ap (λ b. b || false) other

    at : (b : Bool) → (concat (cond b (fresh stored (c ∷ [])) (v ∷ fresh (stored ++ v ∷ []) (c ∷ []))) ≡ c) ⊎ (concat (cond b (fresh stored (c ∷ [])) (v ∷ fresh (stored ++ v ∷ []) (c ∷ []))) ≡ v ++ c)
    at true = inl (ap (λ b. concat (cond b [] (c ∷ []))) new ∙ append-nil c)
    at false = inr (ap (λ b. v ++ concat (cond b [] (c ∷ []))) behind ∙ ap (λ (l : List ℕ). v ++ l) (append-nil c))

-- the same of a commit's objects
fresh-both : (stored : Stored) (v c : List ℕ) → list_any (same c) stored ≡ false → same c v ≡ false → (concat (fresh stored (given v ++ c ∷ [])) ≡ c) ⊎ (concat (fresh stored (given v ++ c ∷ [])) ≡ v ++ c)
fresh-both stored [] c new other = inl (ap (λ b. concat (cond b [] (c ∷ []))) new ∙ append-nil c)
fresh-both stored (b ∷ bs) c new other = fresh-second stored (b ∷ bs) c new other

module _ {S O R Q A : Type 0} {form : Form} (fixed : FixedIn form S O R Q A) where
  module _ (a : Option (List ℕ)) (t : List ℕ) where
    values-after : (before : List (Commit O R)) (pairs : List Pair) (cs : List (Commit O R)) → AllByRecursion (IsUnlike (commit_kind a ∷ t)) pairs → AllByRecursion (IsUnlike (commit_kind a ∷ t)) (pairs_after fixed before pairs cs)
    values-after before pairs [] all = all
    values-after before pairs (c ∷ cs) all =
        values-after (before ++ c ∷ []) (pairs ++ pair_at fixed before pairs c ∷ []) cs
        (all-append (IsUnlike (commit_kind a ∷ t)) pairs (pair_at fixed before pairs c) all (commit-unlike fixed.terms.layout a (fixed.meaning.spelling_of (visible (before ++ c ∷ []) (length before))) t))

    values : (commits : List (Commit O R)) → AllByRecursion (IsUnlike (commit_kind a ∷ t)) (pairs_of fixed commits)
    unfolding pairs_of
    values commits = values-after [] [] commits tt

  listed-pairs : (z : List ℕ) (moves : List (Move O R)) → list_any (same z) (objects_of fixed moves) ≡ true → list_any (same z) (flat_map both (pairs_of fixed (store_after fixed moves).commits)) ≡ true
  unfolding objects_of
  listed-pairs z moves is = listed-in z [] (flat_map both (pairs_of fixed (store_after fixed moves).commits)) is

  module _ (laws : KeepsLaws fixed.meaning) (size : HasSize fixed.address) (moves : List (Move O R)) (m : Move O R) (valid : IsFullyValid fixed (moves ++ m ∷ [])) where
    abbrev old : List (Commit O R)
    old = (store_after fixed moves).commits

    module _ (one : MakesOne fixed (store_after fixed moves) (store_after fixed (moves ++ m ∷ []))) where
      abbrev pub made : Pair
      made = pair_at fixed old (pairs_of fixed old) one.made

      grown : pairs_of fixed (store_after fixed (moves ++ m ∷ [])).commits ≡ pairs_of fixed old ++ made ∷ []
      grown = ap (pairs_of fixed) one.commits ∙ pairs_of-one fixed old one.made

      -- the new commit's object is not stored
      unlisted : list_any (same made.commit) (objects_of fixed moves) ≡ false
      unlisted = ⊎_elim (λ is. absurd (clash is)) (λ none. none) (cases_Bool (list_any (same made.commit) (objects_of fixed moves)))
        where
          address : Option (List ℕ)
          address = kept_address fixed.terms.layout (fixed.address made.value)

          body : List ℕ
          body = field (commit_body (fields_of fixed (pairs_of fixed old) made.value one.made))

          clash : list_any (same made.commit) (objects_of fixed moves) ≡ true → ⊥
          clash is =
              let found = commit-listed made.commit (pairs_of fixed old) (values address body old) (listed-pairs made.commit moves is) in
              let many = length-pairs_of fixed old in
              let lt : found.0 < length old = let within = found.1 in omega (arith, many) in
              let count : length (store_after fixed (moves ++ m ∷ [])).commits ≡ length old + 1 = ap length one.commits ∙ length-append old (one.made ∷ []) in
              let first : commit_text (pairs_of fixed (store_after fixed (moves ++ m ∷ [])).commits) found.0 ≡ made.commit =
              ap (λ (ps : List Pair). commit_text ps found.0) grown ∙ commit_text-old (pairs_of fixed old) (made ∷ []) found.0 found.1 ∙ found.2 in
              let second : commit_text (pairs_of fixed (store_after fixed (moves ++ m ∷ [])).commits) (length old) ≡ made.commit =
              ap (λ (ps : List Pair). commit_text ps (length old)) grown ∙ ap (commit_text (pairs_of fixed old ++ made ∷ [])) (sym many) ∙ commit_text-new (pairs_of fixed old) made in
              let alike : found.0 ≡ length old = valid-distinct fixed laws size (moves ++ m ∷ []) valid found.0 (length old) (omega (arith, count, lt)) (omega (arith, count)) (first ∙ sym second) in
              omega (arith, lt, alike)

      -- the region is the new commit's object, or its value's and that
      pub region-one : (region fixed moves m ≡ made.commit) ⊎ (region fixed moves m ≡ made.value ++ made.commit)
      region-one =
          let whole = ap (λ (xs : Stored). concat (fresh (objects_of fixed moves) xs)) (made-objects fixed moves m one) in
          ⊎_elim (λ is. inl (whole ∙ is)) (λ is. inr (whole ∙ is)) (fresh-both (objects_of fixed moves) made.value made.commit unlisted (commit-unlike fixed.terms.layout (kept_address fixed.terms.layout (fixed.address made.value)) (fixed.meaning.spelling_of (visible (old ++ one.made ∷ []) (length old))) (field (commit_body (fields_of fixed (pairs_of fixed old) made.value one.made)))))

    pub region-none : (store_after fixed (moves ++ m ∷ [])).commits ≡ old → region fixed moves m ≡ []
    region-none unmoved = ap (λ (xs : Stored). concat (fresh (objects_of fixed moves) xs)) (no-objects fixed moves m unmoved)
