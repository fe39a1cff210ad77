-- The objects of a commit, but of the first one, are told from all other stored objects by their addresses, that of its value where the layout keeps it.
use Rattle.std.proofs.Common.{zero, suc, ◌≡◌, ◌⊎◌, inl, inr, ℕ, ◌+◌, ◌<◌, ◌≤◌, Bool, true, false, cond, ◌||◌, List, [], ◌∷◌, ◌++◌, length, refl, sym, ◌∙◌, ap, arith, subst, append-nil, append_assoc, length-append, Some, None, ⊎_elim}
use Rattle.std.specs.List.{list_any, find}
use Rattle.std.proofs.lemmas.Bool.{or_left, or_right, cases_lt}
use Rattle.std.proofs.lemmas.List.Folds.{list_any-append}
use Rattle.mrdt_model.specs.Laws.{KeepsLaws}
use Rattle.branch_names.specs.declared.layout.Layout.{Layout}
use Rattle.branch_names.specs.declared.layout.Layout.TheVariants.{Whole, Changes}
use Rattle.branch_wire.specs.Objects.{value_object}
use Rattle.branch_wire.specs.StoredObjects.{Stored, same, has_address, first_with, clash, collision, fresh}
use Rattle.branch_history.specs.declared.moves.Move.{Move}
use Rattle.branch_history.specs.Commits.{Commit, visible}
use Rattle.branch_history.specs.History.{Store, store_of}
use Rattle.branch_history.proofs.Histories.{valid-kept}
use Rattle.branch_history.proofs.Valid.{IsAccepted-from}
use Rattle.branch_machine.specs.Fixed.{Fixed}
use Rattle.branch_machine.specs.Objects.{Pair, given, both, kept_value, commit_text, value_text, pair_at, pairs_of, store_after, objects_of}
use Rattle.branch_machine.specs.Laws.{HasSize}
use Rattle.branch_machine.specs.Validity.{IsFullMove, IsFullyValid}
use Rattle.branch_machine.proofs.Stored.{same-eq, same-refl, listed-before, clash-none}
use Rattle.branch_machine.proofs.Both.{IsListedValue, collision-first, collision-own}
use Rattle.branch_machine.proofs.Valid.{by_moves, full_move-is, valid-before}
use Rattle.branch_machine.proofs.Pairs.{commit_text-old, commit_text-new, value_text-old, value_text-new, length-pairs_of, pairs_of-one, objects-more}
use Rattle.branch_machine.proofs.Distinct.{MakesOne, one-or-none, made-objects, no-objects, no-collision, valid-sound}

-- what is listed in two parts is listed in one of them
listed-parts : (z : List ℕ) (front back : Stored) → list_any (same z) (front ++ back) ≡ true → (list_any (same z) front ≡ true) ⊎ (list_any (same z) back ≡ true)
listed-parts z front back is = at (list_any (same z) front) (list_any (same z) back) (sym (list_any-append (same z) front back) ∙ is)
  where
    at : (a b : Bool) → (a || b) ≡ true → (a ≡ true) ⊎ (b ≡ true)
    at true b e = inl refl
    at false b e = inr e

listed-one : (z x : List ℕ) → list_any (same z) (x ∷ []) ≡ true → z ≡ x
listed-one z x is = at (same z x) refl is
  where
    at : (b : Bool) → same z x ≡ b → (b || false) ≡ true → z ≡ x
    at true e any = same-eq z x e
    at false e any = cc

-- what objects add is of them
fresh-within : (z : List ℕ) (stored xs : Stored) → list_any (same z) (fresh stored xs) ≡ true → list_any (same z) xs ≡ true
fresh-within z stored [] is = is
fresh-within z stored (x ∷ xs) is = at (fresh-within z stored xs) (fresh-within z (stored ++ x ∷ []) xs) (list_any (same x) stored) (same z x) (sym (pushed (list_any (same x) stored)) ∙ is)
  where
    pushed : (b : Bool) → list_any (same z) (cond b (fresh stored xs) (x ∷ fresh (stored ++ x ∷ []) xs)) ≡ cond b (list_any (same z) (fresh stored xs)) (same z x || list_any (same z) (fresh (stored ++ x ∷ []) xs))
    pushed true = refl
    pushed false = refl

    at : (list_any (same z) (fresh stored xs) ≡ true → list_any (same z) xs ≡ true)
        → (list_any (same z) (fresh (stored ++ x ∷ []) xs) ≡ true → list_any (same z) xs ≡ true)
        → (b d : Bool) → cond b (list_any (same z) (fresh stored xs)) (d || list_any (same z) (fresh (stored ++ x ∷ []) xs)) ≡ true → (d || list_any (same z) xs) ≡ true
    at kept added true d any = or_right d (list_any (same z) xs) (kept any)
    at kept added false true any = refl
    at kept added false false any = added any

-- with them all are listed that are with what they add
listed-within : (z : List ℕ) (stored xs : Stored) → list_any (same z) (stored ++ fresh stored xs) ≡ true → list_any (same z) (stored ++ xs) ≡ true
listed-within z stored xs is =
    ⊎_elim
    (λ old. listed-before z stored xs old)
    (λ new. list_any-append (same z) stored xs ∙ or_right (list_any (same z) stored) (list_any (same z) xs) (fresh-within z stored xs new))
    (listed-parts z stored (fresh stored xs) is)

module _ (address : List ℕ → List ℕ) where
  -- no other object has the address of this one
  abbrev pub IsAlone : Stored → List ℕ → Type 0
  IsAlone stored x = (y : List ℕ) → list_any (same y) stored ≡ true → address y ≡ address x → y ≡ x

  alone-more : (x z : List ℕ) (stored : Stored) → list_any (same x) stored ≡ true → IsAlone stored x → clash address z stored ≡ None → IsAlone (stored ++ z ∷ []) x
  alone-more x z stored there alone none y any is =
      ⊎_elim
      (λ old. alone y old is)
      (λ new. let e : y ≡ z = listed-one y z new in e ∙ sym (clash-none address z x stored none there (sym is ∙ ap address e)))
      (listed-parts y stored (z ∷ []) any)

  alone-new : (z : List ℕ) (stored : Stored) → clash address z stored ≡ None → IsAlone (stored ++ z ∷ []) z
  alone-new z stored none y any is = ⊎_elim (λ old. clash-none address z y stored none old is) (λ new. listed-one y z new) (listed-parts y stored (z ∷ []) any)

  listed-last : (z : List ℕ) (stored : Stored) → list_any (same z) (stored ++ z ∷ []) ≡ true
  listed-last z stored = list_any-append (same z) stored (z ∷ []) ∙ or_right (list_any (same z) stored) (list_any (same z) (z ∷ [])) (ap (λ b. b || false) (same-refl z))

  -- the object of a value does not collide with the one before, where it is kept
  alone-given : (v c x : List ℕ) (stored : Stored) → collision address stored (given v ++ c ∷ []) ≡ None → list_any (same x) stored ≡ true → IsAlone stored x → IsAlone (stored ++ given v) x
  alone-given [] c x stored free there alone = subst (λ (s : Stored). IsAlone s x) (sym (append-nil stored)) alone
  alone-given (b ∷ bs) c x stored free there alone = alone-more x (b ∷ bs) stored there alone (collision-first address (b ∷ bs) c stored free)

  -- the object of a value is alone, where the layout keeps it
  abbrev pub IsAloneValue : Layout → Stored → List ℕ → Type 0
  IsAloneValue Whole stored v = IsAlone stored v
  IsAloneValue Changes stored v = Unit {0}

  -- the objects of one more commit that do not collide
  module _ (stored : Stored) (v c : List ℕ) (free : collision address stored (given v ++ c ∷ []) ≡ None) where
    abbrev grown : Stored
    grown = stored ++ fresh stored (given v ++ c ∷ [])

    own : clash address c (stored ++ given v) ≡ None
    own = collision-own address v c stored free

    fewer : (x : List ℕ) → IsAlone ((stored ++ given v) ++ c ∷ []) x → IsAlone grown x
    fewer x alone y any is = alone y (ap (list_any (same y)) (append_assoc stored (given v) (c ∷ [])) ∙ listed-within y stored (given v ++ c ∷ []) any) is

    pub alone-old : (x : List ℕ) → list_any (same x) stored ≡ true → IsAlone stored x → IsAlone grown x
    alone-old x there alone = fewer x (alone-more x c (stored ++ given v) (listed-before x stored (given v) there) (alone-given v c x stored free there alone) own)

    pub alone-own : IsAlone grown c
    alone-own = fewer c (alone-new c (stored ++ given v) own)

    pub alone-old_value : (layout : Layout) (x : List ℕ) → IsListedValue layout stored x → IsAloneValue layout stored x → IsAloneValue layout grown x
    alone-old_value Whole x there alone = alone-old x there alone
    alone-old_value Changes x there alone = tt

  pub alone-value : (layout : Layout) (spelling c : List ℕ) (stored : Stored) → collision address stored (given (kept_value layout spelling) ++ c ∷ []) ≡ None → IsAloneValue layout (stored ++ fresh stored (given (kept_value layout spelling) ++ c ∷ [])) (kept_value layout spelling)
  alone-value Whole spelling c stored free =
      let v = value_object spelling in
      fewer stored v c free v (alone-more v c (stored ++ v ∷ []) (listed-last v stored) (alone-new v stored (collision-first address v c stored free)) (own stored v c free))
  alone-value Changes spelling c stored free = tt

  -- it is the first one with its address
  pub found-alone : (x : List ℕ) (stored : Stored) → list_any (same x) stored ≡ true → IsAlone stored x → first_with address (address x) stored ≡ Some x
  found-alone x [] there alone = cc
  found-alone x (y ∷ ys) there alone = at (λ more. found-alone x ys more (λ z any. alone z (or_right (same z y) (list_any (same z) ys) any))) (has_address address (address x) y) refl
    where
      behind : (b : Bool) → same x y ≡ b → has_address address (address x) y ≡ false → (b || list_any (same x) ys) ≡ true → list_any (same x) ys ≡ true
      behind true e none any =
          let here : has_address address (address x) y ≡ true = ap (λ z. same (address z) (address x)) (sym (same-eq x y e)) ∙ same-refl (address x) in
          cc
      behind false e none any = any

      at : (list_any (same x) ys ≡ true → first_with address (address x) ys ≡ Some x) → (b : Bool) → has_address address (address x) y ≡ b → cond b (Some y) (find (has_address address (address x)) ys) ≡ Some x
      at rest true is = ap Some (alone y (or_left (same y y) (list_any (same y) ys) (same-refl y)) (same-eq (address y) (address x) is))
      at rest false is = rest (behind (same x y) refl is there)

module _ {S O R Q A : Type 0} (fixed : Fixed S O R Q A) where
  -- the objects of all commits but the first are alone with their addresses
  pub record AreAlone (s : Store O R) (stored : Stored) : Type 0 where
    pub values : (n : ℕ) → 0 < n → n < length s.commits → IsAloneValue fixed.address fixed.terms.layout stored (value_text (pairs_of fixed s.commits) n)
    pub commits : (n : ℕ) → 0 < n → n < length s.commits → IsAlone fixed.address stored (commit_text (pairs_of fixed s.commits) n)

  module _ (laws : KeepsLaws fixed.meaning) (size : HasSize fixed.address) where
    -- one more commit
    alone-made : (s new : Store O R) (stored : Stored) → AreAlone s stored → (made : Commit O R) → new.commits ≡ s.commits ++ made ∷ []
        → ((n : ℕ) → n < length s.commits → IsListedValue fixed.terms.layout stored (value_text (pairs_of fixed s.commits) n) × (list_any (same (commit_text (pairs_of fixed s.commits) n)) stored ≡ true))
        → let p = pair_at fixed s.commits (pairs_of fixed s.commits) made in
        collision fixed.address stored (both p) ≡ None → AreAlone new (stored ++ fresh stored (both p))
    alone-made s new stored alone made commits listed free =
        let old : List Pair = pairs_of fixed s.commits in
        let p : Pair = pair_at fixed s.commits old made in
        let count : length old ≡ length s.commits = length-pairs_of fixed s.commits in
        let pairs : pairs_of fixed new.commits ≡ old ++ p ∷ [] = ap (pairs_of fixed) commits ∙ pairs_of-one fixed s.commits made in
        let more : Stored = stored ++ fresh stored (both p) in
        let last = λ (n : ℕ) (lt : n < length new.commits). let size = ap length commits in let most : n < length s.commits + 1 = omega (arith, lt, size, length-append s.commits (made ∷ [])) in most in
        record {
          values = λ n low lt.
              ⊎_elim
              (λ (less : n < length s.commits).
              let text : value_text (pairs_of fixed new.commits) n ≡ value_text old n = ap (λ (ps : List Pair). value_text ps n) pairs ∙ value_text-old old (p ∷ []) n (omega (arith, less, count)) in
              subst (IsAloneValue fixed.address fixed.terms.layout more) (sym text) (alone-old_value fixed.address stored p.value p.commit free fixed.terms.layout (value_text old n) (listed n less).0 (alone.values n low less)))
              (λ (most : length s.commits ≤ n).
              let at : n ≡ length old = omega (arith, most, last n lt, count) in
              let text : value_text (pairs_of fixed new.commits) n ≡ p.value = ap (λ (ps : List Pair). value_text ps n) pairs ∙ ap (value_text (old ++ p ∷ [])) at ∙ value_text-new old p in
              subst (IsAloneValue fixed.address fixed.terms.layout more) (sym text) (alone-value fixed.address fixed.terms.layout (fixed.meaning.spelling_of (visible (s.commits ++ made ∷ []) (length s.commits))) p.commit stored free))
              (cases_lt n (length s.commits));
          commits = λ n low lt.
              ⊎_elim
              (λ (less : n < length s.commits).
              let text : commit_text (pairs_of fixed new.commits) n ≡ commit_text old n = ap (λ (ps : List Pair). commit_text ps n) pairs ∙ commit_text-old old (p ∷ []) n (omega (arith, less, count)) in
              subst (IsAlone fixed.address more) (sym text) (alone-old fixed.address stored p.value p.commit free (commit_text old n) (listed n less).1 (alone.commits n low less)))
              (λ (most : length s.commits ≤ n).
              let at : n ≡ length old = omega (arith, most, last n lt, count) in
              let text : commit_text (pairs_of fixed new.commits) n ≡ p.commit = ap (λ (ps : List Pair). commit_text ps n) pairs ∙ ap (commit_text (old ++ p ∷ [])) at ∙ commit_text-new old p in
              subst (IsAlone fixed.address more) (sym text) (alone-own fixed.address stored p.value p.commit free))
              (cases_lt n (length s.commits));
        }

    alone-same : (s new : Store O R) (stored : Stored) → AreAlone s stored → new.commits ≡ s.commits → AreAlone new stored
    alone-same s new stored alone same_commits =
        record {
          values = subst (λ (cs : List (Commit O R)). (n : ℕ) → 0 < n → n < length cs → IsAloneValue fixed.address fixed.terms.layout stored (value_text (pairs_of fixed cs) n)) (sym same_commits) alone.values;
          commits = subst (λ (cs : List (Commit O R)). (n : ℕ) → 0 < n → n < length cs → IsAlone fixed.address stored (commit_text (pairs_of fixed cs) n)) (sym same_commits) alone.commits;
        }

    alone-start : AreAlone (store_after fixed []) (objects_of fixed [])
    unfolding store_of
    alone-start = record { values = λ n low lt. absurd (omega (arith, low, lt)); commits = λ n low lt. absurd (omega (arith, low, lt)) }

    alone-step : (moves : List (Move O R)) (m : Move O R) → IsFullyValid fixed moves → AreAlone (store_after fixed moves) (objects_of fixed moves) → IsFullMove fixed moves m → AreAlone (store_after fixed (moves ++ m ∷ [])) (objects_of fixed (moves ++ m ∷ []))
    alone-step moves m valid alone is =
        let s = store_after fixed moves in
        let new = store_after fixed (moves ++ m ∷ []) in
        let stored : Stored = objects_of fixed moves in
        let full = full_move-is fixed moves m is in
        let kept = valid-kept fixed.meaning fixed.terms laws moves (valid-before fixed moves valid) in
        let sound = valid-sound fixed laws size moves valid in
        let free = no-collision fixed moves m full.2 in
        ⊎_elim
        (λ (one : MakesOne fixed s new).
        let objects = made-objects fixed moves m one in
        subst (AreAlone new) (sym (objects-more fixed moves m ∙ ap (λ (xs : Stored). stored ++ fresh stored xs) objects))
        (alone-made s new stored alone one.made one.commits (λ n lt. (sound.listed_values n lt, sound.listed n lt)) (ap (collision fixed.address stored) (sym objects) ∙ free)))
        (λ (unmoved : new.commits ≡ s.commits).
        subst (AreAlone new) (sym (objects-more fixed moves m ∙ ap (λ (xs : Stored). stored ++ fresh stored xs) (no-objects fixed moves m unmoved) ∙ append-nil stored))
        (alone-same s new stored alone unmoved))
        (one-or-none fixed moves m kept (IsAccepted-from fixed.meaning fixed.terms moves m full.0) full.1)

    pub valid-alone : (moves : List (Move O R)) → IsFullyValid fixed moves → AreAlone (store_after fixed moves) (objects_of fixed moves)
    valid-alone moves valid = by_moves fixed (λ ms. AreAlone (store_after fixed ms) (objects_of fixed ms)) alone-start alone-step moves valid
