-- The object of a commit's value is told by its address from those of earlier commits, and the commit's own is none of these.
use Rattle.std.proofs.Common.{◌≡◌, ℕ, ◌<◌, Bool, true, false, cond, ◌||◌, List, [], ◌∷◌, ◌++◌, length, map, take, zero, suc, refl, sym, ◌∙◌, ap, arith, append_assoc}
use Rattle.std.specs.List.{AllByRecursion, list_any, flat_map}
use Rattle.std.proofs.lemmas.List.Folds.{list_any-append}
use Rattle.mrdt_model.specs.Laws.{KeepsLaws}
use Rattle.branch_graph.specs.Graph.{parents_of}
use Rattle.branch_history.specs.declared.moves.Move.{Move}
use Rattle.branch_history.specs.Commits.{Commit, graph_of, origin_of, visible}
use Rattle.branch_machine.specs.Fixed.{Fixed}
use Rattle.branch_machine.specs.Objects.{Pair, given, both, kept_address, kept_value, commit_text, value_text, address_at, fields_of, objects_of, pair_at, pairs_after, pairs_of, store_after}
use Rattle.branch_machine.specs.Laws.{HasSize}
use Rattle.branch_machine.specs.Validity.{IsFullyValid}
use Rattle.branch_machine.proofs.Both.{IsListedValue, any-both, commit-unlike}
use Rattle.branch_machine.proofs.Stored.{same-eq, same-refl}
use Rattle.branch_machine.proofs.Pairs.{length-pairs_of}
use Rattle.branch_machine.proofs.Distinct.{all-sized, few-sized, valid-sound}
use Rattle.branch_names.specs.declared.layout.Layout.{Layout}
use Rattle.branch_names.specs.declared.layout.Layout.TheVariants.{Whole, Changes}
use Rattle.branch_wire.specs.Fields.{field}
use Rattle.branch_wire.specs.Reading.{HasLength}
use Rattle.branch_wire.specs.Objects.{CommitFields, commit_body, commit_object}
use Rattle.branch_wire.specs.StoredObjects.{Stored, fresh, same}
use Rattle.branch_compact.specs.Compact.{at_places}
use Rattle.recorded_history.specs.Items.{AreSized}
use Rattle.recorded_history.proofs.Alone.{IsAloneValue, valid-alone}
use Rattle.branch_objects_codec.specs.Grammar.{IsValueAddress}
use Rattle.store_compact.specs.Copied.{added, kept_unless, listed, objects_in, pair_of, value_address, values_in}

same-not : (x y : List ℕ) → (x ≡ y → ⊥) → same x y ≡ false
same-not x y other = at (same x y) refl
  where
    at : (b : Bool) → same x y ≡ b → b ≡ false
    at true is = absurd (other (same-eq x y is))
    at false is = refl

-- where one address means one object, the addresses are as equal as the objects
same-address : (address : List ℕ → List ℕ) (x y : List ℕ) → (address y ≡ address x → y ≡ x) → same x y ≡ same (address x) (address y)
same-address address x y told = at (same x y) refl (same (address x) (address y)) refl
  where
    at : (b : Bool) → same x y ≡ b → (d : Bool) → same (address x) (address y) ≡ d → b ≡ d
    at true is true its = refl
    at true is false its =
        let one : same (address x) (address y) ≡ true = ap (λ z. same (address x) (address z)) (sym (same-eq x y is)) ∙ same-refl (address x) in
        absurd (let none : true ≡ false = sym one ∙ its in cc)
    at false is true its =
        let one : same x y ≡ true = ap (same x) (told (sym (same-eq (address x) (address y) its))) ∙ same-refl x in
        absurd (let none : true ≡ false = sym one ∙ is in cc)
    at false is false its = refl

-- with what objects add, the same are there as with the objects
any-fresh : (z : List ℕ) (stored xs : Stored) → list_any (same z) (stored ++ fresh stored xs) ≡ list_any (same z) (stored ++ xs)
any-fresh z stored [] = refl
any-fresh z stored (x ∷ xs) = at (any-fresh z stored xs) (any-fresh z (stored ++ x ∷ []) xs) (list_any (same x) stored) refl
  where
    behind : (d : Bool) → same z x ≡ d → list_any (same x) stored ≡ true → (list_any (same z) stored || list_any (same z) xs) ≡ (list_any (same z) stored || (d || list_any (same z) xs))
    behind true is there =
        let old : list_any (same z) stored ≡ true = ap (λ y. list_any (same y) stored) (same-eq z x is) ∙ there in
        ap (λ b. b || list_any (same z) xs) old ∙ sym (ap (λ b. b || true) old)
    behind false is there = refl

    at : list_any (same z) (stored ++ fresh stored xs) ≡ list_any (same z) (stored ++ xs)
        → list_any (same z) ((stored ++ x ∷ []) ++ fresh (stored ++ x ∷ []) xs) ≡ list_any (same z) ((stored ++ x ∷ []) ++ xs)
        → (b : Bool) → list_any (same x) stored ≡ b → list_any (same z) (stored ++ cond b (fresh stored xs) (x ∷ fresh (stored ++ x ∷ []) xs)) ≡ list_any (same z) (stored ++ x ∷ xs)
    at kept more true is = kept ∙ list_any-append (same z) stored xs ∙ behind (same z x) refl is ∙ sym (list_any-append (same z) stored (x ∷ xs))
    at kept more false is =
        ap (list_any (same z)) (sym (append_assoc stored (x ∷ []) (fresh (stored ++ x ∷ []) xs))) ∙ more
        ∙ ap (list_any (same z)) (append_assoc stored (x ∷ []) xs)

-- one commit's objects beside those of another: its value is told by its address, and no commit's object is equal to one of the other kind, nor to that of the other commit
pub record IsToldFrom (address : List ℕ → List ℕ) (next p : Pair) : Type 0 where
  pub value : address p.value ≡ address next.value → p.value ≡ next.value
  pub value_commit : next.value ≡ p.commit → ⊥
  pub commit_value : next.commit ≡ p.value → ⊥
  pub commit : next.commit ≡ p.commit → ⊥

-- the objects of one commit, and of more: that of a value is there where its address is
one-value : (address : List ℕ → List ℕ) (v w c : List ℕ) (rest : Stored) (known : List (List ℕ)) → (address w ≡ address v → w ≡ v) → (v ≡ c → ⊥)
    → list_any (same v) rest ≡ list_any (same (address v)) known
    → list_any (same v) ((given w ++ c ∷ []) ++ rest) ≡ list_any (same (address v)) (listed (value_address address w) ++ known)
one-value address v [] c rest known told unlike is = ap (λ b. b || list_any (same v) rest) (same-not v c unlike) ∙ is
one-value address v (b ∷ bs) c rest known told unlike is =
    ap (λ x. x || (same v c || list_any (same v) rest)) (same-address address v (b ∷ bs) told)
    ∙ ap (λ x. same (address v) (address (b ∷ bs)) || (x || list_any (same v) rest)) (same-not v c unlike)
    ∙ ap (λ x. same (address v) (address (b ∷ bs)) || x) is

either : (b : Bool) (v c : List ℕ) → cond b (c ∷ []) (v ∷ c ∷ []) ≡ cond b [] (v ∷ []) ++ c ∷ []
either true v c = refl
either false v c = refl

-- what the objects of a commit add
fresh-objects : (address : List ℕ → List ℕ) (v c : List ℕ) (stored : Stored) (known : List (List ℕ)) → list_any (same v) stored ≡ list_any (same (address v)) known
    → list_any (same c) stored ≡ false → (c ≡ v → ⊥) → fresh stored (given v ++ c ∷ []) ≡ kept_unless known (value_address address v) v ++ c ∷ []
fresh-objects address [] c stored known there none apart = ap (λ (b : Bool). cond b [] (c ∷ [])) none
fresh-objects address (b ∷ bs) c stored known there none apart =
    let v : List ℕ = b ∷ bs in
    let none_more : list_any (same c) (stored ++ v ∷ []) ≡ false =
    list_any-append (same c) stored (v ∷ []) ∙ ap (λ x. x || (same c v || false)) none ∙ ap (λ x. x || false) (same-not c v apart) in
    ap (λ x. cond x (cond (list_any (same c) stored) [] (c ∷ [])) (v ∷ cond (list_any (same c) (stored ++ v ∷ [])) [] (c ∷ []))) there
    ∙ ap (λ x. cond (list_any (same (address v)) known) (cond x [] (c ∷ [])) (v ∷ cond (list_any (same c) (stored ++ v ∷ [])) [] (c ∷ []))) none
    ∙ ap (λ x. cond (list_any (same (address v)) known) (c ∷ []) (v ∷ cond x [] (c ∷ []))) none_more
    ∙ either (list_any (same (address v)) known) v c

module _ (address : List ℕ → List ℕ) (next : Pair) (apart : next.commit ≡ next.value → ⊥) where
  abbrev its : Pair → List (List ℕ)
  its p = listed (value_address address p.value)

  any-values : (ps : List Pair) → AllByRecursion (IsToldFrom address next) ps → list_any (same next.value) (flat_map both ps) ≡ list_any (same (address next.value)) (flat_map its ps)
  any-values [] all = refl
  any-values (p ∷ ps) all = one-value address next.value p.value p.commit (flat_map both ps) (flat_map its ps) all.0.value all.0.value_commit (any-values ps all.1)

  any-commits : (ps : List Pair) → AllByRecursion (IsToldFrom address next) ps → list_any (same next.commit) (flat_map both ps) ≡ false
  any-commits [] all = refl
  any-commits (p ∷ ps) all =
      any-both next.commit p (flat_map both ps) (same-not next.commit p.value all.0.commit_value)
      ∙ ap (λ b. b || list_any (same next.commit) (flat_map both ps)) (same-not next.commit p.commit all.0.commit) ∙ any-commits ps all.1

  -- what the next commit adds
  pub fresh-next : (ps : List Pair) → AllByRecursion (IsToldFrom address next) ps → fresh (objects_in ps) (both next) ≡ added address (values_in address ps) next
  fresh-next ps all =
      fresh-objects address next.value next.commit (objects_in ps) (values_in address ps)
      (any-fresh next.value [] (flat_map both ps) ∙ any-values ps all ∙ sym (any-fresh (address next.value) [] (flat_map its ps)))
      (any-fresh next.commit [] (flat_map both ps) ∙ any-commits ps all) apart

-- what holds of each of the first ones holds of those of them that are kept
all-taken : (P : Pair → Type 0) (pairs : List Pair) (k : ℕ) → ((j : ℕ) → j < k → j < length pairs → P (pair_of pairs j)) → AllByRecursion P (take k pairs)
all-taken P pairs zero each = tt
all-taken P [] (suc k) each = tt
all-taken P (p ∷ ps) (suc k) each = (each 0 (omega arith) (omega arith), all-taken P ps k (λ j low lt. each (suc j) (omega (arith, low)) (omega (arith, lt))))

all-kept : (P : Pair → Type 0) (keep : ℕ → Bool) (n : ℕ) (ps : List Pair) → AllByRecursion P ps → AllByRecursion P (at_places keep n ps)
all-kept P keep n [] all = tt
all-kept P keep n (p ∷ ps) all = at (keep n) (all-kept P keep (suc n) ps all.1)
  where
    at : (b : Bool) → AllByRecursion P (at_places keep (suc n) ps) → AllByRecursion P (cond b (p ∷ at_places keep (suc n) ps) (at_places keep (suc n) ps))
    at true rest = (all.0, rest)
    at false rest = rest

-- what the layout keeps of a value, and the object of a commit
abbrev IsOfKinds : Layout → Pair → Type 0
IsOfKinds layout p = ((spelling : List ℕ) × (p.value ≡ kept_value layout spelling)) × ((c : CommitFields) × (p.commit ≡ commit_object c))

kinds-differ : (layout : Layout) (p q : Pair) → IsOfKinds layout p → IsOfKinds layout q → p.value ≡ q.commit → ⊥
kinds-differ layout p q is its same_bytes =
    let c : CommitFields = its.1.0 in
    let v : List ℕ = kept_value layout is.0.0 in
    let one : commit_object c ≡ v = sym its.1.1 ∙ sym same_bytes ∙ is.0.1 in
    let there : same (commit_object c) v ≡ true = ap (same (commit_object c)) (sym one) ∙ same-refl (commit_object c) in
    let none : true ≡ false = sym there ∙ commit-unlike layout c.value is.0.0 (field (commit_body c)) in
    cc none

-- the address that the layout keeps of a value
kept-sized : (layout : Layout) (a : List ℕ) → HasLength 32 a → IsValueAddress (kept_address layout a)
kept-sized Whole a size = size
kept-sized Changes a size = tt

address-kept : (layout : Layout) (address : List ℕ → List ℕ) (spelling v : List ℕ) → v ≡ kept_value layout spelling → kept_address layout (address v) ≡ value_address address v
address-kept Whole address spelling v is = ap (λ (w : List ℕ). kept_address Whole (address w)) is ∙ sym (ap (value_address address) is)
address-kept Changes address spelling v is = sym (ap (value_address address) is)

-- a value's object that is stored, where the layout keeps it, is told by its address; else there is none
value-told : (layout : Layout) (address : List ℕ → List ℕ) (stored : Stored) (s t v w : List ℕ) → v ≡ kept_value layout s → w ≡ kept_value layout t → IsListedValue layout stored w
    → IsAloneValue address layout stored v → address w ≡ address v → w ≡ v
value-told Whole address stored s t v w is its listed alone one = alone w listed one
value-told Changes address stored s t v w is its listed alone one = its ∙ sym is

all-more : (P : Pair → Type 0) (ps : List Pair) (p : Pair) → AllByRecursion P ps → P p → AllByRecursion P (ps ++ p ∷ [])
all-more P [] p all is = (is, tt)
all-more P (q ∷ ps) p all is = (all.0, all-more P ps p all.1 is)

at-number : (P : Pair → Type 0) (pairs : List Pair) (n : ℕ) → n < length pairs → AllByRecursion P pairs → P (pair_of pairs n)
at-number P [] n lt all = absurd (omega (arith, lt))
at-number P (p ∷ ps) zero lt all = all.0
at-number P (p ∷ ps) (suc n) lt all = at-number P ps n (omega (arith, lt)) all.1

module _ {S O R Q A : Type 0} (fixed : Fixed S O R Q A) where
  all-of-kinds : (before : List (Commit O R)) (pairs : List Pair) (cs : List (Commit O R)) → AllByRecursion (IsOfKinds fixed.terms.layout) pairs → AllByRecursion (IsOfKinds fixed.terms.layout) (pairs_after fixed before pairs cs)
  all-of-kinds before pairs [] all = all
  all-of-kinds before pairs (c ∷ cs) all =
      let p : Pair = pair_at fixed before pairs c in
      all-of-kinds (before ++ c ∷ []) (pairs ++ p ∷ []) cs (all-more (IsOfKinds fixed.terms.layout) pairs p all ((fixed.meaning.spelling_of (visible (before ++ c ∷ []) (length before)), refl), (fields_of fixed pairs p.value c, refl)))

  module _ (laws : KeepsLaws fixed.meaning) (size : HasSize fixed.address) (moves : List (Move O R)) (valid : IsFullyValid fixed moves) where
    abbrev commits : List (Commit O R)
    commits = (store_after fixed moves).commits

    abbrev pairs : List Pair
    pairs = pairs_of fixed commits

    of-kinds : (n : ℕ) → n < length commits → IsOfKinds fixed.terms.layout (pair_of pairs n)
    unfolding pairs_of
    of-kinds n lt = at-number (IsOfKinds fixed.terms.layout) pairs n (omega (arith, lt, length-pairs_of fixed commits)) (all-of-kinds [] [] commits tt)

    -- the fields that a commit's object spells
    pub spelled-fields : (n : ℕ) → n < length commits → (c : CommitFields) × AreSized c × (c.value ≡ value_address fixed.address (value_text pairs n)) × (commit_text pairs n ≡ commit_object c)
    spelled-fields n lt =
        let spelled = (valid-sound fixed laws size moves valid).spelled n lt in
        let parents : List ℕ = parents_of (graph_of commits) n in
        let layout : Layout = fixed.terms.layout in
        let v : List ℕ = value_text pairs n in
        let kinds = of-kinds n lt in (
          record { parents = map (address_at fixed.address pairs) parents; branch = origin_of commits n; clock = spelled.clock; value = kept_address layout (fixed.address v); action = spelled.action },
          record { parents = all-sized fixed.address size pairs parents; few = omega (arith, few-sized fixed.address size pairs parents, spelled.few); value = kept-sized layout (fixed.address v) (size v) },
          address-kept layout fixed.address kinds.0.0 v kinds.0.1,
          spelled.is,
        )

    told : (k : ℕ) → k < length commits → (j : ℕ) → j < k → IsToldFrom fixed.address (pair_of pairs k) (pair_of pairs j)
    told k lt j low =
        let there : j < length commits = omega (arith, lt, low) in
        let layout : Layout = fixed.terms.layout in
        let sound = valid-sound fixed laws size moves valid in
        record {
          value = value-told layout fixed.address (objects_of fixed moves) (of-kinds k lt).0.0 (of-kinds j there).0.0 (value_text pairs k) (value_text pairs j) (of-kinds k lt).0.1 (of-kinds j there).0.1
              (sound.listed_values j there) ((valid-alone fixed laws size moves valid).values k (omega (arith, low)) lt);
          value_commit = kinds-differ layout (pair_of pairs k) (pair_of pairs j) (of-kinds k lt) (of-kinds j there);
          commit_value = λ is. kinds-differ layout (pair_of pairs j) (pair_of pairs k) (of-kinds j there) (of-kinds k lt) (sym is);
          commit = λ is. let same_number = sound.distinct j k there lt (sym is) in omega (arith, same_number, low);
        }

    -- the next commit adds its own object, and that of its value where its address is not known
    pub fresh-kept : (keep : ℕ → Bool) (k : ℕ) → k < length commits
        → let ps = at_places keep 0 (take k pairs) in
        fresh (objects_in ps) (both (pair_of pairs k)) ≡ added fixed.address (values_in fixed.address ps) (pair_of pairs k)
    fresh-kept keep k lt =
        let next : Pair = pair_of pairs k in
        fresh-next fixed.address next (λ is. kinds-differ fixed.terms.layout next next (of-kinds k lt) (of-kinds k lt) (sym is)) (at_places keep 0 (take k pairs))
        (all-kept (IsToldFrom fixed.address next) keep 0 (take k pairs) (all-taken (IsToldFrom fixed.address next) pairs k (λ j low there. told k lt j low)))
