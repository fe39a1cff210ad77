-- What folds stand for, and what memos keep of them.
use Rattle.std.proofs.Common.{zero, suc, ◌≡◌, ℕ, ◌<◌, ◌≤◌, List, [], ◌∷◌, length, take, get_or, refl, ap, sym, ◌∙◌, subst, arith, ⊎_elim, Contains, Option, Some, None, IfSome, IfOk, nat_eq}
use Rattle.std.specs.Prelude.{Result, Ok, Err, IsSome, option_map, is_some}
use Rattle.std.specs.Cmp.Lexicographic.{pointwise}
use Rattle.lru.proofs.CallerLemmas.{Contains-lookup}
use Rattle.std.specs.List.{AllByRecursion}
use Rattle.mrdt_model.specs.Times.{among}
use Rattle.mrdt_model.specs.Executions.{Event, times_of}
use Rattle.mrdt_model.specs.Laws.{Meaning, StandsAsWell}
use Rattle.branch_graph.specs.Graph.{parents_of, HasParents, maximal_common}
use Rattle.branch_history.specs.Commits.{graph_of, visible, visible_at_all, all_events}
use Rattle.branch_history.specs.History.{store_of}
use Rattle.branch_history.specs.Laws.{SeesAlone, SeesJoins, SeesBases, SeesClosedPartsAtAll, IsRising}
use Rattle.virtual_base.specs.Nodes.{NodesView, IsFold, IsBase, AreThere}
use Rattle.virtual_base.specs.Memos.{MemoView, kept_for, Holds, IsMemoOf, AddsNothing, AddsOnly}
use Rattle.virtual_base.proofs.Kept.{same_items}
use Rattle.virtual_base.proofs.Maximal.{restrict-both}

module _ {S O R Q A : Type 0} (meaning : Meaning S O R Q A) (nodes : NodesView S) where
  -- the value of a commit of two parents is their fold
  pub merged-fold : SeesAlone meaning → SeesJoins meaning → (n p q : ℕ) (value : S) → HasParents nodes.graph.commits n p q → IsFold meaning nodes (n ∷ []) value → IsFold meaning nodes (p ∷ q ∷ []) value
  merged-fold alone joins n p q value parents fold = record {
    stands = λ terms moves valid are.
        let commits = (store_of terms.origin moves).commits in
        let here = subst (λ (x : List (Event O R)). meaning.stands value x) (alone commits n) (fold.stands terms moves valid are) in
        let seen : visible commits n ≡ visible_at_all commits (p ∷ q ∷ []) =
        ⊎_elim
        (λ straight. (joins terms moves valid n p q [] (ap (λ g. parents_of g n) (sym are.parents) ∙ straight)).0)
        (λ turned. let seen = joins terms moves valid n q p [] (ap (λ g. parents_of g n) (sym are.parents) ∙ turned) in seen.0 ∙ seen.1)
        parents in
        subst (λ (x : List (Event O R)). meaning.stands value x) seen here;
  }

  -- what stands for all that a fold stands for is the fold
  pub copied-fold : SeesClosedPartsAtAll meaning → (ns : List ℕ) (old new : S) → StandsAsWell meaning old new → IsFold meaning nodes ns old → IsFold meaning nodes ns new
  copied-fold closed ns old new copies fold = record {
    stands = λ terms moves valid are. copies (visible_at_all (store_of terms.origin moves).commits ns) (closed terms moves valid ns).1 (fold.stands terms moves valid are);
  }

  -- the fold of the maximal common ancestors is the base
  pub base-fold : SeesBases meaning → (left right : List ℕ) (value : S) → IsFold meaning nodes (maximal_common nodes.graph.commits left right) value → IsBase meaning nodes left right value
  base-fold bases left right value fold = record {
    stands = λ terms moves valid are.
        let commits = (store_of terms.origin moves).commits in
        let here = subst (λ (g : List (List ℕ)). meaning.stands value (visible_at_all commits (maximal_common g left right))) are.parents (fold.stands terms moves valid are) in
        subst (λ (x : List (Event O R)). meaning.stands value x) (bases terms moves valid left right) here;
  }

  -- the fold of the maximal commits of a list is that of the list
  pub maximal-fold : SeesBases meaning → SeesClosedPartsAtAll meaning → (ns : List ℕ) (value : S) → IsFold meaning nodes (maximal_common nodes.graph.commits ns ns) value → IsFold meaning nodes ns value
  maximal-fold bases closed ns value fold = record {
    stands = λ terms moves valid are.
        let commits = (store_of terms.origin moves).commits in
        let x : List (Event O R) = visible_at_all commits ns in
        let here = subst (λ (g : List (List ℕ)). meaning.stands value (visible_at_all commits (maximal_common g ns ns))) are.parents (fold.stands terms moves valid are) in
        let seen : visible_at_all commits (maximal_common (graph_of commits) ns ns) ≡ x = bases terms moves valid ns ns ∙ restrict-both (among (times_of x)) (all_events commits) ∙ sym (closed terms moves valid ns).0.kept in
        subst (λ (y : List (Event O R)). meaning.stands value y) seen here;
  }

  -- memos
  pub memo-same : (old new : MemoView S) → AddsNothing old new → IsMemoOf meaning nodes old → IsMemoOf meaning nodes new
  memo-same old new same is ns value here = is ns value (same ns value here)

  pub memo-added : (old new : MemoView S) (list : List ℕ) (fold : S) → AddsOnly old new list fold → AreThere nodes list → IsFold meaning nodes list fold → IsMemoOf meaning nodes old → IsMemoOf meaning nodes new
  memo-added old new list fold only there folded is ns value here =
      ⊎_elim
      (λ was. is ns value was)
      (λ this. (subst (AreThere nodes) (sym this.0) there, subst (λ (l : List ℕ). IsFold meaning nodes l value) (sym this.0) (subst (λ (v : S). IsFold meaning nodes list v) (sym this.1) folded)))
      (only ns value here)

  -- what was found is the fold of the list
  found-kept : (memo : MemoView S) (list : List ℕ) (value : S) → kept_for memo list ≡ Some value → Contains memo.kept (list, value)
  found-kept memo list value is =
      let found = Contains-lookup (pointwise nat_eq list) memo.kept value is in
      subst (λ (l : List ℕ). Contains memo.kept (l, value)) (sym (same_items list found.0 found.2)) found.1

  module _ {V : Type 0} (h : V → S) (memo : MemoView S) (list : List ℕ) where
    abbrev Found : Option V → Type 0
    Found fold = option_map h fold ≡ kept_for memo list

    some-fold : IsMemoOf meaning nodes memo → (fold : Option V) → Found fold → IfSome fold (λ value. IsFold meaning nodes list (h value))
    some-fold is None found = tt
    some-fold is (Some value) found = (is list (h value) (found-kept memo list (h value) (sym found))).1

    pub found-fold : {E : Type 0} → IsMemoOf meaning nodes memo → (r : Result (Option V) E) → IfOk r Found → IfOk r (λ fold. IfSome fold (λ value. IsFold meaning nodes list (h value)))
    found-fold is (Ok fold) found = some-fold is fold found
    found-fold is (Err e) found = tt

    some-held : (fold : Option V) → Found fold → Holds memo list → IsSome fold
    some-held (Some value) found held = refl
    some-held None found held = absurd (let h = ap is_some found in cc)

    pub found-held : {E : Type 0} (r : Result (Option V) E) → IfOk r Found → Holds memo list → IfOk r IsSome
    found-held (Ok fold) found held = some-held fold found held
    found-held (Err e) found held = tt

    pub found-some : {E : Type 0} (New : Type 0) → (Holds memo list → New) → (r : Result (Option V) E) → IfOk r Found → IfOk r (λ fold. IsSome fold → New)
    found-some New stays (Ok (Some value)) found = λ is. stays (ap is_some (sym found))
    found-some New stays (Ok None) found = λ is. absurd (cc)
    found-some New stays (Err e) found = tt

pub two-items : (xs : List ℕ) → length xs ≡ 2 → xs ≡ get_or xs 0 0 ∷ get_or xs 1 0 ∷ []
two-items [] e = absurd (omega (arith, e))
two-items (x ∷ []) e = absurd (omega (arith, e))
two-items (x ∷ y ∷ []) e = refl
two-items (x ∷ y ∷ z ∷ xs) e = absurd (omega (arith, e))

-- the first two items
pub take-two : (xs : List ℕ) → 2 ≤ length xs → take 2 xs ≡ get_or xs 0 0 ∷ get_or xs 1 0 ∷ []
take-two [] le = absurd (omega arith)
take-two (x ∷ []) le = absurd (omega arith)
take-two (x ∷ y ∷ xs) le = refl

pub take-all : {X : Type 0} (xs : List X) (n : ℕ) → length xs ≤ n → take n xs ≡ xs
take-all [] zero le = refl
take-all [] (suc n) le = refl
take-all (x ∷ xs) zero le = absurd (omega arith)
take-all (x ∷ xs) (suc n) le = ap (λ l. x ∷ l) (take-all xs n (omega arith))

pub AllByRecursion-take : (P : ℕ → Type 0) (xs : List ℕ) (n : ℕ) → AllByRecursion P xs → AllByRecursion P (take n xs)
AllByRecursion-take P [] zero all = tt
AllByRecursion-take P [] (suc n) all = tt
AllByRecursion-take P (x ∷ xs) zero all = tt
AllByRecursion-take P (x ∷ xs) (suc n) all = (all.0, AllByRecursion-take P xs n all.1)

pub AllByRecursion-at : (P : ℕ → Type 0) (xs : List ℕ) (n : ℕ) → n < length xs → AllByRecursion P xs → P (get_or xs n 0)
AllByRecursion-at P [] n lt all = absurd (omega arith)
AllByRecursion-at P (x ∷ xs) zero lt all = all.0
AllByRecursion-at P (x ∷ xs) (suc n) lt all = AllByRecursion-at P xs n (omega arith) all.1

-- of rising numbers, those before one are less
pub rising-before : (xs : List ℕ) (n : ℕ) → n < length xs → IsRising xs → AllByRecursion (λ k. k < get_or xs n 0) (take n xs)
rising-before [] n lt rising = absurd (omega arith)
rising-before (x ∷ xs) zero lt rising = tt
rising-before (x ∷ xs) (suc n) lt rising = (AllByRecursion-at (λ k. x < k) xs n (omega arith) rising.0, rising-before xs n (omega arith) rising.1)
