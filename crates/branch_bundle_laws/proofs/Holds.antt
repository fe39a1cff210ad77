-- When another history holds what is left out of a bundle.
use Rattle.std.proofs.Common.{zero, suc, ◌≡◌, ℕ, ◌+◌, ◌<◌, Bool, true, false, ◌&&◌, ◌==◌, List, [], ◌∷◌, length, map, filter, refl, ap, sym, ◌∙◌, arith, IsTrue, subst, ⊎_elim}
use Rattle.std.specs.List.{AllByRecursion, list_any, range_with_len}
use Rattle.std.proofs.lemmas.Bool.{eqb-true, or_cases, and_from}
use Rattle.mrdt_model.specs.Laws.{Meaning, KeepsLaws}
use Rattle.branch_wire.specs.Objects.{CommitFields}
use Rattle.branch_wire.specs.StoredObjects.{same}
use Rattle.branch_graph.specs.Graph.{parents_of, reaches, any_reaches}
use Rattle.branch_history.specs.declared.moves.Move.{Move}
use Rattle.branch_names.specs.declared.terms.Terms.{Terms}
use Rattle.branch_history.specs.Commits.{Commit, graph_of, visible}
use Rattle.branch_history.proofs.Lists.{any_at, AllByRecursion-more, AllByRecursion-both}
use Rattle.branch_history.proofs.Merging.{filter-all, filter-passes}
use Rattle.branch_history.proofs.Reach.{reaches-step}
use Rattle.branch_history.proofs.Kept.{IsKept}
use Rattle.branch_machine.specs.Fixed.{Fixed, fix}
use Rattle.branch_machine.specs.Objects.{Pair, commit_text, value_text, address_at, pairs_of, store_after}
use Rattle.branch_machine.specs.Machine.{commit_at}
use Rattle.branch_machine.specs.Laws.{HasSize}
use Rattle.branch_machine.specs.Validity.{IsFullyValid}
use Rattle.branch_machine.proofs.Stored.{same-eq, same-refl}
use Rattle.branch_machine.proofs.Pairs.{length-pairs_of}
use Rattle.branch_machine.proofs.Items.{at-found}
use Rattle.branch_bundle_laws.specs.Bundles.{item_at, commits_here, is_sent}
use Rattle.branch_bundle_laws.specs.Laws.{AreTold, HasAddresses, HoldsLeftOut}
use Rattle.branch_bundle_laws.proofs.Behind.{fields_at}
use Rattle.branch_bundle_laws.proofs.Fields.{kept, behind, fits, values-told, same-object}
use Rattle.branch_bundle_laws.proofs.Folds.{Held}
use Rattle.branch_bundle_laws.proofs.Accept.{unsent, position-some, get-pair}
use Rattle.branch_bundle_laws.proofs.Text.{row-below}

filter-none : (xs : List ℕ) → filter (λ _. false) xs ≡ []
filter-none [] = refl
filter-none (x ∷ xs) = filter-none xs

-- no addresses: nothing but commit 0 is left out
pub holds-nothing : {S O R Q A : Type 0} (one : Fixed S O R Q A) (moves : List (Move O R)) (tip : ℕ) (other : Fixed S O R Q A) (more : List (Move O R)) → HoldsLeftOut one moves tip [] other more
holds-nothing {S} {O} {R} one moves tip other more n is positive none =
    let g = graph_of (store_after one moves).commits in
    let ps = pairs_of one (store_after one moves).commits in
    let nobody : commits_here one.address ps [] ≡ [] = filter-none (range_with_len 0 (length ps)) in
    let plain : is_sent g tip [] n ≡ false = ap (λ l. is_sent g tip l n) (sym nobody) ∙ none in
    ⊎_elim (λ z. let zero_n : n ≡ 0 = eqb-true n 0 z in absurd (omega arith)) (λ any. absurd (cc any)) (unsent (reaches g tip n) (n == 0) (any_reaches g [] n) is plain)

module _ {S O R Q A : Type 0} (meaning : Meaning S O R Q A) (laws : KeepsLaws meaning) (address : List ℕ → List ℕ) (size : HasSize address) (terms others : Terms) (moves more : List (Move O R)) (valid : IsFullyValid (fix meaning terms address) moves) (also : IsFullyValid (fix meaning others address) more) where
  abbrev one : Fixed S O R Q A
  one = fix meaning terms address

  abbrev other : Fixed S O R Q A
  other = fix meaning others address

  abbrev cs : List (Commit O R)
  cs = (store_after one moves).commits

  abbrev ds : List (Commit O R)
  ds = (store_after other more).commits

  abbrev ps : List Pair
  ps = pairs_of one cs

  abbrev qs : List Pair
  qs = pairs_of other ds

  abbrev g : List (List ℕ)
  g = graph_of cs

  abbrev h : List (List ℕ)
  h = graph_of ds

  kept-one : IsKept meaning terms (store_after one moves)
  kept-one = kept one laws size moves valid

  kept-other : IsKept meaning others (store_after other more)
  kept-other = kept other laws size more also

  fields-same : (n k : ℕ) → n < length cs → k < length ds → commit_text ps n ≡ commit_text qs k → fields_at one cs ps n ≡ fields_at other ds qs k
  fields-same n k lt less is =
      same-object (fields_at one cs ps n) (fields_at other ds qs k) (fits one laws size moves valid n lt) (fits other laws size more also k less)
      (sym (behind one laws size moves valid n lt).text ∙ is ∙ (behind other laws size more also k less).text)

  module _ (told : AreTold one moves other more) where
    -- a commit whose address another history has is held by it
    held-from : (n k : ℕ) → n < length cs → k < length ds → address (commit_text ps n) ≡ address (commit_text qs k) → Held other more (item_at ps n)
    unfolding commit_at
    held-from n k lt less is =
        let texts : commit_text ps n ≡ commit_text qs k = told.commits n k lt less is in
        let values : value_text ps n ≡ value_text qs k =
        values-told terms.layout others.layout address (value_text ps n) (value_text qs k) (meaning.spelling_of (visible cs n)) (meaning.spelling_of (visible ds k)) (ap (λ (c : CommitFields). c.value) (fields-same n k lt less texts))
        (behind one laws size moves valid n lt).value (behind other laws size more also k less).value (told.values n k lt less) in
        let get = get-pair qs k (omega (arith, less, length-pairs_of other ds)) in
        let q : Pair = get.0 in
        let first : same q.value (value_text ps n) ≡ true = ap (λ (x : List ℕ). same x (value_text ps n)) (get.2 ∙ sym values) ∙ same-refl (value_text ps n) in
        let second : same q.commit (commit_text ps n) ≡ true = ap (λ (x : List ℕ). same x (commit_text ps n)) (get.3 ∙ sym texts) ∙ same-refl (commit_text ps n) in
        position-some (λ (p : Pair). same p.value (value_text ps n) && same p.commit (commit_text ps n)) 0 qs k q get.1 (and_from (same q.value (value_text ps n)) (same q.commit (commit_text ps n)) first second)

    -- commits whose addresses are those of others
    held-list : (ns ks : List ℕ) → AllByRecursion (λ n. n < length cs) ns → AllByRecursion (λ k. k < length ds) ks → map (address_at address ps) ns ≡ map (address_at address qs) ks → AllByRecursion (λ n. Held other more (item_at ps n)) ns
    held-list [] ks below under is = tt
    held-list (n ∷ ns) [] below under is = absurd (cc is)
    held-list (n ∷ ns) (k ∷ ks) below under is =
        let first : address (commit_text ps n) ≡ address (commit_text qs k) = cc is in
        let rest : map (address_at address ps) ns ≡ map (address_at address qs) ks = cc is in
        (held-from n k below.0 under.0 first, held-list ns ks below.1 under.1 rest)

    held-parents : (n : ℕ) → n < length cs → Held other more (item_at ps n) → AllByRecursion (λ p. Held other more (item_at ps p)) (parents_of g n)
    held-parents n lt held =
        let found = at-found other more (item_at ps n) held.0 held.1 in
        let k : ℕ = held.0 in
        let less : k < length ds = omega (arith, found.0, length-pairs_of other ds) in
        held-list (parents_of g n) (parents_of h k)
        (AllByRecursion-more (λ p. p < n) (λ p. p < length cs) (parents_of g n) (λ p under. omega (arith, lt)) (kept-one.ordered.ranked n))
        (AllByRecursion-more (λ p. p < k) (λ p. p < length ds) (parents_of h k) (λ p under. omega (arith, less)) (kept-other.ordered.ranked k))
        (ap (λ (c : CommitFields). c.parents) (fields-same n k lt less (sym found.2)))

    -- with a commit all that it reaches is held
    held-below : (b n m : ℕ) → n < b → n < length cs → Held other more (item_at ps n) → IsTrue (reaches g n m) → Held other more (item_at ps m)
    held-below zero n m lt there held is = absurd (omega arith)
    held-below (suc b) n m lt there held is =
        ⊎_elim
        (λ e. subst (λ (k : ℕ). Held other more (item_at ps k)) (eqb-true n m e) held)
        (λ any.
        let all = AllByRecursion-both (λ p. Held other more (item_at ps p)) (λ p. p < n) (parents_of g n) (held-parents n there held) (kept-one.ordered.ranked n) in
        let found = any_at (λ p. Held other more (item_at ps p) × (p < n)) (λ p. reaches g p m) (parents_of g n) all any in
        let under = found.1.1 in
        held-below b found.0 m (omega arith) (omega arith) found.1.0 found.2)
        (or_cases (n == m) (any_reaches g (parents_of g n) m) (sym (reaches-step g kept-one.ordered.ranked n m) ∙ is))

    -- a commit that has one of the addresses
    held-here : (addresses : List (List ℕ)) → HasAddresses other more addresses → (n : ℕ) → n < length cs → IsTrue (list_any (same (address_at address ps n)) addresses) → Held other more (item_at ps n)
    held-here addresses has n lt is =
        let found = any_at (λ a. (k : ℕ) × (k < length ds) × (address_at address qs k ≡ a)) (same (address_at address ps n)) addresses has is in
        held-from n found.1.0 lt found.1.1 (same-eq (address_at address ps n) found.0 found.2 ∙ sym found.1.2)

    pub holds-left : (tip : ℕ) (addresses : List (List ℕ)) → HasAddresses other more addresses → HoldsLeftOut one moves tip addresses other more
    holds-left tip addresses has n is positive none =
        let test : ℕ → Bool = λ k. list_any (same (address_at address ps k)) addresses in
        let row : List ℕ = range_with_len 0 (length ps) in
        let below = filter-all test (λ k. k < length cs) row (AllByRecursion-more (λ k. k < 0 + length ps) (λ k. k < length cs) row (λ k lt. omega (arith, lt, length-pairs_of one cs)) (row-below 0 (length ps))) in
        let passes = filter-passes test (λ k. IsTrue (test k)) row (λ k yes. yes) in
        let here = commits_here address ps addresses in
        ⊎_elim
        (λ z. let zero_n : n ≡ 0 = eqb-true n 0 z in absurd (omega arith))
        (λ any.
        let found = any_at (λ k. (k < length cs) × IsTrue (test k)) (λ k. reaches g k n) here (AllByRecursion-both (λ k. k < length cs) (λ k. IsTrue (test k)) here below passes) any in
        held-below (suc found.0) found.0 n (omega arith) found.1.0 (held-here addresses has found.0 found.1.0 found.1.1) found.2)
        (unsent (reaches g tip n) (n == 0) (any_reaches g here n) is none)
