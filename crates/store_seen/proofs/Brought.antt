-- What a merge brings: place by place, in a longer history, and of what was brought.
use Rattle.std.proofs.Common.{◌≡◌, ℕ, ◌+◌, ◌<◌, ◌≤◌, Bool, true, false, cond, ◌&&◌, ◌||◌, ◌==◌, max, List, [], ◌∷◌, ◌++◌, length, filter, take, get_or, refl, ap, sym, ◌∙◌, arith, append-nil}
use Rattle.std.specs.Prelude.{not}
use Rattle.std.specs.List.{list_any, AllByRecursion}
use Rattle.std.proofs.lemmas.Bool.{eq-eqb, ne_eqb, eqb-true, eqb-false}
use Rattle.std.proofs.lemmas.List.{take_all, take_more}
use Rattle.std.proofs.lemmas.List.Elements.{filter-append, filter_agree}
use Rattle.std.proofs.lemmas.List.Folds.{list_any-append}
use Rattle.branch_graph.specs.Graph.{reaches}
use Rattle.branch_history.specs.Commits.{Commit, clock_of, greatest_clock}
use Rattle.branch_history.specs.Merging.{each_once, is_below, brought}
use Rattle.store_seen.specs.Groups.{brings}

or_false : (b : Bool) → (b || false) ≡ b
or_false true = refl
or_false false = refl

-- a number behind others, each once
each_once-push : (xs : List ℕ) (n : ℕ) → each_once (xs ++ n ∷ []) ≡ each_once xs ++ cond (list_any (λ k. k == n) xs) [] (n ∷ [])
each_once-push [] n = refl
each_once-push (x ∷ xs) n =
    ap (λ l. x ∷ filter (λ k. not (k == x)) l) (each_once-push xs n)
    ∙ ap (λ l. x ∷ l) (filter-append (λ k. not (k == x)) (each_once xs) (cond (list_any (λ k. k == n) xs) [] (n ∷ [])))
    ∙ ap (λ l. x ∷ (filter (λ k. not (k == x)) (each_once xs) ++ l)) (last (list_any (λ k. k == n) xs) (x == n) refl)
  where
    last : (t s : Bool) → (x == n) ≡ s → filter (λ k. not (k == x)) (cond t [] (n ∷ [])) ≡ cond ((x == n) || t) [] (n ∷ [])
    last true true is = ap (λ b. cond (b || true) [] (n ∷ [])) (sym is)
    last true false is = ap (λ b. cond (b || true) [] (n ∷ [])) (sym is)
    last false true is =
        ap (λ b. cond (not b) (n ∷ []) []) (eq-eqb n x (sym (eqb-true x n is))) ∙ ap (λ b. cond (b || false) [] (n ∷ [])) (sym is)
    last false false is =
        ap (λ b. cond (not b) (n ∷ []) []) (ne_eqb n x (λ e. eqb-false x n is (sym e))) ∙ ap (λ b. cond (b || false) [] (n ∷ [])) (sym is)

module _ (graph : List (List ℕ)) where
  -- the commit lies below none of the first ones, and of one more
  pub is_below-more : (others : List ℕ) (commit i : ℕ) → i < length others
      → is_below graph (take (i + 1) others) commit ≡ (is_below graph (take i others) commit || (not (get_or others i 0 == commit) && reaches graph (get_or others i 0) commit))
  is_below-more others commit i lt =
      let k = get_or others i 0 in
      let test : ℕ → Bool = λ n. not (n == commit) && reaches graph n commit in
      ap (λ l. list_any test l) (take_more others i 0 lt)
      ∙ list_any-append test (take i others) (k ∷ [])
      ∙ ap (λ t. list_any test (take i others) || t) (or_false (test k))

  module _ (head : ℕ) (others : List ℕ) where
    abbrev is_new : ℕ → Bool
    is_new n = not (reaches graph head n) && not (is_below graph others n)

    -- what is brought of the first ones
    abbrev pub brought_first : ℕ → List ℕ
    brought_first i = filter is_new (each_once (take i others))

    pub brought_first-more : (i : ℕ) → i < length others → brought_first (i + 1) ≡ brought_first i ++ cond (brings graph head others i) (get_or others i 0 ∷ []) []
    brought_first-more i lt =
        let n = get_or others i 0 in
        ap (λ l. filter is_new (each_once l)) (take_more others i 0 lt)
        ∙ ap (filter is_new) (each_once-push (take i others) n)
        ∙ filter-append is_new (each_once (take i others)) (cond (list_any (λ k. k == n) (take i others)) [] (n ∷ []))
        ∙ ap (λ l. brought_first i ++ l) (last n (list_any (λ k. k == n) (take i others)))
      where
        last : (n : ℕ) (t : Bool) → filter is_new (cond t [] (n ∷ [])) ≡ cond (not t && is_new n) (n ∷ []) []
        last n true = refl
        last n false = refl

    -- one more is brought, or is not
    pub brought_first-took : (i n : ℕ) → i < length others → n ≡ get_or others i 0 → brings graph head others i ≡ true → brought_first (i + 1) ≡ brought_first i ++ n ∷ []
    brought_first-took i n lt at takes = brought_first-more i lt ∙ ap (λ t. brought_first i ++ cond t (get_or others i 0 ∷ []) []) takes ∙ ap (λ k. brought_first i ++ k ∷ []) (sym at)

    pub brought_first-left : (i : ℕ) → i < length others → brings graph head others i ≡ false → brought_first (i + 1) ≡ brought_first i
    brought_first-left i lt leaves = brought_first-more i lt ∙ ap (λ t. brought_first i ++ cond t (get_or others i 0 ∷ []) []) leaves ∙ append-nil (brought_first i)

    pub brought_first-all : (i : ℕ) → length others ≤ i → brought_first i ≡ brought graph head others
    unfolding brought
    brought_first-all i le = ap (λ l. filter is_new (each_once l)) (take_all i others le)

-- in a graph where the commits reach what they reach in another
module _ (old new : List (List ℕ)) (head : ℕ) (up : (m : ℕ) → reaches new head m ≡ reaches old head m) where
  below_same : (ns : List ℕ) → AllByRecursion (λ n. (m : ℕ) → reaches new n m ≡ reaches old n m) ns → (n : ℕ) → is_below new ns n ≡ is_below old ns n
  below_same [] all n = refl
  below_same (k ∷ ks) all n =
      ap (λ t. (not (k == n) && t) || is_below new ks n) (all.0 n) ∙ ap (λ t. (not (k == n) && reaches old k n) || t) (below_same ks all.1 n)

  pub brought-same : (ns : List ℕ) → AllByRecursion (λ n. (m : ℕ) → reaches new n m ≡ reaches old n m) ns → brought new head ns ≡ brought old head ns
  unfolding brought
  brought-same ns all =
      filter_agree (is_new new head ns) (is_new old head ns) (λ n. ap (λ t. not t && not (is_below new ns n)) (up n) ∙ ap (λ t. not (reaches old head n) && not t) (below_same ns all n)) (each_once ns)

-- the greatest clock of the first ones of some commits, and of one more
module _ {O R : Type 0} (commits : List (Commit O R)) where
  greatest-append : (xs ys : List ℕ) → greatest_clock commits (xs ++ ys) ≡ max (greatest_clock commits xs) (greatest_clock commits ys)
  greatest-append [] ys = omega arith
  greatest-append (x ∷ xs) ys = ap (λ m. max (clock_of commits x) m) (greatest-append xs ys) ∙ omega arith

  pub greatest-next : (ns : List ℕ) (i : ℕ) → i < length ns → (clock one next : ℕ) → clock ≡ greatest_clock commits (take i ns) → one ≡ clock_of commits (get_or ns i 0) → next ≡ max clock one → next ≡ greatest_clock commits (take (i + 1) ns)
  greatest-next ns i lt clock one next was at is =
      let more = ap (greatest_clock commits) (take_more ns i 0 lt) ∙ greatest-append (take i ns) (get_or ns i 0 ∷ []) in
      omega (arith, was, at, is, more)

  pub greatest-more : (head : ℕ) (others : List ℕ) (i : ℕ) → i < length others → (clock one next : ℕ) → clock ≡ greatest_clock commits (head ∷ take i others) → one ≡ clock_of commits (get_or others i 0) → next ≡ max clock one
      → next ≡ greatest_clock commits (head ∷ take (i + 1) others)
  greatest-more head others i lt clock one next was at is =
      let n = get_or others i 0 in
      let more = ap (greatest_clock commits) (take_more others i 0 lt) ∙ greatest-append (take i others) (n ∷ []) in
      omega (arith, was, at, is, more)
