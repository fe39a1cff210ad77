-- The fields of the objects of a valid history: they are read in one way.
use Rattle.std.proofs.Common.{zero, suc, ◌≡◌, ℕ, ◌<◌, ◌≤◌, List, [], ◌∷◌, ◌++◌, length, refl, ap, sym, ◌∙◌, arith, subst, Option, Some, None, append-nil}
use Rattle.std.specs.List.{AllByRecursion}
use Rattle.mrdt_model.specs.Executions.{Event}
use Rattle.mrdt_model.specs.Laws.{KeepsLaws}
use Rattle.branch_wire.specs.Fields.{number, field}
use Rattle.branch_wire.specs.Objects.{CommitFields, commit_kind, commit_body, commit_object}
use Rattle.branch_wire.proofs.Numbers.{same_parts, length-number}
use Rattle.branch_objects_codec.specs.Parts.{ActionFits}
use Rattle.branch_objects_codec.proofs.Body.{Five_fits, five_of, fives, from_five}
use Rattle.branch_names.specs.declared.layout.Layout.{Layout}
use Rattle.branch_names.specs.declared.layout.Layout.TheVariants.{Whole, Changes}
use Rattle.branch_wire.specs.Reading.{HasLength}
use Rattle.branch_objects_codec.specs.Grammar.{IsValueAddress}
use Rattle.branch_graph.specs.Graph.{parents_of}
use Rattle.branch_history.specs.declared.moves.Move.{Move}
use Rattle.branch_history.specs.Commits.{Commit, graph_of, clock_of, event_of, greatest_clock}
use Rattle.branch_history.specs.History.{Store}
use Rattle.branch_history.proofs.Lists.{AllByRecursion-more}
use Rattle.branch_history.proofs.Later.{commits-longer}
use Rattle.branch_history.proofs.Valid.{store_of-none}
use Rattle.branch_history.proofs.Reach.{parents_of-zero}
use Rattle.branch_history.proofs.Kept.{IsKept}
use Rattle.branch_history.proofs.Histories.{valid-kept}
use Rattle.branch_machine.specs.Fixed.{Fixed}
use Rattle.branch_machine.specs.Objects.{Pair, kept_value, kept_address, commit_text, value_text, silent_action, action_of, pairs_of, store_after, objects_of}
use Rattle.branch_machine.specs.Laws.{HasSize}
use Rattle.branch_machine.specs.Validity.{IsFullyValid}
use Rattle.branch_machine.proofs.Valid.{valid-before}
use Rattle.branch_machine.proofs.Distinct.{IsSound, valid-sound, all-sized, few-sized}
use Rattle.branch_bundle_laws.proofs.Made.{IsMadeOn, AreMade, valid-made}
use Rattle.branch_bundle_laws.proofs.Behind.{fields_at, IsBehind, is-behind}

-- the address of a value, where it is kept, has 32 bytes
kept-sized : (layout : Layout) (a : List ℕ) → HasLength 32 a → IsValueAddress (kept_address layout a)
kept-sized Whole a long = long
kept-sized Changes a long = tt

-- whether it is kept tells the layout
pub layouts-told : (l m : Layout) (a b : List ℕ) → kept_address l a ≡ kept_address m b → l ≡ m
layouts-told Whole Whole a b is = refl
layouts-told Whole Changes a b is = absurd (cc is)
layouts-told Changes Whole a b is = absurd (cc is)
layouts-told Changes Changes a b is = refl

-- values whose addresses are kept alike are the same, where addresses tell them apart
pub values-told : (l m : Layout) (address : List ℕ → List ℕ) (v w s t : List ℕ) → kept_address l (address v) ≡ kept_address m (address w) → v ≡ kept_value l s → w ≡ kept_value m t → (address v ≡ address w → v ≡ w) → v ≡ w
values-told Whole Whole address v w s t is p q told = let same : address v ≡ address w = cc is in told same
values-told Whole Changes address v w s t is p q told = absurd (cc is)
values-told Changes Whole address v w s t is p q told = absurd (cc is)
values-told Changes Changes address v w s t is p q told = p ∙ sym q

-- equal objects are of equal fields
pub same-object : (c d : CommitFields) → Five_fits (commit_kind c.value) (five_of c) → Five_fits (commit_kind d.value) (five_of d) → commit_object c ≡ commit_object d → c ≡ d
same-object c d p q is =
    let kinds : commit_kind c.value ≡ commit_kind d.value = cc is in
    let inner : field (commit_body c) ≡ field (commit_body d) = cc is in
    let bodies = (same_parts (number (length (commit_body c))) (commit_body c) (number (length (commit_body d))) (commit_body d) (length-number (length (commit_body c)) ∙ sym (length-number (length (commit_body d)))) inner).1 in
    from_five c d ((fives (commit_kind d.value)).one (five_of c) (five_of d) [] [] (subst (λ (k : ℕ). Five_fits k (five_of c)) kinds p) q (append-nil (commit_body c) ∙ bodies ∙ sym (append-nil (commit_body d)))).0

-- what is known of a valid history
module _ {S O R Q A : Type 0} (fixed : Fixed S O R Q A) (laws : KeepsLaws fixed.meaning) (size : HasSize fixed.address) (moves : List (Move O R)) (valid : IsFullyValid fixed moves) where
  abbrev pub commits : List (Commit O R)
  commits = (store_after fixed moves).commits

  abbrev pub pairs : List Pair
  pairs = pairs_of fixed commits

  pub kept : IsKept fixed.meaning fixed.terms (store_after fixed moves)
  kept = valid-kept fixed.meaning fixed.terms laws moves (valid-before fixed moves valid)

  pub sound : IsSound fixed (store_after fixed moves) (objects_of fixed moves)
  sound = valid-sound fixed laws size moves valid

  pub made : AreMade fixed.meaning fixed.terms.limits.value commits
  made = valid-made fixed.meaning fixed.terms laws moves (valid-before fixed moves valid)

  pub behind : (n : ℕ) → n < length commits → IsBehind fixed commits n
  behind = is-behind fixed commits kept.ordered.ranked

  -- equal addresses are of one commit
  pub one-address : (j k : ℕ) → j < length commits → k < length commits → fixed.address (commit_text pairs j) ≡ fixed.address (commit_text pairs k) → j ≡ k
  one-address j k in_j in_k is = sound.distinct j k in_j in_k (sound.one j k in_j in_k is)

  -- commit 0 has no event
  pub later-event : (n : ℕ) (e : Event O R) → event_of commits n ≡ Some e → 0 < n
  later-event zero e is =
      let at = kept.events 0 e is in
      let none : [] ≡ at.parent ∷ [] = sym (parents_of-zero (graph_of commits) kept.ordered.ranked) ∙ at.parents in
      absurd (cc none)
  later-event (suc n) e is = omega arith

  action-fits : (n : ℕ) → n < length commits → (o : Option (Event O R)) → event_of commits n ≡ o → ActionFits (action_of fixed (parents_of (graph_of commits) n) o)
  action-fits n lt None is = silent (parents_of (graph_of commits) n)
    where
      silent : (ps : List ℕ) → ActionFits (silent_action ps)
      silent [] = tt
      silent (p ∷ ps) = tt
  action-fits n lt (Some e) is =
      let op = subst (λ o. IsMadeOn fixed.meaning fixed.terms.limits.value commits (parents_of (graph_of commits) n) (clock_of commits n) o) is (made n (later-event n e is) lt) in
      let short = op.short in
      let high = fixed.terms.limits.in_range.value_high in
      (omega arith, omega arith)

  pub fits : (n : ℕ) → n < length commits → Five_fits (commit_kind (fields_at fixed commits pairs n).value) (five_of (fields_at fixed commits pairs n))
  fits n lt =
      let few = (sound.spelled n lt).few in
      let low = kept.low n in
      let high = fixed.terms.limits.in_range.clock_high in
      (((((omega (arith, few-sized fixed.address size pairs (parents_of (graph_of commits) n)), all-sized fixed.address size pairs (parents_of (graph_of commits) n)), kept.ordered.small n lt), omega arith), (refl, kept-sized fixed.terms.layout (fixed.address (value_text pairs n)) (size (value_text pairs n)))), action-fits n lt (event_of commits n) refl)

  greatest-low : (b : ℕ) (ns : List ℕ) → AllByRecursion (λ p. clock_of commits p ≤ b) ns → greatest_clock commits ns ≤ b
  greatest-low b [] all = omega arith
  greatest-low b (n ∷ ns) all = omega (arith, all.0, greatest-low b ns all.1)

  clock-below : (b n : ℕ) → n < b → n < length commits → clock_of commits n ≤ n
  clock-below zero n less lt = absurd (omega arith)
  clock-below (suc b) zero less lt = subst (λ k. k ≤ 0) (sym root-clock) (omega arith)
    where
      root-clock : clock_of commits 0 ≡ 0
      root-clock = ap (λ (cs : List (Commit O R)). clock_of cs 0) ((commits-longer fixed.terms.origin [] moves).is ∙ ap (λ (t : Store O R). t.commits ++ (commits-longer fixed.terms.origin [] moves).more) (store_of-none fixed.terms.origin))
  clock-below (suc b) (suc n) less lt = at (event_of commits (suc n)) refl (λ p under. clock-below b p (omega arith) (omega arith))
    where
      at : (o : Option (Event O R)) → event_of commits (suc n) ≡ o → ((p : ℕ) → p < suc n → clock_of commits p ≤ p) → clock_of commits (suc n) ≤ suc n
      at (Some e) is rest =
          let a = kept.events (suc n) e is in
          let under : a.parent < suc n = (subst (AllByRecursion (λ p. p < suc n)) a.parents (kept.ordered.ranked (suc n))).0 in
          omega (arith, a.next, rest a.parent under, under)
      at None is rest =
          let m = subst (λ o. IsMadeOn fixed.meaning fixed.terms.limits.value commits (parents_of (graph_of commits) (suc n)) (clock_of commits (suc n)) o) is (made (suc n) (omega arith) lt) in
          let under : AllByRecursion (λ p. p < suc n) (m.parent ∷ m.others) = subst (AllByRecursion (λ p. p < suc n)) m.parents_are (kept.ordered.ranked (suc n)) in
          omega (arith, m.greatest, greatest-low n (m.parent ∷ m.others) (AllByRecursion-more (λ p. p < suc n) (λ p. clock_of commits p ≤ n) (m.parent ∷ m.others) (λ p less_p. omega (arith, rest p less_p, less_p)) under))

  -- a commit's clock is at most its number
  pub clock-low : (n : ℕ) → n < length commits → clock_of commits n ≤ n
  clock-low n lt = clock-below (suc n) n (omega arith) lt
