-- Marks on the commits that one reaches.
use Rattle.std.proofs.Common.{◌≡◌, ℕ, zero, suc, ◌<◌, Bool, true, false, List, replicate, get_or, refl, ap, sym, ◌∙◌, arith, ⊎_elim, IsTrue, get_or-set_other, get_or-set_same}
use Rattle.std.specs.Prelude.{slice_set}
use Rattle.std.proofs.lemmas.Bool.{cases_eq, both_ways}
use Rattle.std.proofs.lemmas.List.{length-replicate}
use Rattle.branch_graph.specs.Graph.{reaches}
use Rattle.branch_graph.proofs.Members.{same_truth}
use Rattle.branch_compact.specs.Marks.{is_marked, AreMarkedBelow}

-- no mark
unmarked : (count n : ℕ) → get_or (replicate count false) n false ≡ false
unmarked zero n = refl
unmarked (suc count) zero = refl
unmarked (suc count) (suc n) = unmarked count n

-- where one commit is marked at first, those that it reaches are marked then
pub marked-below : (graph : List (List ℕ)) (count at : ℕ) (marks : List Bool) → at < count → AreMarkedBelow graph (slice_set (replicate count false) at true) marks → (n : ℕ) → is_marked marks n ≡ reaches graph at n
marked-below graph count at marks lt below n = same_truth (is_marked marks n) (reaches graph at n) forth back
  where
    here : is_marked (slice_set (replicate count false) at true) at ≡ true
    here = get_or-set_same (replicate count false) at true false (omega (arith, length-replicate count false))

    alone : (k : ℕ) → is_marked (slice_set (replicate count false) at true) k ≡ true → k ≡ at
    alone k is = ⊎_elim
        (λ (same : k ≡ at). same)
        (λ other. absurd (both_ways _ (get_or-set_other (replicate count false) at k true false other ∙ unmarked count k) is))
        (cases_eq k at)

    forth : IsTrue (is_marked marks n) → IsTrue (reaches graph at n)
    forth is = let from = below.only n is in ap (λ k. reaches graph k n) (sym (alone from.0 from.1)) ∙ from.2

    back : IsTrue (reaches graph at n) → IsTrue (is_marked marks n)
    back is = below.reached at n here is
