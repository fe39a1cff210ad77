-- The machine's turns for several commits, all of which a merge brings.
use Rattle.std.proofs.Common.{◌≡◌, ℕ, ◌<◌, ◌≤◌, List, [], ◌∷◌, length, refl, ap, sym, arith, Some, None}
use Rattle.mrdt_model.specs.Laws.{Meaning}
use Rattle.branch_names.specs.declared.terms.Terms.{Terms}
use Rattle.branch_history.specs.declared.moves.Move.{Move}
use Rattle.branch_history.specs.declared.moves.Move.TheVariants as move
use Rattle.branch_history.specs.Commits.{graph_of}
use Rattle.branch_history.specs.History.{store_of}
use Rattle.branch_history.specs.Machine.{turn, answers, makes, merge_turn, merge_refusal, commit_refusal}
use Rattle.branch_history.specs.Merging.{brought}
use Rattle.branch_history.specs.Steps as machine
use Rattle.branch_history.specs.Validity.{AreCommits, IsMove}
use Rattle.branch_history.proofs.Merging.{brought-again}
use Rattle.branch_history.proofs.Turns.{join-unprepared, join-refused, join-makes, IsMove-join}

module _ {S O R Q A : Type 0} (meaning : Meaning S O R Q A) (terms : Terms) (moves : List (Move O R)) (r h : ℕ) where
  abbrev graph : List (List ℕ)
  graph = graph_of (store_of terms.origin moves).commits

  -- a merge merges what it brings
  pub merge-brings : (ns : List ℕ) → turn meaning terms moves (machine.Merge r h ns) ≡ turn meaning terms moves (machine.Merge r h (brought graph h ns))
  unfolding turn
  merge-brings ns = ap (λ ms. merge_turn meaning terms moves r h ms) (sym (brought-again graph h ns))

  pub merge-none : turn meaning terms moves (machine.Merge r h []) ≡ answers machine.Same
  unfolding turn brought
  merge-none = refl

  pub several-unprepared : (ms : List ℕ) → 2 ≤ length ms → (refusal : machine.Refusal) → brought graph h ms ≡ ms → merge_refusal meaning terms.limits (store_of terms.origin moves).commits (h ∷ ms) ≡ Some refusal
      → turn meaning terms moves (machine.Merge r h ms) ≡ answers (machine.Refused refusal)
  several-unprepared [] several = absurd (omega arith)
  several-unprepared (m ∷ []) several = absurd (omega arith)
  several-unprepared (m ∷ k ∷ ks) several = join-unprepared meaning terms moves r h m k ks

  pub several-refused : (ms : List ℕ) → 2 ≤ length ms → (refusal : machine.Refusal) → brought graph h ms ≡ ms → merge_refusal meaning terms.limits (store_of terms.origin moves).commits (h ∷ ms) ≡ None → commit_refusal terms moves r h ≡ Some refusal
      → turn meaning terms moves (machine.Merge r h ms) ≡ answers (machine.Refused refusal)
  several-refused [] several = absurd (omega arith)
  several-refused (m ∷ []) several = absurd (omega arith)
  several-refused (m ∷ k ∷ ks) several = join-refused meaning terms moves r h m k ks

  pub several-makes : (ms : List ℕ) → 2 ≤ length ms → brought graph h ms ≡ ms → merge_refusal meaning terms.limits (store_of terms.origin moves).commits (h ∷ ms) ≡ None → commit_refusal terms moves r h ≡ None
      → turn meaning terms moves (machine.Merge r h ms) ≡ makes (move.Join r ms) (machine.Joined (length (store_of terms.origin moves).commits))
  several-makes [] several = absurd (omega arith)
  several-makes (m ∷ []) several = absurd (omega arith)
  several-makes (m ∷ k ∷ ks) several = join-makes meaning terms moves r h m k ks

  pub IsMove-several : (ms : List ℕ) → 2 ≤ length ms → r < length (store_of terms.origin moves).branches → h < length (store_of terms.origin moves).commits → AreCommits (store_of terms.origin moves).commits ms → length ms ≤ 8 → brought graph h ms ≡ ms
      → merge_refusal meaning terms.limits (store_of terms.origin moves).commits (h ∷ ms) ≡ None → commit_refusal terms moves r h ≡ None → IsMove meaning terms moves (move.Join r ms)
  IsMove-several [] several = absurd (omega arith)
  IsMove-several (m ∷ []) several = absurd (omega arith)
  IsMove-several (m ∷ k ∷ ks) several = IsMove-join meaning terms moves r h m k ks
