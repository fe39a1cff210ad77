-- Branches that are placed at a commit, and branches that are dropped.
use Rattle.std.proofs.Common.{◌≡◌, ℕ, ◌+◌, ◌<◌, ◌≤◌, ◌^◌, List, [], ◌∷◌, ◌++◌, length, ap, sym, ◌∙◌, arith, Some, None, subst, length-append, IsTrue}
use Rattle.mrdt_model.specs.Laws.{Meaning, KeepsLaws}
use Rattle.branch_graph.specs.Graph.{Ancestry}
use Rattle.branch_names.specs.declared.terms.Terms.{Terms}
use Rattle.branch_names.specs.Names.{is_name}
use Rattle.branch_names.specs.Heads.{Table, branch_named, with_branch, with_drop}
use Rattle.branch_history.specs.declared.moves.Move.{Move}
use Rattle.branch_history.specs.declared.moves.Move.TheVariants as move
use Rattle.branch_history.specs.History.{Store, store_of}
use Rattle.branch_history.specs.Machine.{turn, makes, fork_refusal, drop_refusal}
use Rattle.branch_history.specs.Steps as machine
use Rattle.branch_history.specs.Validity.{IsMove}
use Rattle.branch_history.proofs.Turns.{fork-full_branches, fork-moves, moves-full, moves-none, place-taken, place-refused, place-makes, IsMove-place, drop-refused}
use Rattle.branch_history.proofs.Valid.{store_of-more}
use Rattle.store_seen.specs.declared.answers.DropRefused.{DropRefused}
use Rattle.store_seen.specs.declared.answers.DropRefused.TheVariants as refused
use Rattle.store_seen.specs.Answers.{not_dropped}
use Rattle.store_seen.specs.Nodes.{IsCore}
use Rattle.store_seen.specs.Turns.{Refuses, Steps, DropRefusedBy}
use Rattle.store_seen.specs.Views.{CoreView, VersionsView}
use Rattle.store_seen.proofs.Answered.{step-refused, step-short}
use Rattle.store_seen.proofs.Cores.{core-branches, core-named, core-moved}

-- a history with one move more, for which there is room, has no more moves than a store may have
pub few-moves : {O R : Type 0} (old new : CoreView (Move O R)) (made : Move O R) → new ≡ record old { history = old.history ++ made ∷ [] } → length old.history < old.terms.limits.moves → length new.history ≤ 2 ^ 48
few-moves {O} {R} old new made grown lt =
    let size : length new.history ≡ length old.history + 1 = ap (λ (c : CoreView (Move O R)). length c.history) grown ∙ length-append old.history (made ∷ []) in
    let most = old.terms.limits.in_range.moves_high in
    omega (arith, size, most, lt)

-- why a branch is not dropped
pub drop-stays : {S O R Q A : Type 0} (meaning : Meaning S O R Q A) (r h : ℕ) (old new : VersionsView (Move O R)) → new ≡ old → (why : DropRefused) → DropRefusedBy (drop_refusal old.core.terms old.core.history r h) why
    → Steps meaning (machine.Drop r h) old new old.addresses (not_dropped why)
drop-stays meaning r h old new same (refused.Dropped branch) is = step-refused meaning (machine.Drop r h) old new same (machine.Dropped branch) (drop-refused meaning old.core.terms old.core.history r h (machine.Dropped branch) is)
drop-stays meaning r h old new same refused.KeepsMain is = step-refused meaning (machine.Drop r h) old new same machine.KeepsMain (drop-refused meaning old.core.terms old.core.history r h machine.KeepsMain is)
drop-stays meaning r h old new same (refused.Stale newest) is = step-refused meaning (machine.Drop r h) old new same (machine.Stale newest) (drop-refused meaning old.core.terms old.core.history r h (machine.Stale newest) is)
drop-stays meaning r h old new same (refused.FullMoves count) is = step-refused meaning (machine.Drop r h) old new same (machine.FullMoves count) (drop-refused meaning old.core.terms old.core.history r h (machine.FullMoves count) is)
drop-stays meaning r h old new same refused.Memory is = step-short meaning (machine.Drop r h) old new same

module _ {S O R Q A : Type 0} (meaning : Meaning S O R Q A) (laws : KeepsLaws meaning) (terms : Terms) (history : List (Move O R)) (table : Table) (graph : Ancestry) (clocks : List ℕ) (values : List S) (core : IsCore meaning terms history table graph clocks values) where
  branches_are : length table.branches ≡ length (store_of terms.origin history).branches
  branches_are = core-branches meaning laws terms history table graph clocks values core

  -- how a core goes on
  module _ (moves : List (Move O R)) (new_table : Table) where
    pub place-core : (name : List ℕ) (number commit : ℕ) → IsMove meaning terms history (move.Place name (length (store_of terms.origin history).branches) commit) → number ≡ length table.branches
        → moves ≡ history ++ move.Place name number commit ∷ [] → new_table ≡ record table { branches = with_branch table.branches name commit } → IsCore meaning terms moves new_table graph clocks values
    place-core name number commit is last made added =
        let m = move.Place name number commit in
        let here : IsMove meaning terms history m = subst (λ (n : ℕ). IsMove meaning terms history (move.Place name n commit)) (sym (last ∙ branches_are)) is in
        let after = store_of-more terms.origin history m in
        let branches : new_table ≡ record table { branches = (store_of terms.origin (history ++ m ∷ [])).branches } =
        added
        ∙ ap (λ t. record table { branches = with_branch t.branches name commit }) core.heads
        ∙ ap (λ (t : Store O R). record table { branches = t.branches }) (sym after) in
        subst (λ (l : List (Move O R)). IsCore meaning terms l new_table graph clocks values) (sym made) (core-moved meaning laws terms history table graph clocks values core m here new_table branches (ap (λ (t : Store O R). t.commits) after))

    pub drop-core : (branch : ℕ) → IsMove meaning terms history (move.Drop branch) → moves ≡ history ++ move.Drop branch ∷ []
        → new_table ≡ record table { branches = with_drop table.branches branch } → IsCore meaning terms moves new_table graph clocks values
    drop-core branch is made gone =
        let m = move.Drop branch in
        let after = store_of-more terms.origin history m in
        let branches : new_table ≡ record table { branches = (store_of terms.origin (history ++ m ∷ [])).branches } =
        gone
        ∙ ap (λ t. record table { branches = with_drop t.branches branch }) core.heads
        ∙ ap (λ (t : Store O R). record table { branches = t.branches }) (sym after) in
        subst (λ (l : List (Move O R)). IsCore meaning terms l new_table graph clocks values) (sym made) (core-moved meaning laws terms history table graph clocks values core m is new_table branches (ap (λ (t : Store O R). t.commits) after))

  -- branches that are placed, of what the table and the moves say
  module _ (name : List ℕ) (commit : ℕ) where
    named_is : branch_named table.branches name ≡ branch_named (store_of terms.origin history).branches name
    named_is = core-named meaning laws terms history table graph clocks values core name

    pub place-is_taken : (number : ℕ) → Some number ≡ branch_named table.branches name → Refuses meaning terms history (machine.Place name commit) (machine.NameTaken number)
    place-is_taken number taken = place-taken meaning terms history name commit number (sym named_is ∙ sym taken)

    module _ (free : None ≡ branch_named table.branches name) (count : ℕ) (counted : count ≡ length table.branches) where
      free_is : branch_named (store_of terms.origin history).branches name ≡ None
      free_is = sym named_is ∙ sym free

      pub place-is_full : terms.limits.branches ≤ count → Refuses meaning terms history (machine.Place name commit) (machine.FullBranches count)
      place-is_full le =
          let is : count ≡ length (store_of terms.origin history).branches = counted ∙ branches_are in
          place-refused meaning terms history name commit (machine.FullBranches count) free_is
          (fork-full_branches terms history (subst (λ (n : ℕ). terms.limits.branches ≤ n) is le) ∙ ap (λ n. Some (machine.FullBranches n)) (sym is))

      module _ (room : count < terms.limits.branches) (moves : ℕ) (is : moves ≡ length history) where
        branches_left : length (store_of terms.origin history).branches < terms.limits.branches
        branches_left = subst (λ (n : ℕ). n < terms.limits.branches) (counted ∙ branches_are) room

        pub place-is_full_moves : terms.limits.moves ≤ moves → Refuses meaning terms history (machine.Place name commit) (machine.FullMoves moves)
        place-is_full_moves le =
            place-refused meaning terms history name commit (machine.FullMoves moves) free_is
            (fork-moves terms history branches_left ∙ moves-full terms history (subst (λ (n : ℕ). terms.limits.moves ≤ n) is le) ∙ ap (λ n. Some (machine.FullMoves n)) (sym is))

        module _ (lt : moves < terms.limits.moves) where
          place_free : fork_refusal terms history ≡ None
          place_free = fork-moves terms history branches_left ∙ moves-none terms history (subst (λ (n : ℕ). n < terms.limits.moves) is lt)

          pub place-is_move : IsTrue (is_name name) → commit < length (store_of terms.origin history).commits → IsMove meaning terms history (move.Place name (length (store_of terms.origin history).branches) commit)
          place-is_move known there = IsMove-place meaning terms history name commit known there free_is place_free

          pub place-turn : (number head : ℕ) → number ≡ length (store_of terms.origin history).branches → head ≡ commit
              → turn meaning terms history (machine.Place name commit) ≡ makes (move.Place name number commit) (machine.Forked number head)
          place-turn number head last at =
              place-makes meaning terms history name commit free_is place_free
              ∙ ap (λ n. makes {O = O} {R = R} {A = A} (move.Place name n commit) (machine.Forked n commit)) (sym last)
              ∙ ap (λ h. makes {O = O} {R = R} {A = A} (move.Place name number commit) (machine.Forked number h)) (sym at)
