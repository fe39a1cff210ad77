-- Items, one after another, have one list of answers at most.
use Rattle.std.proofs.Common.{◌≡◌, ◌⊎◌, inl, inr, List, [], ◌∷◌, ◌++◌, ap, sym, ◌∙◌, subst}
use Rattle.std.specs.List.{AllByRecursion}
use Rattle.mrdt_model.specs.Laws.{KeepsLaws}
use Rattle.branch_wire.specs.Reading.{HasLength64}
use Rattle.branch_history.specs.declared.moves.Move.{Move}
use Rattle.branch_history.specs.Steps.{Turn}
use Rattle.branch_machine.specs.Fixed.{Fixed}
use Rattle.branch_machine.specs.Objects.{Pair}
use Rattle.branch_machine.specs.Laws.{HasSize}
use Rattle.branch_machine.specs.Validity.{IsFullyValid}
use Rattle.branch_machine.proofs.Items.{answered-once}
use Rattle.branch_bundle_laws.specs.Receiving.{IsTaken, ReceivesAll}
use Rattle.branch_bundle_laws.proofs.Turns.{received-as}
use Rattle.branch_bundle_laws.proofs.Folds.{turn-grown}

module _ {S O R Q A : Type 0} (fixed : Fixed S O R Q A) (laws : KeepsLaws fixed.meaning) (size : HasSize fixed.address) where
  pub one-fold : (moves : List (Move O R)) → IsFullyValid fixed moves → (items : List Pair) → AllByRecursion (λ item. HasLength64 item.commit) items → (ts us : List (Turn O R A)) → ReceivesAll fixed moves items ts → ReceivesAll fixed moves items us → ts ≡ us
  one-fold moves valid [] short ts us p q = p ∙ sym q
  one-fold moves valid (item ∷ items) short [] us p q = absurd p
  one-fold moves valid (item ∷ items) short (t ∷ ts) [] p q = absurd q
  one-fold moves valid (item ∷ items) short (t ∷ ts) (u ∷ us) (first, rest) (other, others) = both (λ now. one-fold (moves ++ t.made) now items short.1 ts us) rest others
    where
      same : t ≡ u
      same = answered-once fixed laws size moves valid item short.0 t u first other

      next : IsFullyValid fixed (moves ++ t.made)
      next = (turn-grown fixed moves item t valid (received-as fixed moves item t first)).valid

      carried : ReceivesAll fixed (moves ++ u.made) items us → ReceivesAll fixed (moves ++ t.made) items us
      carried = subst (λ (v : Turn O R A). ReceivesAll fixed (moves ++ v.made) items us) (sym same)

      joined : ts ≡ us → t ∷ ts ≡ u ∷ us
      joined is = ap (λ (v : Turn O R A). v ∷ ts) same ∙ ap (λ (l : List (Turn O R A)). u ∷ l) is

      both : (IsFullyValid fixed (moves ++ t.made) → ReceivesAll fixed (moves ++ t.made) items ts → ReceivesAll fixed (moves ++ t.made) items us → ts ≡ us) → (IsTaken t × ReceivesAll fixed (moves ++ t.made) items ts) ⊎ (¬ IsTaken t × (ts ≡ [])) → (IsTaken u × ReceivesAll fixed (moves ++ u.made) items us) ⊎ (¬ IsTaken u × (us ≡ [])) → t ∷ ts ≡ u ∷ us
      both fold (inl (taken, behind)) (inl (also, more)) = joined (fold next behind (carried more))
      both fold (inl (taken, behind)) (inr (refused, none)) = absurd (refused (subst IsTaken same taken))
      both fold (inr (refused, none)) (inl (also, more)) = absurd (refused (subst IsTaken (sym same) also))
      both fold (inr (refused, none)) (inr (also, nothing)) = joined (none ∙ sym nothing)
