-- The folds that are kept of nodes.
use Rattle.std.proofs.Common.{◌≡◌, ℕ, List, [], ◌∷◌, length, arith, subst, sym, length-append, Option, None, Some}
use Rattle.mrdt_model.specs.Laws.{Meaning}
use Rattle.virtual_base.specs.Memos.{MemoView, KeepsMemos}
use Rattle.virtual_base.specs.Nodes.{NodesView, with_node}
use Rattle.store_seen.specs.Nodes.{AreFoldsOf}

module _ {S O R Q A : Type 0} (meaning : Meaning S O R Q A) (old : NodesView S) where
  -- of the same nodes
  pub folds-same : (new : NodesView S) (folds : Option (MemoView S)) → new ≡ old → AreFoldsOf meaning old folds → AreFoldsOf meaning new folds
  folds-same new folds same are = subst (λ (n : NodesView S). AreFoldsOf meaning n folds) (sym same) are

  -- of nodes with one commit more
  pub folds-grown : KeepsMemos meaning → length old.values ≡ length old.graph.commits → (parents : List ℕ) (value : S) (address : List ℕ) (folds : Option (MemoView S)) → AreFoldsOf meaning old folds → AreFoldsOf meaning (with_node old parents value address) folds
  folds-grown keeps valued parents value address None are = tt
  folds-grown keeps valued parents value address (Some memo) are =
      let some = are.0 in
      let size = length-append old.graph.commits (parents ∷ []) in
      (omega (arith, some, size), keeps old parents value address are.0 valued memo are.1)
