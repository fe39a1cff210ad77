use Rattle.std.proofs.Common.{get_or, subst}
use Rattle.std.specs.Result.{IfOk}
use Rattle.std.proofs.lemmas.Result.{IfOk-weaker}
use Rattle.shared_list.specs.Trees.{IsLeafAt, lists}
use Rattle.shared_list.proofs.Kids.{leaf_inside}
use Rattle.shared_list.proofs.tree.Tree.+leaf_at.Goals as goal

pub returns-in-Branch : goal.returns-in-Branch
returns-in-Branch g t c =
    let k = rw c.deref-in-Branch.ensures.value at c.kid_at-index.ensures in
    let one = subst (λ x. IfOk c.leaf_at.result (IsLeafAt x.1 c.kid_at-index.result.1)) c.index.ensures c.leaf_at.ensures in
    let all : IfOk c.leaf_at.result (IsLeafAt (lists c.in-Branch.kids.items) c.args.place) = IfOk-weaker c.leaf_at.result (IsLeafAt (get_or c.in-Branch.kids.items c.kid_at-index.result.0 c.index.result.now).1 c.kid_at-index.result.1) (IsLeafAt (lists c.in-Branch.kids.items) c.args.place) (λ found. leaf_inside c.in-Branch.kids.items c.kid_at-index.result.0 c.index.result.now c.kid_at-index.result.1 c.args.place found k.there k.place) one in
    rw (← c.self.view_is, ← c.deref.ensures, c.in-Branch.is) all
