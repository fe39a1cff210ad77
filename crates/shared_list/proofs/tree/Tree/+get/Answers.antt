use Rattle.shared_list.proofs.Kids.{get_inside}
use Rattle.shared_list.proofs.tree.Tree.+get.Goals as goal

pub returns-in-Branch : goal.returns-in-Branch
returns-in-Branch g t c =
    let k = rw c.deref-in-Branch.ensures.value at c.kid_at-index.ensures in
    let one = rw c.index-in-Branch.ensures at c.get.ensures in
    let all = get_inside c.in-Branch.kids.items c.kid_at-index.result.0 c.index-in-Branch.result.now c.kid_at-index.result.1 c.args.place c.get.result.now k.there k.place one in
    rw (← c.self.view_is, ← c.deref.ensures, c.in-Branch.is) all
