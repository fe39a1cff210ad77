use Rattle.std.proofs.Common.{subst}
use Rattle.shared_list.specs.Trees.{IsRun}
use Rattle.shared_list.proofs.Kids.{run_inside}
use Rattle.shared_list.proofs.tree.Tree.+items_from.Goals as goal

pub returns-in-Branch : goal.returns-in-Branch
returns-in-Branch g t c =
    let k = rw c.deref-in-Branch.ensures.value at c.kid_at-index.ensures in
    let one = subst (λ x. IsRun x.1 c.kid_at-index.result.1 c.items_from.result.now) c.index.ensures c.items_from.ensures in
    let all = run_inside c.in-Branch.kids.items c.kid_at-index.result.0 c.index.result.now c.kid_at-index.result.1 c.args.place c.items_from.result.now k.there k.place one in
    rw (← c.self.view_is, ← c.deref.ensures, c.in-Branch.is) all
