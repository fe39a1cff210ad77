use Rattle.std.proofs.Common.{subst}
use Rattle.shared_list.specs.Trees.{IsPassed}
use Rattle.shared_list.proofs.Kids.{passed_inside}
use Rattle.shared_list.proofs.tree.Tree.+find_weight.Goals as goal

pub returns-in-Branch : goal.returns-in-Branch
returns-in-Branch g t c =
    let k = rw c.deref-in-Branch.ensures.value at c.kid_of_weight-index.ensures in
    let one = subst (λ x. IsPassed g.T.Entry.weight_of x.1 c.kid_of_weight-index.result.2 c.find_weight.result) c.index.ensures c.find_weight.ensures in
    let all = passed_inside g.T.Entry.weight_of c.in-Branch.kids.items c.kid_of_weight-index.result.0 c.index.result.now c.kid_of_weight-index.result.2 c.args.weight c.kid_of_weight-index.result.1 c.find_weight.result k.there k.before k.rest one in
    rw (← c.self.view_is, ← c.deref.ensures, c.in-Branch.is) all
