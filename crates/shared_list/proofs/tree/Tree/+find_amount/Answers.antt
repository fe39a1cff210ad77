use Rattle.std.proofs.Common.{◌≡◌, to_z, of_z, get_or, take, FitsSigned, subst, ◌∙◌, arith}
use Rattle.std.specs.Int.{w128}
use Rattle.std.proofs.lemmas.Int.{ints, to_z-of_z}
use Rattle.shared_list.specs.Trees.{lists, IsReached}
use Rattle.shared_list.proofs.Sums.{amounts_rise, less_fits, reached_inside}
use Rattle.shared_list.proofs.tree.Tree.+find_amount.Goals as goal

pub returns-in-Branch : goal.returns-in-Branch
returns-in-Branch g t c =
    let k = rw c.deref-in-Branch.ensures.value at c.kid_of_amount-index.ensures in
    let asked : to_z w128 (of_z w128 c.args.amount) ≡ c.args.amount = to_z-of_z w128 c.args.amount c.ranges.amount in
    let up = amounts_rise g.T.Entry.amount_of (lists (take c.kid_of_amount-index.result.0 c.in-Branch.kids.items)) c.requires.rising in
    let sum = k.rest in
    let low = k.some in
    let fits : FitsSigned w128 c.kid_of_amount-index.result.2 = less_fits c.kid_of_amount-index.result.2 c.args.amount low (omega (arith, ints, up, sum, asked)) c.ranges.amount in
    let whole : to_z w128 (of_z w128 c.kid_of_amount-index.result.2) ≡ c.kid_of_amount-index.result.2 = to_z-of_z w128 c.kid_of_amount-index.result.2 fits in
    let one = subst (λ x. IsReached g.T.Entry.amount_of x.1 (to_z w128 (of_z w128 c.kid_of_amount-index.result.2)) c.find_amount.result) c.index.ensures c.find_amount.ensures in
    let two = subst (λ a. IsReached g.T.Entry.amount_of (get_or c.in-Branch.kids.items c.kid_of_amount-index.result.0 c.index.result.now).1 a c.find_amount.result) whole one in
    let all = reached_inside g.T.Entry.amount_of c.in-Branch.kids.items c.kid_of_amount-index.result.0 c.index.result.now c.kid_of_amount-index.result.2 c.args.amount c.kid_of_amount-index.result.1 c.find_amount.result k.there k.before (k.rest ∙ asked) two in
    rw (← c.self.view_is, ← c.deref.ensures, c.in-Branch.is) all
