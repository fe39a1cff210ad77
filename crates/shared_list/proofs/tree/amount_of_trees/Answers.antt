use Rattle.std.proofs.Common.{arith, to_z}
use Rattle.std.specs.Int.{w128}
use Rattle.std.proofs.lemmas.Int.{ints}
use Rattle.shared_list.proofs.Sums.{amounts_next_tree}
use Rattle.shared_list.proofs.tree.amount_of_trees.Goals as goal

pub loop-kid-preserved : goal.loop-kid-preserved
loop-kid-preserved g c =
    let old = to_z w128 c.loop-kid.amount-bits in
    let next = amounts_next_tree g.T.Entry.amount_of c.args.kids.now c.loop-kid.kid-index c.kid-item.result old c.loop-kid-test.true c.kid-item.is c.loop-kid.invariant in
    let fits = c.in-Some.ensures.0 in
    let sum = c.in-Some.ensures.1 in
    omega (arith, ints, next, fits, sum, c.amount.ensures)
