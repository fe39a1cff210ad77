use Rattle.std.proofs.Common.{◌≡◌, pos, ◌-ℤ◌, ◌≤ℤ◌, to_z, of_z, length, get_or, arith}
use Rattle.std.specs.Int.{w128}
use Rattle.std.proofs.lemmas.Int.{ints, to_z-of_z}
use Rattle.std.proofs.Math.Facts.{sfits_to_z}
use Rattle.shared_list.proofs.Kids.{lists_room}
use Rattle.shared_list.proofs.Sums.{amounts_take_tree, amounts_rise, count_take, rest_fits}
use Rattle.shared_list.proofs.tree.kid_of_amount.Goals as goal

pub overflow_sub-rest : goal.overflow_sub-rest
overflow_sub-rest g c =
    let up = amounts_rise g.T.Entry.amount_of c.index-kids-index.result.1 c.requires.rising in
    let high = c.if-rest-sum.false in
    let told = c.amount-sum.ensures in
    let one : to_z w128 (of_z w128 c.amount-sum.result) ≡ c.amount-sum.result = to_z-of_z w128 c.amount-sum.result (record { sfits = c.amount-sum.type_inv }) in
    let some : pos 0 ≤ℤ to_z w128 (of_z w128 c.amount-sum.result) = omega (arith, ints, up, one, told) in
    let less : to_z w128 (of_z w128 c.amount-sum.result) ≤ℤ to_z w128 c.loop-index.rest-bits = omega (arith, ints, high) in
    rest_fits (to_z w128 c.loop-index.rest-bits) (to_z w128 (of_z w128 c.amount-sum.result)) some less (sfits_to_z c.loop-index.auto.rest)

pub overflow_add-before : goal.overflow_add-before
overflow_add-before g c =
    let room = lists_room c.args.kids.now c.loop-index.index c.index-kids-index-in-loop-index.result c.loop-index-test.true in
    let is = c.index-kids-index-in-loop-index.is in
    let told : c.len-before.result ≡ length (get_or c.args.kids.now c.loop-index.index c.index-kids-index-in-loop-index.result).1 = rw (← is) c.len-before.ensures in
    record { fits = omega (arith, room, c.loop-index.invariant.2, told, c.requires.count) }

pub loop-index-preserved : goal.loop-index-preserved
loop-index-preserved g c =
    let next = amounts_take_tree g.T.Entry.amount_of c.args.kids.now c.loop-index.index c.index-kids-index.result c.loop-index-test.true c.index-kids-index.is in
    let up = amounts_rise g.T.Entry.amount_of c.index-kids-index.result.1 c.requires.rising in
    let high = c.if-rest-sum.false in
    let told = c.amount-sum.ensures in
    let one : to_z w128 (of_z w128 c.amount-sum.result) ≡ c.amount-sum.result = to_z-of_z w128 c.amount-sum.result (record { sfits = c.amount-sum.type_inv }) in
    let some : pos 0 ≤ℤ to_z w128 (of_z w128 c.amount-sum.result) = omega (arith, ints, up, one, told) in
    let less : to_z w128 (of_z w128 c.amount-sum.result) ≤ℤ to_z w128 c.loop-index.rest-bits = omega (arith, ints, high) in
    let left : to_z w128 (of_z w128 (to_z w128 c.loop-index.rest-bits -ℤ to_z w128 (of_z w128 c.amount-sum.result))) ≡ to_z w128 c.loop-index.rest-bits -ℤ to_z w128 (of_z w128 c.amount-sum.result)
    = to_z-of_z w128 (to_z w128 c.loop-index.rest-bits -ℤ to_z w128 (of_z w128 c.amount-sum.result)) (rest_fits (to_z w128 c.loop-index.rest-bits) (to_z w128 (of_z w128 c.amount-sum.result)) some less (sfits_to_z c.loop-index.auto.rest)) in
    let so_far = c.loop-index.invariant.0 in
    let more = count_take c.args.kids.now c.loop-index.index c.index-kids-index-in-loop-index.result c.loop-index-test.true c.index-kids-index-in-loop-index.is in
    let there = c.loop-index.invariant.2 in
    let here = c.len-before.ensures in
    (omega (arith, ints, so_far, left, next, told, one), omega (arith, ints, left, less), omega (arith, more, there, here))
