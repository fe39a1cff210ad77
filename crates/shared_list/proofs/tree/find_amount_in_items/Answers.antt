use Rattle.std.proofs.Common.{◌≡◌, pos, ◌-ℤ◌, ◌≤ℤ◌, to_z, of_z, arith}
use Rattle.std.specs.Int.{w128}
use Rattle.std.proofs.lemmas.Int.{ints, to_z-of_z}
use Rattle.std.proofs.Math.Facts.{sfits_to_z}
use Rattle.shared_list.proofs.Sums.{amounts_take, rest_fits}
use Rattle.shared_list.proofs.tree.find_amount_in_items.Goals as goal

pub returns-then-rest-one : goal.returns-then-rest-one
returns-then-rest-one g c =
    let next = amounts_take g.T.Entry.amount_of c.args.items.now c.loop-index.index c.index-items-index.result c.loop-index-test.true c.index-items-index.is in
    let whole : to_z w128 (of_z w128 c.args.amount) ≡ c.args.amount = to_z-of_z w128 c.args.amount c.ranges.amount in
    let so_far = c.loop-index.invariant.0 in
    let low = c.loop-index.invariant.1 in
    let high = c.if-rest-one.true in
    let one = c.amount-one.ensures in
    record {
      there = c.loop-index-test.true;
      before = omega (arith, ints, so_far, low, whole);
      passed = omega (arith, ints, so_far, next, high, one, whole);
    }

pub loop-index-preserved : goal.loop-index-preserved
loop-index-preserved g c =
    let next = amounts_take g.T.Entry.amount_of c.args.items.now c.loop-index.index c.index-items-index.result c.loop-index-test.true c.index-items-index.is in
    let up = c.requires.rising c.index-items-index.result in
    let high = c.if-rest-one.false in
    let told = c.amount-one.ensures in
    let one : to_z w128 (of_z w128 c.amount-one.result) ≡ c.amount-one.result = to_z-of_z w128 c.amount-one.result (record { sfits = c.amount-one.type_inv }) in
    let some : pos 0 ≤ℤ to_z w128 (of_z w128 c.amount-one.result) = omega (arith, ints, up, one, told) in
    let less : to_z w128 (of_z w128 c.amount-one.result) ≤ℤ to_z w128 c.loop-index.rest-bits = omega (arith, ints, high) in
    let left : to_z w128 (of_z w128 (to_z w128 c.loop-index.rest-bits -ℤ to_z w128 (of_z w128 c.amount-one.result))) ≡ to_z w128 c.loop-index.rest-bits -ℤ to_z w128 (of_z w128 c.amount-one.result)
    = to_z-of_z w128 (to_z w128 c.loop-index.rest-bits -ℤ to_z w128 (of_z w128 c.amount-one.result)) (rest_fits (to_z w128 c.loop-index.rest-bits) (to_z w128 (of_z w128 c.amount-one.result)) some less (sfits_to_z c.loop-index.auto.rest)) in
    let so_far = c.loop-index.invariant.0 in
    (omega (arith, ints, so_far, left, next, told, one), omega (arith, ints, left, less))
