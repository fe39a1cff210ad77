use Rattle.std.proofs.Common.{◌≡◌, ◌+ℤ◌, ◌∙◌, refl, arith}
use Rattle.std.proofs.lemmas.Int.{ints, int_wrap_fits, to_z-of_z}
use Rattle.std.specs.Int.{int_wrap, w64, w128}
use Rattle.mrdt_counter.specs.Sum.{total, amount}
use Rattle.mrdt_counter.proofs.Totals.{next-within}
use Rattle.mrdt_counter.proofs.sum.SumMrdt.apply.Goals as goal

pub returns-clause-applies : goal.returns-clause-applies
returns-clause-applies c x lawful is after =
    let op = c.args.op.now in
    let known = c.amount.ensures.known in
    let e : c.added.result ≡ int_wrap w128 (total x +ℤ amount op) = rw (c.amount.ensures.value, to_z-of_z w64 (amount op) known, is) at c.added.ensures in
    let swap : total x +ℤ amount op ≡ amount op +ℤ total x = omega (arith, ints) in
    (refl, e ∙ int_wrap_fits w128 _ (next-within x op lawful known) ∙ swap)
