use Rattle.std.proofs.Common.{◌≡◌, ◌<◌, ◌^◌, pos, length, to_z, of_z, sym, subst, ap, ◌∙◌, arith, Fits, w64}
use Rattle.std.specs.Int.{w128}
use Rattle.std.proofs.lemmas.Int.{to_z-of_z}
use lib.Dec.{T}
use lib.Signed.{non_neg}
use lib.IntN.{nat_abs}
use Rattle.shared_list.specs.Trees.{amounts}
use Rattle.mrdt_sequence.specs.Places.{living}
use Rattle.mrdt_sequence.specs.Sequence.{items_of}
use Rattle.mrdt_sequence.proofs.Items.{living_sum, items_few}
use Rattle.mrdt_sequence.proofs.nodes.Nodes.count.Goals as goal

pub overflow_cast-result : goal.overflow_cast-result
overflow_cast-result c =
    let ns = c.args.self.now in
    let told : c.amount.result ≡ pos (length (items_of ns)) = c.amount.ensures ∙ ap (amounts living) c.self.view_is ∙ living_sum ns in
    let whole : to_z w128 (of_z w128 c.amount.result) ≡ pos (length (items_of ns)) = to_z-of_z w128 c.amount.result (record { sfits = c.amount.type_inv }) ∙ told in
    let size = ap length c.self.view_is in
    let few : length (items_of ns) < 2 ^ 64 = omega (arith, items_few ns, c.len-count.ensures, c.len-count.type_inv, size) in
    subst (λ z. T (non_neg z) × Fits w64 (nat_abs z)) (sym whole) (tt, record { fits = few })

pub returns : goal.returns
returns c =
    let ns = c.args.self.now in
    let told : c.amount.result ≡ pos (length (items_of ns)) = c.amount.ensures ∙ ap (amounts living) c.self.view_is ∙ living_sum ns in
    ap nat_abs (to_z-of_z w128 c.amount.result (record { sfits = c.amount.type_inv }) ∙ told)
