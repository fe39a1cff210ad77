use Rattle.std.proofs.Common.{◌-◌, arith}
use Rattle.mrdt_sequence.proofs.Items.{item_within}
use Rattle.mrdt_sequence.proofs.nodes.Nodes.parent_at.Goals as goal

pub overflow_add-result : goal.overflow_add-result
overflow_add-result c =
    let within = item_within c.args.self.now (c.min-last.result - 1) c.place_of-place.result c.place_of-place.ensures in
    record { fits = omega (arith, within, c.len-nodes.ensures, c.len-nodes.type_inv) }
