use Rattle.std.proofs.Common.{◌≡◌, Some, drop, slice_get, ◌∙◌, ap}
use Rattle.mrdt_sequence.specs.Sequence.{items_of, first_time}
use Rattle.mrdt_sequence.proofs.Items.{first_item}
use Rattle.mrdt_sequence.proofs.nodes.Nodes.deleted.Goals as goal

pub returns-clause-first : goal.returns-clause-first
returns-clause-first c =
    let ns = c.args.self.now in
    let there : slice_get ns c.place_of-place.result ≡ Some c.get-node.result.now = rw (← c.self.view_is) c.get-node.ensures in
    first_item ns c.from-2.result c.place_of-place.result c.place_of-place.ensures c.get-node.result.now there ∙ ap (λ i. first_time (drop i (items_of ns))) c.from-2.ensures
