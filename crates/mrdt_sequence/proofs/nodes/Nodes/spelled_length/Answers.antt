use Rattle.std.proofs.Common.{◌≡◌, length, ◌∙◌, ap, arith}
use Rattle.std.specs.List.{flat_map}
use Rattle.mrdt_model.specs.Spelled.{capped}
use Rattle.branch_wire.proofs.Lists.{length-counted}
use Rattle.live_set.proofs.Sharing.{capped_lengths}
use Rattle.shared_list.specs.Trees.{weights}
use Rattle.mrdt_sequence.specs.Sequence.{node_spelling}
use Rattle.mrdt_sequence.proofs.nodes.Nodes.spelled_length.Goals as goal

pub returns : goal.returns
returns c =
    let ns = c.args.self.now in
    let all : c.weight.result ≡ capped (length (flat_map node_spelling ns)) = c.weight.ensures ∙ ap (λ ms. capped (weights (λ n. capped (length (node_spelling n))) ms)) c.self.view_is ∙ capped_lengths node_spelling ns in
    omega (arith, all, c.saturating_add.ensures, length-counted node_spelling ns)
