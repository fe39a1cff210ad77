use Rattle.std.proofs.Common.{◌∙◌, ◌<◌, ◌++◌, [], ap, sym, arith, length, append_assoc}
use Rattle.std.specs.List.{flat_map}
use Rattle.std.proofs.lemmas.Bool.{both_ways}
use Rattle.std.proofs.lemmas.Result.{err_from_is_err_and}
use Rattle.mrdt_model.specs.declared.errors.Unread.TheVariants as unread
use Rattle.branch_wire.specs.Fields.{number}
use Rattle.live_set.proofs.Reading.{passed-on}
use Rattle.mrdt_sequence.specs.Order.{nearest_earlier}
use Rattle.mrdt_sequence.specs.Sequence.{node_spelling}
use Rattle.mrdt_sequence.proofs.NodesRead.{node_way, before_last, taken-next, taken-more}
use Rattle.mrdt_sequence.proofs.reading.take_nodes.Goals as goal

pub returns-in_err-node-clause-outside : goal.returns-in_err-node-clause-outside
returns-in_err-node-clause-outside c error nodes rest inside is =
    let flat = flat_map node_spelling nodes in
    let found = c.in_ok-count.ensures.back (length nodes) (flat ++ rest) inside.few (is ∙ append_assoc (number (length nodes)) flat rest) in
    let many = found.0 in
    let few : c.loop-index._index < length nodes = omega (arith, many) in
    let next = taken-next c.take_u64.new.self c.loop-index.cursor rest c.loop-index._index c.loop-index.nodes.items nodes c.loop-index.path.items c.loop-index.invariant few inside found.1 in
    let p = err_from_is_err_and c.from_residual-in_err-node.result c.from_residual-in_err-node.ensures.1 in
    let own = passed-on c.from_residual-in_err-node.result c.in_err-node.field-0.0 p.0 unread.NotCanonical p.1 p.2 error in
    c.in_err-node.ensures.outside own next.0 next.1 next.2 next.4

pub returns-then-not-is_same_parent-clause-outside : goal.returns-then-not-is_same_parent-clause-outside
returns-then-not-is_same_parent-clause-outside c error nodes rest inside is =
    let flat = flat_map node_spelling nodes in
    let found = c.in_ok-count.ensures.back (length nodes) (flat ++ rest) inside.few (is ∙ append_assoc (number (length nodes)) flat rest) in
    let many = found.0 in
    let few : c.loop-index._index < length nodes = omega (arith, many) in
    let ns = c.loop-index.nodes.items in
    let node = c.in_ok-node.node in
    let next = taken-next c.take_u64.new.self c.loop-index.cursor rest c.loop-index._index ns nodes c.loop-index.path.items c.loop-index.invariant few inside found.1 in
    let same = (node_way.one node next.0 c.take_node.new.cursor next.1 c.in_ok-node.ensures.known next.2 (sym c.in_ok-node.ensures.ok ∙ next.4)).0 in
    let nearest = (c.in_ok-nearest.ensures (before_last ns []) c.loop-index.invariant.sight).0 in
    let equal = nearest ∙ ap (λ n. nearest_earlier n.time (before_last ns [])) same ∙ sym next.3 ∙ ap (λ n. n.parent) (sym same) in
    both_ways c.is_same_parent.result c.if-not-is_same_parent.true (c.is_same_parent.ensures.same.1 equal)

pub loop-index-preserved : goal.loop-index-preserved
loop-index-preserved c =
    let ns = c.loop-index.nodes.items in
    let node = c.in_ok-node.node in
    let seen = c.in_ok-nearest.ensures (before_last ns []) c.loop-index.invariant.sight in
    let parent = sym (c.is_same_parent.ensures.same.0 c.if-not-is_same_parent.false) ∙ seen.0 in
    taken-more c.take_u64.new.self c.loop-index.cursor c.take_node.new.cursor c.loop-index._index ns c.add.new.nodes.items node c.loop-index.path.items c.follow.new.path.items c.loop-index.invariant c.in_ok-node.ensures.known c.in_ok-node.ensures.ok parent c.in_ok-add.ensures seen.1
