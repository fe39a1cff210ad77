use Rattle.std.proofs.Common.{length, subst}
use Rattle.std.specs.List.{flat_map}
use Rattle.mrdt_model.specs.Spelled.{AppendsPart}
use Rattle.branch_wire.specs.Fields.{number}
use Rattle.branch_wire.proofs.Parts.{part-first, on-err}
use Rattle.mrdt_sequence.specs.Sequence.{node_spelling, sequence_spelling}
use Rattle.mrdt_sequence.proofs.Walks.{put_part}
use Rattle.mrdt_sequence.proofs.nodes.Nodes.put.Goals as goal

pub returns-in_err-put_u64-clause-err : goal.returns-in_err-put_u64-clause-err
returns-in_err-put_u64-clause-err c =
    let nodes = c.args.self.now in
    let old = c.args.out.now.items in
    let part = subst (λ n. AppendsPart old c.put_u64.new.out.items (number n)) c.len.ensures c.in_err-put_u64.ensures.err in
    on-err c.from_residual.result (part-first old c.put_u64.new.out.items (number (length nodes)) (flat_map node_spelling nodes) part)

pub returns-in_err-put_node-clause-err : goal.returns-in_err-put_node-clause-err
returns-in_err-put_node-clause-err c =
    let now = c.loop-node in
    on-err c.from_residual-in_err-put_node.result
    (put_part c.args.out.now.items now.out.items c.put_node.new.out.items (sequence_spelling c.args.self.now) now.ahead c.in-Some.node.now c.next.new.self c.in-Some.ensures now.invariant c.in_err-put_node.ensures.err)
