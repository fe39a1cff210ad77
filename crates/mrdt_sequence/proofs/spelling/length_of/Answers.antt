use Rattle.std.proofs.Common.{◌++◌, arith, length-append}
use Rattle.branch_wire.specs.Fields.{time_field, field}
use Rattle.branch_wire.proofs.Numbers.{length-time_field}
use Rattle.mrdt_sequence.specs.Sequence.{named_time, hidden_field}
use Rattle.mrdt_sequence.proofs.spelling.length_of.Goals as goal

pub returns : goal.returns
returns c =
    let n = c.args.node.now in
    let a = length-append (time_field n.time) (named_time n.parent ++ (hidden_field n.hidden ++ field n.payload)) in
    let b = length-append (named_time n.parent) (hidden_field n.hidden ++ field n.payload) in
    let d = length-append (hidden_field n.hidden) (field n.payload) in
    omega (arith, a, b, d, length-time_field n.time, c.spelled_length.ensures, c.saturating_add.ensures, c.named_length-named.ensures.value)
