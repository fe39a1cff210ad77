-- One more of the last ones is taken off.
use Rattle.std.proofs.Common.{◌-◌, length, ap, arith}
use Rattle.std.proofs.lemmas.List.{length-take-le}
use Rattle.store_seen.proofs.shared.cut.Goals as goal

pub pop-requires-after_bounds : goal.pop-requires-after_bounds
pop-requires-after_bounds g c κs within =
    let old = c.args.nodes.now.graph.commits in
    let is = ap (λ n. length n.graph.commits) c.loop-popped.invariant in
    let size = length-take-le (length old - c.loop-popped._popped) old (omega arith) in
    omega arith
