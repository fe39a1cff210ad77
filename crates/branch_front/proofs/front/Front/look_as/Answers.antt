use Rattle.std.proofs.Common.{sym, ap, ◌∙◌, arith}
use Rattle.branch_front.proofs.EachStep.{writer_looks}
use Rattle.branch_front.proofs.front.Front.look_as.Goals as goal

pub load-requires : goal.load-requires
load-requires g c =
    let one = c.self.invariant in
    let is = c.self.view_is in
    (c.requires.seat.0 ∙ sym (ap (λ o. o.table) is), omega arith, writer_looks _ _ _ _ _ _ _ c.requires.writer (c.requires.key.0 ∙ sym (ap (λ o. o.begun) is)) (c.requires.key.1 ∙ sym (ap (λ o. o.parts) is)) c.requires.rise)
