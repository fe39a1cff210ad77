use Rattle.std.proofs.Common.{sym, ap, ◌∙◌, arith}
use Rattle.branch_front.proofs.EachStep.{adds}
use Rattle.branch_front.proofs.front.Front.add_as.Goals as goal

pub fetch_add-requires : goal.fetch_add-requires
fetch_add-requires g c =
    let one = c.self.invariant in
    let begun = ap (λ o. o.begun) c.self.view_is in
    (c.requires.seat.0 ∙ sym (ap (λ o. o.table) c.self.view_is), omega arith, adds _ _ _ _ _ _ c.requires.writer.0 c.requires.writer.1 c.requires.entry (c.requires.key ∙ sym begun) (omega (arith, c.requires.room)))
