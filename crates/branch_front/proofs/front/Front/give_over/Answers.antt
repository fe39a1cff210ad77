use Rattle.std.proofs.Common.{sym, ap, ◌∙◌, arith}
use Rattle.branch_front.proofs.EachStep.{gives_over}
use Rattle.branch_front.proofs.front.Front.give_over.Goals as goal

pub split_seat-requires : goal.split_seat-requires
split_seat-requires g c =
    let one = c.self.invariant in
    (c.requires.seat.0 ∙ sym (ap (λ o. o.table) c.self.view_is), omega arith, gives_over _ _ _ c.requires.writer)
