use Rattle.std.proofs.Common.{sym, ap, ◌∙◌, arith}
use Rattle.branch_front.proofs.EachStep.{into_writer}
use Rattle.branch_front.proofs.front.Front.take_in.Goals as goal

pub join_seat-requires : goal.join_seat-requires
join_seat-requires g c =
    let one = c.self.invariant in
    let table = ap (λ o. o.table) c.self.view_is in
    (c.requires.seats.0.0 ∙ sym table, c.requires.seats.1.0 ∙ sym table, c.requires.seats.1.1, omega arith, into_writer _ _ _ _ _ c.requires.roles.0 c.requires.roles.1)
