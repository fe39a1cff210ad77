use Rattle.std.proofs.Common.{◌<◌, sym, ap, ◌∙◌, subst, arith}
use Rattle.branch_front.proofs.EachStep.{splits_off}
use Rattle.branch_front.proofs.front.Front.split_off_as.Goals as goal

pub split_seat-requires : goal.split_seat-requires
split_seat-requires g c =
    let one = c.self.invariant in
    (c.requires.seat.0 ∙ sym (ap (λ o. o.table) c.self.view_is), omega arith, splits_off _ _ _ _ c.requires.caller (subst (λ n. n < c.args.seat.now.me.0.parts) (sym c.requires.told) c.requires.parts))
