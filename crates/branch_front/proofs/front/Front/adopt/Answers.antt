use Rattle.std.proofs.Common.{ℕ, ◌+◌, ◌<◌, ◌++◌, length, sym, ap, ◌∙◌, subst, arith}
use Rattle.std.specs.List.{AllByRecursion}
use Rattle.branch_front.specs.declared.seat_view.SeatView.{SeatView}
use Rattle.branch_front.specs.Lists.{AreDistinct}
use Rattle.branch_front.proofs.Claims.{apart-sum, times-adopted}
use Rattle.branch_front.proofs.EachStep.{into_owner, caller_looks}
use Rattle.branch_front.proofs.front.Front.adopt.Goals as goal

pub join_seat-requires : goal.join_seat-requires
join_seat-requires g c =
    let one = c.self.invariant in
    let table = ap (λ o. o.table) c.self.view_is in
    (c.requires.seats.0.0 ∙ sym table, c.requires.seats.1.0 ∙ sym table, c.requires.seats.1.1, omega arith, into_owner _ _ _ _ _ c.requires.roles.0 c.requires.roles.1 (subst (λ (first : ℕ). AllByRecursion (λ n. first + length c.args.seat.now.me.0.moves < n) c.args.other.me.0.mine) (sym (ap (λ o. o.begun) c.self.view_is)) c.requires.behind))

pub load-requires : goal.load-requires
load-requires g c =
    let one = c.self.invariant in
    (c.join_seat.ensures.0 ∙ (c.requires.seats.0.0 ∙ sym (ap (λ o. o.table) c.self.view_is)), omega arith, caller_looks _ _ _ _)

pub returns-clause-apart : goal.returns-clause-apart
returns-clause-apart g c =
    let v = c.args.seat.now.me.0 in
    let w = c.args.other.me.0 in
    let once : AreDistinct _ = subst (λ (u : SeatView _). AreDistinct (u.mine ++ u.others)) (ap (λ m. m.0) c.join_seat.ensures.2) c.load.ensures.2.1.claims in
    apart-sum (v.mine ++ v.others) (w.mine ++ w.others) (λ n. let all = once n in let sum = times-adopted n v.mine v.others w.mine w.others in omega arith)
