use Rattle.std.proofs.Common.{sym, subst}
use Rattle.mrdt_model.specs.Laws.{Applies}
use Rattle.mrdt_both.proofs.Products.{applies-first, applies-second}
use Rattle.mrdt_both.proofs.both.BothMrdt.apply.Goals as goal

pub returns-in_ok-second-in-First-clause-applies : goal.returns-in_ok-second-in-First-clause-applies
returns-in_ok-second-in-First-clause-applies g c =
    let m = g.A.Mrdt.meaning in
    let value = c.in_ok-value-in-First in
    let made = c.in_ok-first-in-First in
    let kept = c.in_ok-second-in-First in
    let op = c.in-First.op in
    let applies =
    subst (λ v. Applies m c.self.inside.first op c.args.time v value.reply) (sym made.ensures) (subst (λ v. Applies m v op c.args.time value.value value.reply) c.get.ensures value.ensures.applies) in
    rw (← c.self.view_is, c.in-First.is) (applies-first m g.B.Mrdt.meaning (c.self.inside.first, c.self.inside.second) op c.args.time made.first kept.second value.reply applies kept.ensures.stands)

pub returns-in_ok-first-in-Second-clause-applies : goal.returns-in_ok-first-in-Second-clause-applies
returns-in_ok-first-in-Second-clause-applies g c =
    let n = g.B.Mrdt.meaning in
    let value = c.in_ok-value-in-Second in
    let made = c.in_ok-second-in-Second in
    let kept = c.in_ok-first-in-Second in
    let op = c.in-Second.op in
    let applies =
    subst (λ v. Applies n c.self.inside.second op c.args.time v value.reply) (sym made.ensures) (subst (λ v. Applies n v op c.args.time value.value value.reply) c.get-in-Second.ensures value.ensures.applies) in
    rw (← c.self.view_is, c.in-Second.is) (applies-second g.A.Mrdt.meaning n (c.self.inside.first, c.self.inside.second) op c.args.time kept.first made.second value.reply applies kept.ensures.stands)
