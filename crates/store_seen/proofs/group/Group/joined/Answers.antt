-- The value stands for what the head or one of the commits sees.
use Rattle.std.proofs.Common.{◌<◌, ◌≤◌, ◌∷◌, ap, sym, ◌∙◌, subst, All}
use Rattle.std.specs.Prelude.{Contains}
use Rattle.branch_history.specs.Commits.{greatest_clock}
use Rattle.branch_history.specs.History.{store_of}
use Rattle.store_seen.specs.Groups.{look_of}
use Rattle.store_seen.specs.Keeps.{IsReadyJoin, IsSpelledValue}
use Rattle.store_seen.proofs.Groups.{join-given, join-too_large, join-ready}
use Rattle.store_seen.proofs.group.Group.joined.Goals as goal

pub returns-then-length-seen-clause-refused : goal.returns-then-length-seen-clause-refused
returns-then-length-seen-clause-refused g c =
    let laws = (g.met.T.Mrdt g.world.𝓛 g.world.𝓜 g.world.𝓡 ((λ s x. x), (λ x. x), (λ x. x), λ x. x)).laws in
    let m = g.T.Mrdt.meaning in
    let head = c.head-head.ensures in
    let size = c.in_ok-spelled.ensures.size_is in
    let large = subst (λ t. t.limits.value < c.in_ok-spelled.spelled.size) (ap (λ v. v.terms) c.seen.view_is ∙ ap (λ v. v.terms) c.self.view_is) c.if-length-seen.true in
    join-too_large m laws c.args.self.now head.seen head.there c.args.brought.items c.requires.brought c.requires.several c.args.value c.requires.value c.in_ok-spelled.spelled.size size large

pub greatest_clock-clock-requires-after_bounds : goal.greatest_clock-clock-requires-after_bounds
greatest_clock-clock-requires-after_bounds g c κs within =
    let laws = (g.met.T.Mrdt g.world.𝓛 g.world.𝓜 g.world.𝓡 ((λ s x. x), (λ x. x), (λ x. x), λ x. x)).laws in
    let head = c.head-head.ensures in
    subst (λ l. All (Contains c.args.self.now.others) l) (sym c.deref.ensures.value) (join-given g.T.Mrdt.meaning laws c.args.self.now head.seen head.there c.args.brought.items c.requires.brought c.requires.several)

pub returns-clause-ready : goal.returns-clause-ready
returns-clause-ready g c =
    let laws = (g.met.T.Mrdt g.world.𝓛 g.world.𝓜 g.world.𝓡 ((λ s x. x), (λ x. x), (λ x. x), λ x. x)).laws in
    let m = g.T.Mrdt.meaning in
    let now = c.args.self.now in
    let head = c.head-head.ensures in
    let clock = c.greatest_clock-clock.result in
    let size = c.in_ok-spelled.ensures.size_is in
    let fits = subst (λ t. c.in_ok-spelled.spelled.size ≤ t.limits.value) (ap (λ v. v.terms) c.seen.view_is ∙ ap (λ v. v.terms) c.self.view_is) c.if-length-seen.false in
    let timed = c.greatest_clock-clock.ensures ∙ ap (λ l. greatest_clock (store_of now.terms.origin now.history).commits (now.head ∷ l)) c.deref.ensures.value in
    let ready = join-ready m laws now head.seen head.there c.args.brought.items c.requires.brought c.requires.several c.args.value c.requires.value head.few clock c.in_ok-spelled.spelled.size timed size fits in
    (c.from_vec.ensures, subst (λ l. IsReadyJoin m (look_of now) l clock c.args.value) (sym c.from_vec.ensures) ready, subst (λ t. IsSpelledValue m t.layout c.args.value c.in_ok-spelled.spelled) (ap (λ v. v.terms) c.seen.view_is ∙ ap (λ v. v.terms) c.self.view_is) c.in_ok-spelled.ensures)
