-- The fork waits; then the history has it, or the files may have it.
use Rattle.std.proofs.Common.{sym, ◌∙◌, ap}
use Rattle.branch_disk.specs.Moments.{now_too}
use Rattle.branch_history.specs.declared.moves.Move.{Move}
use Rattle.store_core.specs.Views.{StoreView}
use Rattle.store_core.proofs.Landings.{waits_so, moves_so, made_so, leaves_so, moments_so, valid_so, exactly_so, torn_so}
use Rattle.store_core.proofs.store.Core.fork.Goals as goal

pub put-requires-clause-waits : goal.put-requires-clause-waits
put-requires-clause-waits g c = λ _ _. waits_so g.T.Mrdt.meaning g.A.Address.address c.self.inside.recorded _ _ _ _ _ _ c.in_ok-made.ensures.forked.1

pub returns-clause-forked : goal.returns-clause-forked
returns-clause-forked g c =
    let forked = c.in_ok-made.ensures.forked in (
      forked.0,
      moves_so g.T.Mrdt.meaning g.A.Address.address c.self.inside.recorded _ _ _ _ _ _ forked.1 _ _ _ _ c.self.view_is
          c.if-self.false _ c.in-Ok.ensures.settled c.in-Ok.ensures.few _ _ c.in-Ok.ensures.whole,
    )

pub returns-in_default-clause-fault_leaves : goal.returns-in_default-clause-fault_leaves
returns-in_default-clause-fault_leaves g c = λ fault f image.
    let d = g.D.Disk in let laws = g.met.D.Disk in
    leaves_so g.T.Mrdt.meaning g.A.Address.address c.self.inside.recorded _ _ _ _ _ _ c.in_ok-made.ensures.forked.1 _ _ _ _ c.self.view_is
    f (now_too d.moment d.left_since d.may_leave laws.counts_now _ _ _ c.put.ensures.any_moment f image)

pub returns-in_default-clause-refused : goal.returns-in_default-clause-refused
returns-in_default-clause-refused g c = (
  sym (ap (λ (v : StoreView (Move g.row.T-Op.Denot g.row.T-Reply.Denot) g.row.D.Denot). v.failed) c.self.view_is) ∙ c.if-self.false,
  (_, made_so g.T.Mrdt.meaning g.A.Address.address c.self.inside.recorded _ _ _ _ _ _ c.in_ok-made.ensures.forked.1 _ _ _ _ c.self.view_is),
)

pub returns-in_default-clause-fault_valid : goal.returns-in_default-clause-fault_valid
returns-in_default-clause-fault_valid g c = λ fault.
    valid_so g.T.Mrdt.meaning g.A.Address.address c.self.inside.recorded _ _ _ _ _ _ c.in_ok-made.ensures.forked.1 _ _ _ _ c.self.view_is c.put.ensures.valid

pub returns-clause-exact : goal.returns-clause-exact
returns-clause-exact g c =
    exactly_so g.T.Mrdt.meaning g.A.Address.address c.self.inside.recorded _ _ _ _ _ _ c.in_ok-made.ensures.forked.1 _ _ _ _ c.self.view_is
    g.D.Disk.contents _ _ c.in-Ok.ensures.settled c.in-Ok.ensures.exact

pub returns-in_default-clause-torn : goal.returns-in_default-clause-torn
returns-in_default-clause-torn g c = λ fault.
    torn_so g.T.Mrdt.meaning g.A.Address.address c.self.inside.recorded _ _ _ _ _ _ c.in_ok-made.ensures.forked.1 _ _ _ _ c.self.view_is g.D.Disk.contents _ c.put.ensures.torn

pub returns-in_default-clause-any_moment : goal.returns-in_default-clause-any_moment
returns-in_default-clause-any_moment g c = λ worked.
    let d = g.D.Disk in
    moments_so g.T.Mrdt.meaning g.A.Address.address c.self.inside.recorded _ _ _ _ _ _ c.in_ok-made.ensures.forked.1 _ _ _ _ c.self.view_is d.moment d.left_since _ c.put.ensures.any_moment

pub returns-clause-any_moment : goal.returns-clause-any_moment
returns-clause-any_moment g c = λ worked.
    let d = g.D.Disk in
    moments_so g.T.Mrdt.meaning g.A.Address.address c.self.inside.recorded _ _ _ _ _ _ c.in_ok-made.ensures.forked.1 _ _ _ _ c.self.view_is d.moment d.left_since _ c.put.ensures.any_moment
