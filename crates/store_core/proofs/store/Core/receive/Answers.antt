-- The commit is here, or waits; then the history has it, or the files may have it.
use Rattle.std.proofs.Common.{◌++◌, length, ap, ◌∙◌, append-nil}
use Rattle.branch_bundle.specs.Held.{pair_of}
use Rattle.branch_machine.specs.Fixed.{fix}
use Rattle.store_core.proofs.Branchings.{makes_so}
use Rattle.store_core.proofs.Answered.{put_made, put_fault}
use Rattle.store_core.proofs.Landings.{waits_so}
use Rattle.store_core.proofs.Arrivals.{stepped, of_bytes, turn_at, by_step, item_failed, item_refused_at}
use Rattle.store_core.proofs.store.Core.receive.Goals as goal

pub put-requires-clause-waits : goal.put-requires-clause-waits
put-requires-clause-waits g c = λ _ _.
    let meaning = g.T.Mrdt.meaning in
    let address = g.A.Address.address in
    let r = c.self.inside.recorded in
    let item = pair_of c.args.item.now in
    let is = of_bytes (fix meaning r.terms address) r _ _ _ _ item.value item.commit c.as_slice-value.ensures.bytes c.as_slice-commit.ensures.bytes (rw c.in-Ok-New.field-0-is at c.in-Ok-New.ensures.receives) in
    let recorded = rw c.in-Ok-New.field-0-is at c.in-Ok-New.ensures.recorded in
    let s = stepped (fix meaning r.terms address) item r _ _ _ is in
    waits_so meaning address r _ s.step _ _ _ _ (makes_so meaning address r _ s.step _ _ _ c.self.invariant.settled s.steps recorded)

pub returns-then-self-clause-takes : goal.returns-then-self-clause-takes
returns-then-self-clause-takes g c =
    let r = c.self.inside.recorded in
    let counted = c.moves-moves.ensures.moves ∙ ap (λ ms. length (r.written ++ ms)) c.self.invariant.settled ∙ ap length (append-nil r.written) in
    item_failed g.D.Disk g.T.Mrdt.meaning g.A.Address.address (pair_of c.args.item.now) c.args.self.now r r _ _ _ c.self.view_is g.met.D.Disk.only_now c.self.invariant.stands
    c.self.invariant.settled _ c.if-self.true counted

pub returns-in-Err-clause-takes : goal.returns-in-Err-clause-takes
returns-in-Err-clause-takes g c =
    let meaning = g.T.Mrdt.meaning in
    let address = g.A.Address.address in
    let r = c.self.inside.recorded in
    let item = pair_of c.args.item.now in
    let is = of_bytes (fix meaning r.terms address) r _ _ _ _ item.value item.commit c.as_slice-value.ensures.bytes c.as_slice-commit.ensures.bytes c.in-Err.ensures.receives in
    item_refused_at g.D.Disk meaning address item c.args.self.now r _ _ _ _ c.self.view_is g.met.D.Disk.only_now c.self.invariant.stands c.self.invariant.settled c.if-self.false
    c.args.item.now.number _ c.in-Err.refused c.refused_at.ensures is

pub returns-in_default-clause-takes : goal.returns-in_default-clause-takes
returns-in_default-clause-takes g c =
    let meaning = g.T.Mrdt.meaning in
    let address = g.A.Address.address in
    let r = c.self.inside.recorded in
    let item = pair_of c.args.item.now in
    let is = of_bytes (fix meaning r.terms address) r _ _ _ _ item.value item.commit c.as_slice-value.ensures.bytes c.as_slice-commit.ensures.bytes (rw c.in-Ok-New.field-0-is at c.in-Ok-New.ensures.receives) in
    let recorded = rw c.in-Ok-New.field-0-is at c.in-Ok-New.ensures.recorded in
    let s = stepped (fix meaning r.terms address) item r _ _ _ is in
    let made = makes_so meaning address r _ s.step _ _ _ c.self.invariant.settled s.steps recorded in
    by_step g.D.Disk meaning address item c.args.self.now _ _ s.step (turn_at g.D.Disk meaning address item c.args.self.now r _ _ _ _ _ _ c.self.view_is s)
    (put_fault g.D.Disk meaning address s.step c.args.self.now _ _ _ _ _ _ _ made _ _ _ _ _ c.self.view_is c.if-self.false c.put.ensures.any_moment
    g.met.D.Disk.counts_now c.in_default.ensures.undone c.in_default.ensures.fails c.put.ensures.valid c.put.ensures.torn c.put.ensures.cause.later c.in_default.ensures.cause.failed)

pub returns-clause-takes : goal.returns-clause-takes
returns-clause-takes g c =
    let meaning = g.T.Mrdt.meaning in
    let address = g.A.Address.address in
    let r = c.self.inside.recorded in
    let item = pair_of c.args.item.now in
    let is = of_bytes (fix meaning r.terms address) r _ _ _ _ item.value item.commit c.as_slice-value.ensures.bytes c.as_slice-commit.ensures.bytes (rw c.in-Ok-New.field-0-is at c.in-Ok-New.ensures.receives) in
    let recorded = rw c.in-Ok-New.field-0-is at c.in-Ok-New.ensures.recorded in
    let s = stepped (fix meaning r.terms address) item r _ _ _ is in
    let made = makes_so meaning address r _ s.step _ _ _ c.self.invariant.settled s.steps recorded in
    by_step g.D.Disk meaning address item c.args.self.now _ _ s.step (turn_at g.D.Disk meaning address item c.args.self.now r _ _ _ _ _ _ c.self.view_is s)
    (put_made g.D.Disk meaning address s.step c.args.self.now _ _ _ _ _ _ _ made _ _ _ _ _ c.self.view_is c.if-self.false c.put.ensures.any_moment
    c.in-Ok.ensures.settled c.in-Ok.ensures.few c.in-Ok.ensures.whole c.in-Ok.ensures.stands c.in-Ok.ensures.exact c.in-Ok.ensures.cause.succeeded)
