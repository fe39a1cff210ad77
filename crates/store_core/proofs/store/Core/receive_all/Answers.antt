-- The items arrive in memory, and then their moves are put on the disk, or none of them is.
use Rattle.std.proofs.Common.{◌≢◌, ◌≤◌, ◌^◌, ◌++◌, ◌∙◌, length, map, ap, sym, subst, arith, append-nil}
use Rattle.std.proofs.lemmas.Bool.{eqb-true, eqb-false}
use Rattle.branch_bundle.specs.Held.{pair_of}
use Rattle.branch_machine.specs.Fixed.{fix}
use Rattle.branch_bundle_laws.specs.Receiving.{made_by}
use Rattle.store_core.specs.Keeps.{IsCore}
use Rattle.store_core.proofs.Taken.{items-failed, items-short, items-here, items-put, items-fault, no_made, waits_at}
use Rattle.store_core.proofs.Waited.{none_waits, still_stands, all_keep, fault_keeps}
use Rattle.store_core.proofs.store.Core.receive_all.Goals as goal

pub returns-then-self-clause-takes : goal.returns-then-self-clause-takes
returns-then-self-clause-takes g c =
    let s = c.self.inside in
    let counted = c.moves-moves.ensures.moves ∙ ap (λ ms. length (s.recorded.written ++ ms)) c.self.invariant.settled ∙ ap length (append-nil s.recorded.written) in
    items-failed g.D.Disk g.T.Mrdt.meaning g.A.Address.address (map pair_of c.args.items.now) c.args.self.now s.recorded s.disk s.opened.value s.failed c.self.view_is g.met.D.Disk.only_now c.self.invariant.stands c.moves-moves.result c.if-self.true counted

pub returns-in_default-clause-takes : goal.returns-in_default-clause-takes
returns-in_default-clause-takes g c =
    let s = c.self.inside in
    items-short g.D.Disk g.T.Mrdt.meaning g.A.Address.address (map pair_of c.args.items.now) c.args.self.now s.recorded s.disk s.opened.value s.failed c.self.view_is g.met.D.Disk.only_now c.self.invariant.stands c.if-self.false c.receive_each.new.recorded c.in_default.ensures.kept

pub invariant_of-self-then-is_empty : goal.invariant_of-self-then-is_empty
invariant_of-self-then-is_empty g c =
    let s = c.self.inside in
    let none = sym c.in-Ok.arrivals.records.ok.0 ∙ eqb-true _ 0 (sym c.is_empty.ensures ∙ c.if-is_empty.true) in
    subst (λ r. IsCore g.T.Mrdt.meaning g.A.Address.address g.D.Disk.may_leave g.D.Disk.faults r s.journal s.disk s.opened.value s.failed) (sym (none_waits g.D.Disk g.T.Mrdt.meaning g.A.Address.address s.recorded c.receive_each.new.recorded (made_by c.in-Ok.ensures.arrived.turns) c.in-Ok.ensures.arrived.pending s.disk s.opened.value s.failed c.if-self.false (no_made (fix g.T.Mrdt.meaning s.recorded.terms g.A.Address.address) _ s.recorded c.receive_each.new.recorded _ _ _ c.in-Ok.ensures.arrived none) c.self.invariant.settled)) c.self.invariant

pub returns-then-is_empty-clause-takes : goal.returns-then-is_empty-clause-takes
returns-then-is_empty-clause-takes g c =
    let s = c.self.inside in
    let none = sym c.in-Ok.arrivals.records.ok.0 ∙ eqb-true _ 0 (sym c.is_empty.ensures ∙ c.if-is_empty.true) in
    let within = c.keeps_limits.ensures s.recorded.terms _ (c.makes_fewer_moves.ensures s.recorded.terms g.A.Address.address _ c.self.invariant.valid) in
    let few : length s.recorded.written ≤ 2 ^ 48 = omega (arith, within.accepted, s.recorded.terms.limits.in_range.moves_high) in
    items-here g.D.Disk g.T.Mrdt.meaning g.A.Address.address (map pair_of c.args.items.now) c.args.self.now s.recorded s.disk s.opened.value s.failed c.self.view_is g.met.D.Disk.only_now c.self.invariant.stands c.if-self.false c.receive_each.new.recorded _ _ _ c.in-Ok.ensures.arrived c.told.result c.told.ensures.got c.told.ensures.made c.told.ensures.refused none c.self.invariant.valid few

pub put-requires-clause-waits : goal.put-requires-clause-waits
put-requires-clause-waits g c =
    let s = c.self.inside in
    λ _ _. rw c.deref.ensures.value (waits_at g.T.Mrdt.meaning g.A.Address.address c.args.items.now s.recorded c.receive_each.new.recorded _ _ _ c.in-Ok.ensures.arrived c.requires.few (λ e. eqb-false _ 0 (sym c.is_empty.ensures ∙ c.if-is_empty.false) (c.in-Ok.arrivals.records.ok.0 ∙ e)))

pub put-requires-clause-stands : goal.put-requires-clause-stands
put-requires-clause-stands g c =
    let s = c.self.inside in
    λ _ _. still_stands g.D.Disk g.T.Mrdt.meaning g.A.Address.address s.recorded c.receive_each.new.recorded (made_by c.in-Ok.ensures.arrived.turns) c.in-Ok.ensures.arrived.pending s.disk s.opened.value s.failed c.if-self.false c.self.invariant.stands

pub invariant_of-self-in_default-put : goal.invariant_of-self-in_default-put
invariant_of-self-in_default-put g c =
    let s = c.self.inside in
    fault_keeps g.D.Disk g.T.Mrdt.meaning g.A.Address.address s.recorded c.receive_each.new.recorded (made_by c.in-Ok.ensures.arrived.turns) c.in-Ok.ensures.arrived.pending s.disk s.opened.value s.failed c.if-self.false c.put.new.recorded c.put.new.disk c.put.new.failed s.journal c.put.new.journal c.self.invariant
    c.in_default-put.ensures.undone c.in_default-put.ensures.fails c.in_default-put.ensures.uncounted c.in_default-put.ensures.left c.put.ensures.cause.later c.in_default-put.ensures.cause.failed

pub returns-in_default-put-clause-takes : goal.returns-in_default-put-clause-takes
returns-in_default-put-clause-takes g c =
    let s = c.self.inside in
    items-fault g.D.Disk g.T.Mrdt.meaning g.A.Address.address (map pair_of c.args.items.now) c.args.self.now s.recorded s.disk s.opened.value s.failed c.self.view_is g.met.D.Disk.only_now c.self.invariant.stands c.if-self.false c.receive_each.new.recorded _ _ _ c.in-Ok.ensures.arrived c.put.new.recorded c.put.new.disk c.put.new.failed c.put.ensures.any_moment g.met.D.Disk.counts_now c.put.ensures.valid
    c.in_default-put.ensures.undone c.in_default-put.ensures.fails c.put.ensures.torn c.put.ensures.cause.later c.in_default-put.ensures.cause.failed

pub invariant_of-self-2 : goal.invariant_of-self-2
invariant_of-self-2 g c =
    let s = c.self.inside in
    all_keep g.D.Disk g.T.Mrdt.meaning g.A.Address.address s.recorded c.receive_each.new.recorded (made_by c.in-Ok.ensures.arrived.turns) c.in-Ok.ensures.arrived.pending s.disk s.opened.value s.failed c.if-self.false c.put.new.recorded c.put.new.disk c.put.new.failed s.journal c.put.new.journal c.self.invariant c.put.ensures.valid
    c.in-Ok-put.ensures.settled c.in-Ok-put.ensures.whole c.in-Ok-put.ensures.working c.in-Ok-put.ensures.counted c.in-Ok-put.ensures.stands c.in-Ok-put.ensures.cause.succeeded

pub returns-clause-takes : goal.returns-clause-takes
returns-clause-takes g c =
    let s = c.self.inside in
    let some : length c.in-Ok.arrivals.records.items ≢ 0 = λ e. eqb-false _ 0 (sym c.is_empty.ensures ∙ c.if-is_empty.false) (c.in-Ok.arrivals.records.ok.0 ∙ e) in
    items-put g.D.Disk g.T.Mrdt.meaning g.A.Address.address (map pair_of c.args.items.now) c.args.self.now s.recorded s.disk s.opened.value s.failed c.self.view_is g.met.D.Disk.only_now c.self.invariant.stands c.if-self.false c.receive_each.new.recorded _ _ _ c.in-Ok.ensures.arrived c.put.new.recorded c.put.new.disk c.put.new.failed c.put.ensures.any_moment g.met.D.Disk.counts_now c.put.ensures.valid
    c.told-2.result c.told-2.ensures.got c.told-2.ensures.made c.told-2.ensures.refused some c.in-Ok-put.ensures.settled c.in-Ok-put.ensures.few c.in-Ok-put.ensures.whole c.in-Ok-put.ensures.stands c.in-Ok-put.ensures.exact c.in-Ok-put.ensures.cause.succeeded
