-- The jobs land in memory, and then on the disk, or none of them does.
use Rattle.std.proofs.Common.{◌≢◌, ◌≤◌, ◌^◌, ◌∙◌, length, refl, sym, subst, arith}
use Rattle.std.proofs.lemmas.Bool.{eqb-true, eqb-false}
use Rattle.store_core.specs.Keeps.{IsCore}
use Rattle.store_core.proofs.Batches.{looks_at, terms_at, failed_at, short_back, none_waits, none_landed, still_stands, all_landed, all_faulted, all_keep, fault_keeps}
use Rattle.store_core.proofs.store.Core.land_all_addressed.Goals as goal

pub returns-then-self-clause-leaves : goal.returns-then-self-clause-leaves
returns-then-self-clause-leaves g c =
    let s = c.self.inside in
    failed_at g.D.Disk g.T.Mrdt.meaning g.A.Address.address c.args.jobs.items c.args.self.now s.recorded s.disk s.opened.value s.failed c.self.view_is g.met.D.Disk.only_now c.self.invariant.stands c.from_vec.result c.if-self.true

pub land_each-requires-clause-history : goal.land_each-requires-clause-history
land_each-requires-clause-history g c κs within = looks_at c.args.jobs.items _ refl _ _ c.self.view_is c.requires.history

pub land_each-requires-clause-terms : goal.land_each-requires-clause-terms
land_each-requires-clause-terms g c κs within = terms_at c.args.jobs.items _ refl _ _ c.self.view_is c.requires.terms

pub returns-in_err-batch-clause-leaves : goal.returns-in_err-batch-clause-leaves
returns-in_err-batch-clause-leaves g c =
    let s = c.self.inside in
    let ended = short_back g.D.Disk g.T.Mrdt.meaning g.A.Address.address c.args.jobs.items c.args.self.now s.recorded c.land_each.new.recorded s.disk s.opened.value s.failed c.self.view_is c.if-self.false g.met.D.Disk.only_now c.self.invariant.stands c.from_residual-in_err-batch.result _ c.from_residual-in_err-batch.ensures.1 c.in_err-batch.ensures.kept in
    ended.leaves

pub invariant_of-self-then-is_empty : goal.invariant_of-self-then-is_empty
invariant_of-self-then-is_empty g c =
    let s = c.self.inside in
    let none = sym c.in_ok-batch.batch.records.ok.0 ∙ eqb-true _ 0 (sym c.is_empty.ensures ∙ c.if-is_empty.true) in
    let same = none_waits g.D.Disk g.T.Mrdt.meaning g.A.Address.address c.args.jobs.items c.args.self.now s.recorded c.land_each.new.recorded s.disk s.opened.value s.failed c.self.view_is c.if-self.false g.met.D.Disk.only_now c.self.invariant.stands _ _ c.in_ok-batch.ensures.landed none c.self.invariant.settled in
    subst (λ r. IsCore g.T.Mrdt.meaning g.A.Address.address g.D.Disk.may_leave g.D.Disk.faults r s.journal s.disk s.opened.value s.failed) (sym same) c.self.invariant

pub returns-then-is_empty-clause-answers : goal.returns-then-is_empty-clause-answers
returns-then-is_empty-clause-answers g c =
    let s = c.self.inside in
    let none = sym c.in_ok-batch.batch.records.ok.0 ∙ eqb-true _ 0 (sym c.is_empty.ensures ∙ c.if-is_empty.true) in
    let within = c.keeps_limits.ensures s.recorded.terms _ (c.makes_fewer_moves.ensures s.recorded.terms g.A.Address.address _ c.self.invariant.valid) in
    let few : length s.recorded.written ≤ 2 ^ 48 = omega (arith, within.accepted, s.recorded.terms.limits.in_range.moves_high) in
    let ended = none_landed g.D.Disk g.T.Mrdt.meaning g.A.Address.address c.args.jobs.items c.args.self.now s.recorded c.land_each.new.recorded s.disk s.opened.value s.failed c.self.view_is c.if-self.false g.met.D.Disk.only_now c.self.invariant.stands _ _ c.in_ok-batch.ensures.landed c.from_vec-then-is_empty.result c.from_vec-then-is_empty.ensures none c.self.invariant.valid few in
    ended.answers

pub returns-then-is_empty-clause-leaves : goal.returns-then-is_empty-clause-leaves
returns-then-is_empty-clause-leaves g c =
    let s = c.self.inside in
    let none = sym c.in_ok-batch.batch.records.ok.0 ∙ eqb-true _ 0 (sym c.is_empty.ensures ∙ c.if-is_empty.true) in
    let within = c.keeps_limits.ensures s.recorded.terms _ (c.makes_fewer_moves.ensures s.recorded.terms g.A.Address.address _ c.self.invariant.valid) in
    let few : length s.recorded.written ≤ 2 ^ 48 = omega (arith, within.accepted, s.recorded.terms.limits.in_range.moves_high) in
    let ended = none_landed g.D.Disk g.T.Mrdt.meaning g.A.Address.address c.args.jobs.items c.args.self.now s.recorded c.land_each.new.recorded s.disk s.opened.value s.failed c.self.view_is c.if-self.false g.met.D.Disk.only_now c.self.invariant.stands _ _ c.in_ok-batch.ensures.landed c.from_vec-then-is_empty.result c.from_vec-then-is_empty.ensures none c.self.invariant.valid few in
    ended.leaves

pub put-requires-clause-stands : goal.put-requires-clause-stands
put-requires-clause-stands g c κs within =
    let s = c.self.inside in
    still_stands g.D.Disk g.T.Mrdt.meaning g.A.Address.address c.args.jobs.items c.args.self.now s.recorded c.land_each.new.recorded s.disk s.opened.value s.failed c.self.view_is c.if-self.false g.met.D.Disk.only_now c.self.invariant.stands _ _ c.in_ok-batch.ensures.landed

pub invariant_of-self-in_default : goal.invariant_of-self-in_default
invariant_of-self-in_default g c =
    let s = c.self.inside in
    let some : length c.in_ok-batch.batch.records.items ≢ 0 = λ e. eqb-false _ 0 (sym c.is_empty.ensures ∙ c.if-is_empty.false) (c.in_ok-batch.batch.records.ok.0 ∙ e) in
    fault_keeps g.D.Disk g.T.Mrdt.meaning g.A.Address.address c.args.jobs.items c.args.self.now s.recorded c.land_each.new.recorded s.disk s.opened.value s.failed c.self.view_is c.if-self.false g.met.D.Disk.only_now c.self.invariant.stands _ _ c.in_ok-batch.ensures.landed some c.put.new.recorded c.put.new.disk c.put.new.failed c.put.ensures.any_moment g.met.D.Disk.counts_now c.put.ensures.valid s.journal c.put.new.journal c.self.invariant
    c.in_default.ensures.undone c.in_default.ensures.fails c.in_default.ensures.uncounted c.in_default.ensures.left c.put.ensures.cause.later c.in_default.ensures.cause.failed

pub returns-in_default-clause-answers : goal.returns-in_default-clause-answers
returns-in_default-clause-answers g c =
    let s = c.self.inside in
    let some : length c.in_ok-batch.batch.records.items ≢ 0 = λ e. eqb-false _ 0 (sym c.is_empty.ensures ∙ c.if-is_empty.false) (c.in_ok-batch.batch.records.ok.0 ∙ e) in
    let ended = all_faulted g.D.Disk g.T.Mrdt.meaning g.A.Address.address c.args.jobs.items c.args.self.now s.recorded c.land_each.new.recorded s.disk s.opened.value s.failed c.self.view_is c.if-self.false g.met.D.Disk.only_now c.self.invariant.stands _ _ c.in_ok-batch.ensures.landed some c.put.new.recorded c.put.new.disk c.put.new.failed c.put.ensures.any_moment g.met.D.Disk.counts_now c.put.ensures.valid
    c.from_vec-in_default.result (c.from_vec-in_default.ensures ∙ c.faulted.ensures) c.in_default.ensures.undone c.in_default.ensures.fails c.put.ensures.torn c.put.ensures.cause.later c.in_default.ensures.cause.failed in
    ended.answers

pub returns-in_default-clause-leaves : goal.returns-in_default-clause-leaves
returns-in_default-clause-leaves g c =
    let s = c.self.inside in
    let some : length c.in_ok-batch.batch.records.items ≢ 0 = λ e. eqb-false _ 0 (sym c.is_empty.ensures ∙ c.if-is_empty.false) (c.in_ok-batch.batch.records.ok.0 ∙ e) in
    let ended = all_faulted g.D.Disk g.T.Mrdt.meaning g.A.Address.address c.args.jobs.items c.args.self.now s.recorded c.land_each.new.recorded s.disk s.opened.value s.failed c.self.view_is c.if-self.false g.met.D.Disk.only_now c.self.invariant.stands _ _ c.in_ok-batch.ensures.landed some c.put.new.recorded c.put.new.disk c.put.new.failed c.put.ensures.any_moment g.met.D.Disk.counts_now c.put.ensures.valid
    c.from_vec-in_default.result (c.from_vec-in_default.ensures ∙ c.faulted.ensures) c.in_default.ensures.undone c.in_default.ensures.fails c.put.ensures.torn c.put.ensures.cause.later c.in_default.ensures.cause.failed in
    ended.leaves

pub invariant_of-self-2 : goal.invariant_of-self-2
invariant_of-self-2 g c =
    let s = c.self.inside in
    let some : length c.in_ok-batch.batch.records.items ≢ 0 = λ e. eqb-false _ 0 (sym c.is_empty.ensures ∙ c.if-is_empty.false) (c.in_ok-batch.batch.records.ok.0 ∙ e) in
    all_keep g.D.Disk g.T.Mrdt.meaning g.A.Address.address c.args.jobs.items c.args.self.now s.recorded c.land_each.new.recorded s.disk s.opened.value s.failed c.self.view_is c.if-self.false g.met.D.Disk.only_now c.self.invariant.stands _ _ c.in_ok-batch.ensures.landed some c.put.new.recorded c.put.new.disk c.put.new.failed c.put.ensures.any_moment g.met.D.Disk.counts_now c.put.ensures.valid s.journal c.put.new.journal c.self.invariant
    c.in-Ok.ensures.settled c.in-Ok.ensures.whole c.in-Ok.ensures.working c.in-Ok.ensures.counted c.in-Ok.ensures.stands c.in-Ok.ensures.cause.succeeded

pub returns-clause-leaves : goal.returns-clause-leaves
returns-clause-leaves g c =
    let s = c.self.inside in
    let some : length c.in_ok-batch.batch.records.items ≢ 0 = λ e. eqb-false _ 0 (sym c.is_empty.ensures ∙ c.if-is_empty.false) (c.in_ok-batch.batch.records.ok.0 ∙ e) in
    let ended = all_landed g.D.Disk g.T.Mrdt.meaning g.A.Address.address c.args.jobs.items c.args.self.now s.recorded c.land_each.new.recorded s.disk s.opened.value s.failed c.self.view_is c.if-self.false g.met.D.Disk.only_now c.self.invariant.stands _ _ c.in_ok-batch.ensures.landed some c.put.new.recorded c.put.new.disk c.put.new.failed c.put.ensures.any_moment g.met.D.Disk.counts_now c.put.ensures.valid
    c.from_vec-2.result c.from_vec-2.ensures c.in-Ok.ensures.settled c.in-Ok.ensures.few c.in-Ok.ensures.whole c.in-Ok.ensures.stands c.in-Ok.ensures.exact c.in-Ok.ensures.cause.succeeded in
    ended.leaves
