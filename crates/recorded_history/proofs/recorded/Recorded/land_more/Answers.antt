-- The move is pending behind the others, as the machine makes it.
use Rattle.std.proofs.Common.{◌≡◌, [], ◌∷◌, ◌++◌, length, ap, sym, ◌∙◌, subst, length-append, rules}
use Rattle.std.proofs.lemmas.Result.{err_from_is_err_and}
use Rattle.branch_wire.specs.StoredObjects.{file_of}
use Rattle.branch_history.specs.Machine.{turn}
use Rattle.branch_machine.specs.Fixed.{fix}
use Rattle.branch_machine.specs.Objects.{end_of}
use Rattle.branch_files.specs.Records.{record_with}
use Rattle.store_seen.specs.Turns.{step_of, move_of, outcome_of, addresses_after, MayLand}
use Rattle.store_seen.specs.Turns as turns
use Rattle.recorded_history.specs.Keeps.{IsStaged, IsBackAt, IsRecorded}
use Rattle.recorded_history.specs.Machine.{MakesMore}
use Rattle.recorded_history.specs.Refusals.{LandRefusedAs, land_refused}
use Rattle.recorded_history.specs.Views.{recorded_of}
use Rattle.recorded_history.proofs.Heads.{may-stood}
use Rattle.recorded_history.proofs.Kept.{core-on, pending-on, recorded-on, recorded-back}
use Rattle.recorded_history.proofs.Staged.{seen-refused}
use Rattle.recorded_history.proofs.Steps.{full-makes, work-plain, work-new}
use Rattle.recorded_history.proofs.recorded.Recorded.land_more.Goals as goal

pub returns-in_err-may_land-clause-refused : goal.returns-in_err-may_land-clause-refused
returns-in_err-may_land-clause-refused g c =
    let meaning = g.T.Mrdt.meaning in
    let address = g.A.Address.address in
    let self = c.self.inside in
    let settled = self.settled.value.core in
    let whole = settled.history ++ (recorded_of settled self.versions.core).pending in
    let e = c.in_err-may_land.field-0.0 in
    let prepared = c.prepared.inside.prepared in
    let refused = subst (λ k. turns.LandRefusedAs meaning prepared k e) c.self.invariant.moves c.in_err-may_land.ensures.refused in
    let p = err_from_is_err_and c.from_residual.result c.from_residual.ensures.1 in
    rw (p.1, p.2, ← c.prepared.view_is) (subst (λ r. LandRefusedAs (fix meaning r.terms address) prepared (r.written ++ r.pending) (land_refused e)) c.self.view_is (seen-refused (fix meaning settled.terms address) prepared whole e refused))

pub invariant_of-self-in_default : goal.invariant_of-self-in_default
invariant_of-self-in_default g c =
    let meaning = g.T.Mrdt.meaning in
    let address = g.A.Address.address in
    let self = c.self.inside in
    let settled = self.settled.value.core in
    let room : c.reserve.new.self.items ≡ self.stood.items = search rules in
    let still : c.land.new.self ≡ self.versions = search rules in
    let back = subst (λ v. IsBackAt settled v c.take_back.new.versions) still c.take_back.ensures.back in
    let staged = c.in-Ok.ensures.staged in
    let kept = recorded-back meaning address settled self.versions c.take_back.new.versions self.objects c.drop_staged.new.self self.stood.items c.self.invariant back (c.drop_staged.ensures.stored ∙ staged.stored) c.drop_staged.ensures.staged in
    subst (λ s. IsRecorded meaning address (recorded_of settled c.take_back.new.versions.core) s c.take_back.new.versions c.drop_staged.new.self) (sym c.take_back.ensures.none) kept

pub invariant_of-self-2 : goal.invariant_of-self-2
invariant_of-self-2 g c =
    let meaning = g.T.Mrdt.meaning in
    let address = g.A.Address.address in
    let self = c.self.inside in
    let settled = self.settled.value.core in
    let waiting = (recorded_of settled self.versions.core).pending in
    let whole = settled.history ++ waiting in
    let fixed = fix meaning settled.terms address in
    let core = c.self.invariant.moves in
    let seen = c.prepared.inside.prepared.seen in
    let work = c.prepared.inside.prepared.work in
    let made = move_of seen.branch work in
    let room : c.reserve.new.self.items ≡ self.stood.items = search rules in
    let staged = subst (λ k. IsStaged (fix meaning k.terms address) k.history work made self.objects c.stage.new.objects c.in-Ok.address) core c.in-Ok.ensures.staged in
    let may = subst (λ k. MayLand meaning c.prepared.inside.prepared k) core c.in_ok-may_land.ensures.may in
    let kept = recorded-on meaning address settled waiting made c.land.new.self (core-on meaning address settled self.versions self.objects self.stood.items c.self.invariant made c.land.new.self.core c.in-Ok-land.ensures.landed.history) c.stage.new.objects self.stood.items c.head-head.result
    c.self.invariant.valid c.moves-moves.ensures.valid (work-new fixed whole seen.branch work) staged.free c.self.invariant.came (may-stood meaning settled.terms whole seen work may c.head-head.result c.head-head.ensures.head)
    (c.in-Ok-land.ensures.addressed ∙ ap (addresses_after work c.in-Ok.address) c.self.invariant.addressed ∙ staged.addressed) (staged.stored ∙ c.self.invariant.stored) staged.staged in
    subst (λ s. IsRecorded meaning address (recorded_of settled c.land.new.self.core) s c.land.new.self c.stage.new.objects) (sym (c.push_reserved.ensures.items ∙ ap (λ l. l ++ c.head-head.result ∷ []) room)) kept

pub returns-clause-made : goal.returns-clause-made
returns-clause-made g c =
    let meaning = g.T.Mrdt.meaning in
    let address = g.A.Address.address in
    let self = c.self.inside in
    let settled = self.settled.value.core in
    let waiting = (recorded_of settled self.versions.core).pending in
    let whole = settled.history ++ waiting in
    let fixed = fix meaning settled.terms address in
    let core = c.self.invariant.moves in
    let seen = c.prepared.inside.prepared.seen in
    let work = c.prepared.inside.prepared.work in
    let made = move_of seen.branch work in
    let landed = c.in-Ok-land.landed in
    let staged = subst (λ k. IsStaged (fix meaning k.terms address) k.history work made self.objects c.stage.new.objects c.in-Ok.address) core c.in-Ok.ensures.staged in
    let lands = c.in-Ok-land.ensures.landed in
    let longer = core-on meaning address settled self.versions self.objects self.stood.items c.self.invariant made c.land.new.self.core lands.history in
    let turned = subst (λ k. turn meaning k.terms k.history (step_of seen work) ≡ record { outcome = outcome_of landed.kind; made = made ∷ [] }) core lands.turn_is in
    let ends : c.end.result ≡ end_of fixed (whole ++ made ∷ []) = c.end.ensures ∙ ap (λ s. length (file_of s)) staged.staged in
    rw (← c.prepared.view_is)
    (subst (λ r. MakesMore (fix meaning r.terms address) r (recorded_of settled c.land.new.self.core) (step_of seen work) made (outcome_of landed.kind) landed.moves c.record_for-record.result) c.self.view_is
    (record {
      turn_is = full-makes fixed whole (step_of seen work) (work-plain fixed whole seen work) made (outcome_of landed.kind) turned staged.free;
      pending = pending-on meaning address settled waiting made c.land.new.self longer;
      counted = lands.counted ∙ ap (λ k. length k.history) longer ∙ length-append whole (made ∷ []);
      recorded = c.record_for-record.ensures ∙ ap (λ n. record_with c.in-Ok.address n made) ends ∙ staged.recorded;
    }))
