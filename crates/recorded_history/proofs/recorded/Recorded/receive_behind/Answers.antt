-- The item is answered as the machine receives it.
use Rattle.std.proofs.Common.{◌≡◌, [], ◌∷◌, ◌++◌, length, None, Err, refl, ap, sym, ◌∙◌, subst, rules}
use Rattle.std.proofs.lemmas.Result.{err_from_is_err_and}
use Rattle.branch_wire.specs.Objects.{commit_object}
use Rattle.branch_wire.specs.StoredObjects.{collision, fresh}
use Rattle.branch_history.specs.History.{store_of}
use Rattle.branch_history.specs.Machine.{makes, turn}
use Rattle.branch_history.specs.Steps as machine
use Rattle.branch_machine.specs.Fixed.{fix}
use Rattle.branch_machine.specs.Machine.{commit_at}
use Rattle.branch_machine.specs.Objects.{Pair, both}
use Rattle.heads_journal.specs.declared.record.Record.TheVariants as journal
use Rattle.machine_answers.specs.Answers.{Made, Short, TurnsAs}
use Rattle.object_store.specs.Refusals.{RefusesToStage}
use Rattle.store_seen.specs.Answers.{not_received}
use Rattle.store_seen.specs.Turns as turns
use Rattle.recorded_history.specs.Asks.{fields_in}
use Rattle.recorded_history.specs.Keeps.{IsBackAt, IsRecorded}
use Rattle.recorded_history.specs.Receives.{ReceivesMore, HasLastRecord, item_refused, unread_item, refused_item, unstaged_item}
use Rattle.recorded_history.specs.declared.arrivals.Arrived.TheVariants as arrived
use Rattle.recorded_history.specs.Views.{recorded_of}
use Rattle.recorded_history.proofs.Asked.{unread-none}
use Rattle.recorded_history.proofs.Kept.{recorded-back}
use Rattle.recorded_history.proofs.Taken.{item-moved, item-stays, item-short, item-kept, item-taken, item-record, seen-refuses, stage-refuses, unread-refused}
use Rattle.recorded_history.proofs.recorded.Recorded.receive_behind.Goals as goal

pub returns-in_err-fields-clause-receives : goal.returns-in_err-fields-clause-receives
returns-in_err-fields-clause-receives g c =
    let meaning = g.T.Mrdt.meaning in
    let address = g.A.Address.address in
    let laws = (g.met.T.Mrdt g.world.𝓛 g.world.𝓜 g.world.𝓡 ((λ s x. x), (λ x. x), (λ x. x), λ x. x)).laws in
    let self = c.self.inside in
    let settled = self.settled.value.core in
    let fixed = fix meaning settled.terms address in
    let whole = settled.history ++ (recorded_of settled self.versions.core).pending in
    let item : Pair = record { value = c.args.value.now; commit = c.args.commit.now } in
    let unseen = subst (λ r. commit_at (fix meaning r.terms address) (r.written ++ r.pending) item ≡ None) (sym c.self.view_is) (sym c.commit_of.ensures ∙ c.in_default.is) in
    let old = recorded_of settled self.versions.core in
    let e = c.in_err-fields.field-0.0 in
    let p = err_from_is_err_and c.from_residual.result c.from_residual.ensures.1 in
    rw (p.1, p.2)
    (subst (λ r. ReceivesMore (fix meaning r.terms address) item r r (item_refused (unread_item e))) c.self.view_is
    (item-stays fixed item old old (unread_item e) refl
    (unread-refused fixed whole item e unseen (λ is step of. unread-none fixed laws g.met.A.Address.size whole c.self.invariant.valid c.args.value.now c.args.commit.now c.in_err-fields.ensures.short (c.in_err-fields.ensures.none (ap Err is)) step of))))

pub returns-in_err-made-clause-receives : goal.returns-in_err-made-clause-receives
returns-in_err-made-clause-receives g c =
    let meaning = g.T.Mrdt.meaning in
    let address = g.A.Address.address in
    let self = c.self.inside in
    let settled = self.settled.value.core in
    let fixed = fix meaning settled.terms address in
    let whole = settled.history ++ (recorded_of settled self.versions.core).pending in
    let core = c.self.invariant.moves in
    let item : Pair = record { value = c.args.value.now; commit = c.args.commit.now } in
    let unseen = subst (λ r. commit_at (fix meaning r.terms address) (r.written ++ r.pending) item ≡ None) (sym c.self.view_is) (sym c.commit_of.ensures ∙ c.in_default.is) in
    let old = recorded_of settled self.versions.core in
    let new = recorded_of settled c.arrival_of.new.versions.core in
    let f = fields_in c.in_ok-fields.fields in
    let e = c.in_err-made.field-0.0 in
    let p = err_from_is_err_and c.from_residual-in_err-made.result c.from_residual-in_err-made.ensures.1 in
    rw (p.1, p.2)
    (subst (λ r. ReceivesMore (fix meaning r.terms address) item r new (item_refused (unread_item e))) c.self.view_is
    (item-stays fixed item old new (unread_item e) (ap (λ v. recorded_of settled v.core) c.in_err-made.ensures.same)
    (unread-refused fixed whole item e unseen (λ is step of. c.in_err-made.ensures.none (ap Err is) step (item-moved meaning address _ _ (sym core) step c.args.value.now c.args.commit.now (commit_object f) c.in_ok-fields.ensures.spelled of)))))

pub returns-in_err-may_receive-clause-receives : goal.returns-in_err-may_receive-clause-receives
returns-in_err-may_receive-clause-receives g c =
    let meaning = g.T.Mrdt.meaning in
    let address = g.A.Address.address in
    let self = c.self.inside in
    let settled = self.settled.value.core in
    let fixed = fix meaning settled.terms address in
    let whole = settled.history ++ (recorded_of settled self.versions.core).pending in
    let core = c.self.invariant.moves in
    let item : Pair = record { value = c.args.value.now; commit = c.args.commit.now } in
    let unseen = subst (λ r. commit_at (fix meaning r.terms address) (r.written ++ r.pending) item ≡ None) (sym c.self.view_is) (sym c.commit_of.ensures ∙ c.in_default.is) in
    let v = c.arrival_of.new.versions in
    let old = recorded_of settled self.versions.core in
    let new = recorded_of settled v.core in
    let f = fields_in c.in_ok-fields.fields in
    let made = c.in_ok-made.made in
    let now = ap (λ v. v.core) c.in_ok-made.ensures.same ∙ core in
    let of = item-moved meaning address _ _ core made.step c.args.value.now (commit_object f) c.args.commit.now (sym c.in_ok-fields.ensures.spelled) c.in_ok-made.ensures.item in
    let e = c.in_err-may_receive.field-0.0 in
    let refused = subst (λ k. TurnsAs (not_received e) (turn meaning k.terms k.history made.step)) now c.in_err-may_receive.ensures.refused in
    let p = err_from_is_err_and c.from_residual-in_err-may_receive.result c.from_residual-in_err-may_receive.ensures.1 in
    rw (p.1, p.2)
    (subst (λ r. ReceivesMore (fix meaning r.terms address) item r new (item_refused (refused_item e))) c.self.view_is
    (item-stays fixed item old new (refused_item e) (ap (λ v. recorded_of settled v.core) c.in_ok-made.ensures.same) (seen-refuses fixed whole item unseen made.step of e refused)))

pub returns-then-is_err-clause-receives : goal.returns-then-is_err-clause-receives
returns-then-is_err-clause-receives g c =
    let meaning = g.T.Mrdt.meaning in
    let address = g.A.Address.address in
    let self = c.self.inside in
    let settled = self.settled.value.core in
    let fixed = fix meaning settled.terms address in
    let whole = settled.history ++ (recorded_of settled self.versions.core).pending in
    let item : Pair = record { value = c.args.value.now; commit = c.args.commit.now } in
    let old = recorded_of settled self.versions.core in
    let new = recorded_of settled c.arrival_of.new.versions.core in
    subst (λ r. ReceivesMore (fix meaning r.terms address) item r new Short) c.self.view_is
    (item-short fixed item old new refl)

pub returns-in_err-address-clause-receives : goal.returns-in_err-address-clause-receives
returns-in_err-address-clause-receives g c =
    let meaning = g.T.Mrdt.meaning in
    let address = g.A.Address.address in
    let self = c.self.inside in
    let settled = self.settled.value.core in
    let fixed = fix meaning settled.terms address in
    let whole = settled.history ++ (recorded_of settled self.versions.core).pending in
    let core = c.self.invariant.moves in
    let item : Pair = record { value = c.args.value.now; commit = c.args.commit.now } in
    let unseen = subst (λ r. commit_at (fix meaning r.terms address) (r.written ++ r.pending) item ≡ None) (sym c.self.view_is) (sym c.commit_of.ensures ∙ c.in_default.is) in
    let v = c.arrival_of.new.versions in
    let old = recorded_of settled self.versions.core in
    let new = recorded_of settled v.core in
    let f = fields_in c.in_ok-fields.fields in
    let made = c.in_ok-made.made in
    let now = ap (λ v. v.core) c.in_ok-made.ensures.same ∙ core in
    let of = item-moved meaning address _ _ core made.step c.args.value.now (commit_object f) c.args.commit.now (sym c.in_ok-fields.ensures.spelled) c.in_ok-made.ensures.item in
    let may = c.in_ok-may_receive.ensures.may in
    let turned = subst (λ k. turn meaning k.terms k.history made.step ≡ makes may.0 (machine.New (length (store_of k.terms.origin k.history).commits))) now may.1 in
    let e = c.in_err-address.field-0.0 in
    let clash = subst (λ o. RefusesToStage address o (both item) e) c.self.invariant.staged (subst (λ t. RefusesToStage address (self.objects.stored ++ self.objects.staged) (both (let p : Pair = record { value = c.args.value.now; commit = t } in p)) e) (sym c.in_ok-fields.ensures.spelled) c.in_err-address.ensures.collides) in
    let p = err_from_is_err_and c.from_residual-in_err-address.result c.from_residual-in_err-address.ensures.1 in
    rw (p.1, p.2)
    (subst (λ r. ReceivesMore (fix meaning r.terms address) item r new (item_refused (unstaged_item e))) c.self.view_is
    (item-stays fixed item old new (unstaged_item e) (ap (λ v. recorded_of settled v.core) c.in_ok-made.ensures.same) (stage-refuses fixed whole item unseen made.step of may.0 (machine.New (length (store_of settled.terms.origin whole).commits)) turned e clash)))

pub invariant_of-self-in_default-receive : goal.invariant_of-self-in_default-receive
invariant_of-self-in_default-receive g c =
    let meaning = g.T.Mrdt.meaning in
    let address = g.A.Address.address in
    let self = c.self.inside in
    let settled = self.settled.value.core in
    let still : c.receive.new.self ≡ self.versions = search rules in
    let back = subst (λ v. IsBackAt settled v c.take_back.new.versions) still c.take_back.ensures.back in
    let kept = recorded-back meaning address settled self.versions c.take_back.new.versions self.objects c.drop_staged.new.self self.stood.items c.self.invariant back (c.drop_staged.ensures.stored ∙ c.in_ok-address.ensures.stored) c.drop_staged.ensures.staged in
    subst (λ s. IsRecorded meaning address (recorded_of settled c.take_back.new.versions.core) s c.take_back.new.versions c.drop_staged.new.self) (sym c.take_back.ensures.none) kept

pub invariant_of-self-2 : goal.invariant_of-self-2
invariant_of-self-2 g c =
    let meaning = g.T.Mrdt.meaning in
    let address = g.A.Address.address in
    let self = c.self.inside in
    let settled = self.settled.value.core in
    let whole = settled.history ++ (recorded_of settled self.versions.core).pending in
    let core = c.self.invariant.moves in
    let item : Pair = record { value = c.args.value.now; commit = c.args.commit.now } in
    let unseen = subst (λ r. commit_at (fix meaning r.terms address) (r.written ++ r.pending) item ≡ None) (sym c.self.view_is) (sym c.commit_of.ensures ∙ c.in_default.is) in
    let spelled = sym c.in_ok-fields.ensures.spelled in
    let f = fields_in c.in_ok-fields.fields in
    let made = c.in_ok-made.made in
    let of = item-moved meaning address _ _ core made.step c.args.value.now (commit_object f) c.args.commit.now spelled c.in_ok-made.ensures.item in
    let staged = c.stage_item.new.objects in
    let done = c.in_ok-address.ensures in
    let free = subst (λ t. collision address (self.objects.stored ++ self.objects.staged) (both (let p : Pair = record { value = c.args.value.now; commit = t } in p)) ≡ None) spelled done.free in
    let added = done.added ∙ ap (λ t. self.objects.staged ++ fresh (self.objects.stored ++ self.objects.staged) (both (let p : Pair = record { value = c.args.value.now; commit = t } in p))) spelled in
    let new = c.receive.new.self in
    let taken = c.in-Ok.taken in
    let given = c.in_ok-address.address in
    let steps = subst (λ o. turns.Steps meaning made.step o new (o.addresses ++ given ∷ []) (Made (machine.New taken.commit) taken.moves)) c.in_ok-made.ensures.same c.in-Ok.ensures.steps in
    let kept = item-kept meaning address settled self.versions self.objects self.stood.items c.self.invariant item unseen made.step of staged free done.stored added new taken.commit taken.moves given (done.address ∙ ap address spelled) steps c.moves-moves.ensures.valid in
    let room : c.reserve.new.self.items ≡ self.stood.items = search rules in
    subst (λ s. IsRecorded meaning address (recorded_of settled new.core) s new staged) (sym (c.push_reserved.ensures.items ∙ ap (λ l. l ++ 0 ∷ []) room)) kept

pub returns-clause-receives : goal.returns-clause-receives
returns-clause-receives g c =
    let meaning = g.T.Mrdt.meaning in
    let address = g.A.Address.address in
    let self = c.self.inside in
    let settled = self.settled.value.core in
    let whole = settled.history ++ (recorded_of settled self.versions.core).pending in
    let core = c.self.invariant.moves in
    let item : Pair = record { value = c.args.value.now; commit = c.args.commit.now } in
    let unseen = subst (λ r. commit_at (fix meaning r.terms address) (r.written ++ r.pending) item ≡ None) (sym c.self.view_is) (sym c.commit_of.ensures ∙ c.in_default.is) in
    let spelled = sym c.in_ok-fields.ensures.spelled in
    let f = fields_in c.in_ok-fields.fields in
    let made = c.in_ok-made.made in
    let of = item-moved meaning address _ _ core made.step c.args.value.now (commit_object f) c.args.commit.now spelled c.in_ok-made.ensures.item in
    let staged = c.stage_item.new.objects in
    let done = c.in_ok-address.ensures in
    let free = subst (λ t. collision address (self.objects.stored ++ self.objects.staged) (both (let p : Pair = record { value = c.args.value.now; commit = t } in p)) ≡ None) spelled done.free in
    let added = done.added ∙ ap (λ t. self.objects.staged ++ fresh (self.objects.stored ++ self.objects.staged) (both (let p : Pair = record { value = c.args.value.now; commit = t } in p))) spelled in
    let new = c.receive.new.self in
    let taken = c.in-Ok.taken in
    let given = c.in_ok-address.address in
    let steps = subst (λ o. turns.Steps meaning made.step o new (o.addresses ++ given ∷ []) (Made (machine.New taken.commit) taken.moves)) c.in_ok-made.ensures.same c.in-Ok.ensures.steps in
    subst (λ r. ReceivesMore (fix meaning r.terms address) item r (recorded_of settled new.core) (Made (machine.New taken.commit) taken.moves)) c.self.view_is
    (item-taken meaning address settled self.versions self.objects self.stood.items c.self.invariant item unseen made.step of staged free done.stored added new taken.commit taken.moves given (done.address ∙ ap address spelled) steps)

pub returns-clause-recorded : goal.returns-clause-recorded
returns-clause-recorded g c =
    let meaning = g.T.Mrdt.meaning in
    let address = g.A.Address.address in
    let self = c.self.inside in
    let settled = self.settled.value.core in
    let whole = settled.history ++ (recorded_of settled self.versions.core).pending in
    let core = c.self.invariant.moves in
    let item : Pair = record { value = c.args.value.now; commit = c.args.commit.now } in
    let unseen = subst (λ r. commit_at (fix meaning r.terms address) (r.written ++ r.pending) item ≡ None) (sym c.self.view_is) (sym c.commit_of.ensures ∙ c.in_default.is) in
    let spelled = sym c.in_ok-fields.ensures.spelled in
    let f = fields_in c.in_ok-fields.fields in
    let made = c.in_ok-made.made in
    let of = item-moved meaning address _ _ core made.step c.args.value.now (commit_object f) c.args.commit.now spelled c.in_ok-made.ensures.item in
    let staged = c.stage_item.new.objects in
    let done = c.in_ok-address.ensures in
    let free = subst (λ t. collision address (self.objects.stored ++ self.objects.staged) (both (let p : Pair = record { value = c.args.value.now; commit = t } in p)) ≡ None) spelled done.free in
    let added = done.added ∙ ap (λ t. self.objects.staged ++ fresh (self.objects.stored ++ self.objects.staged) (both (let p : Pair = record { value = c.args.value.now; commit = t } in p))) spelled in
    let new = c.receive.new.self in
    let taken = c.in-Ok.taken in
    let given = c.in_ok-address.address in
    let steps = subst (λ o. turns.Steps meaning made.step o new (o.addresses ++ given ∷ []) (Made (machine.New taken.commit) taken.moves)) c.in_ok-made.ensures.same c.in-Ok.ensures.steps in
    subst (λ r. HasLastRecord (fix meaning r.terms address) r (recorded_of settled new.core) (arrived.New taken.commit taken.moves (journal.Received given c.end-end.result))) c.self.view_is
    (item-record meaning address settled self.versions self.objects self.stood.items c.self.invariant item unseen made.step of staged free done.stored added new taken.commit taken.moves given (done.address ∙ ap address spelled) steps c.end-end.result c.end-end.ensures)
