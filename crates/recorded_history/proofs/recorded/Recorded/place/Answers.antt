-- The move is pending, as the machine makes it.
use Rattle.std.proofs.Common.{◌≡◌, [], ◌∷◌, ◌++◌, refl, ap, sym, ◌∙◌, subst, rules}
use Rattle.std.proofs.lemmas.Result.{err_from_is_err_and}
use Rattle.branch_history.specs.declared.moves.Move.TheVariants as move
use Rattle.branch_history.specs.Steps as machine
use Rattle.heads_journal.specs.declared.record.Record.TheVariants as journal
use Rattle.branch_machine.specs.Fixed.{fix}
use Rattle.machine_answers.specs.Answers.{Made, Short}
use Rattle.store_seen.specs.Answers.{not_placed}
use Rattle.recorded_history.specs.Keeps.{IsRecorded}
use Rattle.recorded_history.specs.Machine.{Steps, IsRecordOf}
use Rattle.recorded_history.specs.Views.{recorded_of}
use Rattle.recorded_history.proofs.Kept.{unmoved}
use Rattle.recorded_history.proofs.Placed.{short, placed-by, place-same, place-refused, quiet-kept, quiet-taken, quiet-record}
use Rattle.recorded_history.proofs.recorded.Recorded.place.Goals as goal

pub returns-then-is_err-clause-steps : goal.returns-then-is_err-clause-steps
returns-then-is_err-clause-steps g c =
    let meaning = g.T.Mrdt.meaning in
    let address = g.A.Address.address in
    let self = c.self.inside in
    let settled = self.settled.value.core in
    let none = ap (λ r. r.pending) c.self.view_is ∙ c.requires.settled in
    let step = machine.Place c.args.name c.args.commit in
    subst (λ r. Steps (fix meaning r.terms address) step r (recorded_of settled self.versions.core) Short) c.self.view_is
    (short meaning address settled self.versions self.objects self.stood.items c.self.invariant none step refl self.versions refl)

pub returns-in_err-forked-clause-steps : goal.returns-in_err-forked-clause-steps
returns-in_err-forked-clause-steps g c =
    let meaning = g.T.Mrdt.meaning in
    let address = g.A.Address.address in
    let self = c.self.inside in
    let settled = self.settled.value.core in
    let none = ap (λ r. r.pending) c.self.view_is ∙ c.requires.settled in
    let step = machine.Place c.args.name c.args.commit in
    let e = c.in_err-forked.field-0.0 in
    let p = err_from_is_err_and c.from_residual.result c.from_residual.ensures.1 in
    rw (p.1, p.2)
    (subst (λ r. Steps (fix meaning r.terms address) step r (recorded_of settled c.place.new.self.core) (not_placed e)) c.self.view_is
    (place-refused meaning address settled self.versions self.objects self.stood.items c.self.invariant none step refl c.place.new.self e c.in_err-forked.ensures.steps))

pub invariant_of-self-2 : goal.invariant_of-self-2
invariant_of-self-2 g c =
    let meaning = g.T.Mrdt.meaning in
    let address = g.A.Address.address in
    let self = c.self.inside in
    let settled = self.settled.value.core in
    let none = ap (λ r. r.pending) c.self.view_is ∙ c.requires.settled in
    let step = machine.Place c.args.name c.args.commit in
    let forked = c.in_ok-forked.forked in
    let steps = c.in_ok-forked.ensures.steps in
    let made = move.Place c.args.name forked.number c.args.commit in
    let outcome = machine.Forked forked.number forked.head in
    let made_is = placed-by meaning self.versions.core.terms self.versions.core.history c.args.name c.args.commit forked.number forked.head steps.takes.turns.0 steps.takes.turns.1 in
    let same = place-same meaning settled.terms settled.history c.args.name forked.number c.args.commit in
    let kept = quiet-kept meaning address settled self.versions self.objects self.stood.items c.self.invariant none step refl c.place.new.self made outcome forked.moves steps made_is same forked.head c.moves-moves.ensures.valid tt tt in
    let room : c.reserve.new.self.items ≡ self.stood.items = search rules in
    let none_stood = unmoved meaning address settled self.versions self.objects self.stood.items c.self.invariant none in
    subst (λ s. IsRecorded meaning address (recorded_of settled c.place.new.self.core) s c.place.new.self self.objects) (sym (c.push_reserved.ensures.items ∙ ap (λ l. l ++ forked.head ∷ []) (room ∙ none_stood))) kept

pub returns-clause-steps : goal.returns-clause-steps
returns-clause-steps g c =
    let meaning = g.T.Mrdt.meaning in
    let address = g.A.Address.address in
    let self = c.self.inside in
    let settled = self.settled.value.core in
    let none = ap (λ r. r.pending) c.self.view_is ∙ c.requires.settled in
    let step = machine.Place c.args.name c.args.commit in
    let forked = c.in_ok-forked.forked in
    let steps = c.in_ok-forked.ensures.steps in
    let made = move.Place c.args.name forked.number c.args.commit in
    let outcome = machine.Forked forked.number forked.head in
    let made_is = placed-by meaning self.versions.core.terms self.versions.core.history c.args.name c.args.commit forked.number forked.head steps.takes.turns.0 steps.takes.turns.1 in
    let same = place-same meaning settled.terms settled.history c.args.name forked.number c.args.commit in
    subst (λ r. Steps (fix meaning r.terms address) step r (recorded_of settled c.place.new.self.core) (Made outcome forked.moves)) c.self.view_is
    (quiet-taken meaning address settled self.versions self.objects self.stood.items c.self.invariant none step refl c.place.new.self made outcome forked.moves steps made_is same)

pub returns-clause-recorded : goal.returns-clause-recorded
returns-clause-recorded g c =
    let meaning = g.T.Mrdt.meaning in
    let address = g.A.Address.address in
    let self = c.self.inside in
    let settled = self.settled.value.core in
    let none = ap (λ r. r.pending) c.self.view_is ∙ c.requires.settled in
    let step = machine.Place c.args.name c.args.commit in
    let forked = c.in_ok-forked.forked in
    let steps = c.in_ok-forked.ensures.steps in
    let made = move.Place c.args.name forked.number c.args.commit in
    let outcome = machine.Forked forked.number forked.head in
    let made_is = placed-by meaning self.versions.core.terms self.versions.core.history c.args.name c.args.commit forked.number forked.head steps.takes.turns.0 steps.takes.turns.1 in
    let same = place-same meaning settled.terms settled.history c.args.name forked.number c.args.commit in
    subst (λ r. IsRecordOf (fix meaning r.terms address) (recorded_of settled c.place.new.self.core) (journal.Place forked.number c.args.commit c.args.name c.end.result)) c.self.view_is
    (quiet-record meaning address settled self.versions self.objects self.stood.items c.self.invariant none step refl c.place.new.self made outcome forked.moves steps made_is same c.end.result c.end.ensures)
