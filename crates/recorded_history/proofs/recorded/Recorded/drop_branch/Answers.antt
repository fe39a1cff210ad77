-- The drop is pending, as the machine makes it.
use Rattle.std.proofs.Common.{◌≡◌, [], ◌∷◌, ◌++◌, refl, ap, sym, ◌∙◌, subst, rules}
use Rattle.std.proofs.lemmas.Result.{err_from_is_err_and}
use Rattle.branch_history.specs.declared.moves.Move.TheVariants as move
use Rattle.branch_history.specs.Steps as machine
use Rattle.heads_journal.specs.declared.record.Record.TheVariants as journal
use Rattle.branch_machine.specs.Fixed.{fix}
use Rattle.machine_answers.specs.Answers.{Made, Short}
use Rattle.store_seen.specs.Answers.{not_dropped}
use Rattle.recorded_history.specs.Keeps.{IsRecorded}
use Rattle.recorded_history.specs.Machine.{Steps, IsRecordOf}
use Rattle.recorded_history.specs.Views.{recorded_of}
use Rattle.recorded_history.proofs.Kept.{unmoved}
use Rattle.recorded_history.proofs.Placed.{short, dropped-by, drop-same, drop-refused, quiet-kept, quiet-taken, quiet-record}
use Rattle.recorded_history.proofs.recorded.Recorded.drop_branch.Goals as goal

pub returns-then-is_err-clause-steps : goal.returns-then-is_err-clause-steps
returns-then-is_err-clause-steps g c =
    let meaning = g.T.Mrdt.meaning in
    let address = g.A.Address.address in
    let self = c.self.inside in
    let settled = self.settled.value.core in
    let none = ap (λ r. r.pending) c.self.view_is ∙ c.requires.settled in
    let step = machine.Drop c.args.seen.now.branch c.args.seen.now.head in
    subst (λ r. Steps (fix meaning r.terms address) step r (recorded_of settled self.versions.core) Short) c.self.view_is
    (short meaning address settled self.versions self.objects self.stood.items c.self.invariant none step refl self.versions refl)

pub returns-in_err-moves-clause-steps : goal.returns-in_err-moves-clause-steps
returns-in_err-moves-clause-steps g c =
    let meaning = g.T.Mrdt.meaning in
    let address = g.A.Address.address in
    let self = c.self.inside in
    let settled = self.settled.value.core in
    let none = ap (λ r. r.pending) c.self.view_is ∙ c.requires.settled in
    let seen = c.args.seen.now in
    let step = machine.Drop seen.branch seen.head in
    let e = c.in_err-moves.field-0.0 in
    let p = err_from_is_err_and c.from_residual.result c.from_residual.ensures.1 in
    rw (p.1, p.2)
    (subst (λ r. Steps (fix meaning r.terms address) step r (recorded_of settled c.drop_branch.new.self.core) (not_dropped e)) c.self.view_is
    (drop-refused meaning address settled self.versions self.objects self.stood.items c.self.invariant none step refl c.drop_branch.new.self e c.in_err-moves.ensures.steps))

pub invariant_of-self-2 : goal.invariant_of-self-2
invariant_of-self-2 g c =
    let meaning = g.T.Mrdt.meaning in
    let address = g.A.Address.address in
    let self = c.self.inside in
    let settled = self.settled.value.core in
    let none = ap (λ r. r.pending) c.self.view_is ∙ c.requires.settled in
    let seen = c.args.seen.now in
    let step = machine.Drop seen.branch seen.head in
    let moves = c.in_ok-moves.moves in
    let steps = c.in_ok-moves.ensures.steps in
    let made = move.Drop seen.branch in
    let outcome = machine.DroppedAt seen.branch seen.head in
    let made_is = dropped-by meaning self.versions.core.terms self.versions.core.history seen.branch seen.head steps.takes.turns.0 steps.takes.turns.1 in
    let same = drop-same meaning settled.terms settled.history seen.branch in
    let kept = quiet-kept meaning address settled self.versions self.objects self.stood.items c.self.invariant none step refl c.drop_branch.new.self made outcome moves steps made_is same c.head.result c.moves-moves.ensures.valid tt tt in
    let room : c.reserve.new.self.items ≡ self.stood.items = search rules in
    let none_stood = unmoved meaning address settled self.versions self.objects self.stood.items c.self.invariant none in
    subst (λ s. IsRecorded meaning address (recorded_of settled c.drop_branch.new.self.core) s c.drop_branch.new.self self.objects) (sym (c.push_reserved.ensures.items ∙ ap (λ l. l ++ c.head.result ∷ []) (room ∙ none_stood))) kept

pub returns-clause-steps : goal.returns-clause-steps
returns-clause-steps g c =
    let meaning = g.T.Mrdt.meaning in
    let address = g.A.Address.address in
    let self = c.self.inside in
    let settled = self.settled.value.core in
    let none = ap (λ r. r.pending) c.self.view_is ∙ c.requires.settled in
    let seen = c.args.seen.now in
    let step = machine.Drop seen.branch seen.head in
    let moves = c.in_ok-moves.moves in
    let steps = c.in_ok-moves.ensures.steps in
    let made = move.Drop seen.branch in
    let outcome = machine.DroppedAt seen.branch seen.head in
    let made_is = dropped-by meaning self.versions.core.terms self.versions.core.history seen.branch seen.head steps.takes.turns.0 steps.takes.turns.1 in
    let same = drop-same meaning settled.terms settled.history seen.branch in
    subst (λ r. Steps (fix meaning r.terms address) step r (recorded_of settled c.drop_branch.new.self.core) (Made outcome moves)) c.self.view_is
    (quiet-taken meaning address settled self.versions self.objects self.stood.items c.self.invariant none step refl c.drop_branch.new.self made outcome moves steps made_is same)

pub returns-clause-recorded : goal.returns-clause-recorded
returns-clause-recorded g c =
    let meaning = g.T.Mrdt.meaning in
    let address = g.A.Address.address in
    let self = c.self.inside in
    let settled = self.settled.value.core in
    let none = ap (λ r. r.pending) c.self.view_is ∙ c.requires.settled in
    let seen = c.args.seen.now in
    let step = machine.Drop seen.branch seen.head in
    let moves = c.in_ok-moves.moves in
    let steps = c.in_ok-moves.ensures.steps in
    let made = move.Drop seen.branch in
    let outcome = machine.DroppedAt seen.branch seen.head in
    let made_is = dropped-by meaning self.versions.core.terms self.versions.core.history seen.branch seen.head steps.takes.turns.0 steps.takes.turns.1 in
    let same = drop-same meaning settled.terms settled.history seen.branch in
    rw c.branch-seen.ensures.branch
    (subst (λ r. IsRecordOf (fix meaning r.terms address) (recorded_of settled c.drop_branch.new.self.core) (journal.Drop seen.branch c.end.result)) c.self.view_is
    (quiet-record meaning address settled self.versions self.objects self.stood.items c.self.invariant none step refl c.drop_branch.new.self made outcome moves steps made_is same c.end.result c.end.ensures))
