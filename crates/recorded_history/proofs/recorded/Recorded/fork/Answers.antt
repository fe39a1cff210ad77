-- The move is pending, as the machine makes it.
use Rattle.std.proofs.Common.{◌≡◌, [], ◌∷◌, ◌++◌, length, refl, ap, sym, ◌∙◌, subst, length-append, rules}
use Rattle.std.proofs.lemmas.Result.{err_from_is_err_and}
use Rattle.branch_names.specs.Heads.{branch_named}
use Rattle.branch_wire.specs.StoredObjects.{file_of}
use Rattle.branch_history.specs.declared.moves.Move.TheVariants as move
use Rattle.branch_history.specs.History.{store_of}
use Rattle.branch_history.specs.Machine.{turn}
use Rattle.branch_history.specs.Steps as machine
use Rattle.heads_journal.specs.declared.record.Record.TheVariants as journal
use Rattle.branch_machine.specs.Fixed.{fix}
use Rattle.branch_machine.specs.Objects.{end_of}
use Rattle.store_seen.specs.Turns as turns
use Rattle.recorded_history.specs.Keeps.{IsRecorded}
use Rattle.recorded_history.specs.Machine.{Makes, FullyRefuses}
use Rattle.recorded_history.specs.Refusals.{ForkRefusedAs}
use Rattle.recorded_history.specs.Views.{recorded_of}
use Rattle.recorded_history.proofs.Steps.{full-makes, none-free, none-objects, none-addresses}
use Rattle.recorded_history.proofs.Kept.{unmoved, core-settled, core-more, settled-valid, settled-addressed, settled-whole, pending-one, recorded-more}
use Rattle.recorded_history.proofs.Forks.{fork-source, fork-is_unknown, fork-refused, fork-same}
use Rattle.recorded_history.proofs.recorded.Recorded.fork.Goals as goal

pub returns-in_default-clause-refused : goal.returns-in_default-clause-refused
returns-in_default-clause-refused g c =
    let meaning = g.T.Mrdt.meaning in
    let address = g.A.Address.address in
    let self = c.self.inside in
    let settled = self.settled.value.core in
    let none = ap (λ r. r.pending) c.self.view_is ∙ c.requires.settled in
    let core = core-settled meaning address settled self.versions self.objects self.stood.items c.self.invariant none in
    let missing = ap (λ k. branch_named (store_of k.terms.origin k.history).branches c.args.from.now) (sym core) ∙ sym c.find.ensures.number ∙ c.in_default.is in
    (refl, subst (λ r. FullyRefuses (fix meaning r.terms address) r.written (machine.Fork c.args.new c.args.from.now) (machine.UnknownBranch c.args.from.now)) c.self.view_is (fork-is_unknown (fix meaning settled.terms address) settled.history c.args.new c.args.from.now missing))

pub returns-in_err-forked-clause-refused : goal.returns-in_err-forked-clause-refused
returns-in_err-forked-clause-refused g c =
    let meaning = g.T.Mrdt.meaning in
    let address = g.A.Address.address in
    let self = c.self.inside in
    let settled = self.settled.value.core in
    let none = ap (λ r. r.pending) c.self.view_is ∙ c.requires.settled in
    let core = core-settled meaning address settled self.versions self.objects self.stood.items c.self.invariant none in
    let e = c.in_err-forked.field-0.0 in
    let refused = subst (λ k. turns.ForkRefusedAs meaning c.args.new c.args.from.now k e) core c.in_err-forked.ensures.refused in
    let p = err_from_is_err_and c.from_residual.result c.from_residual.ensures.1 in
    rw (p.1, p.2) (subst (λ r. ForkRefusedAs (fix meaning r.terms address) c.args.new c.args.from.now r.written e) c.self.view_is (fork-refused (fix meaning settled.terms address) settled.history c.args.new c.args.from.now e refused))

pub invariant_of-self-2 : goal.invariant_of-self-2
invariant_of-self-2 g c =
    let meaning = g.T.Mrdt.meaning in
    let address = g.A.Address.address in
    let self = c.self.inside in
    let settled = self.settled.value.core in
    let fixed = fix meaning settled.terms address in
    let none = ap (λ r. r.pending) c.self.view_is ∙ c.requires.settled in
    let forked = c.in_ok-forked.forked in
    let forks = c.in_ok-forked.ensures.forked in
    let made = move.Fork c.args.new forked.number forks.0 in
    let same = fork-same fixed settled.history c.args.new c.args.from.now forked.number forks.0 in
    let kept = recorded-more meaning address settled made c.fork.new.self (core-more meaning address settled self.versions self.objects self.stood.items c.self.invariant none made c.fork.new.self.core forks.1.history) self.objects forked.head
    (settled-valid meaning address settled self.versions self.objects self.stood.items c.self.invariant) c.moves-moves.ensures.valid tt (none-free fixed settled.history made same) tt
    (c.in_ok-forked.ensures.addresses ∙ settled-addressed meaning address settled self.versions self.objects self.stood.items c.self.invariant none ∙ sym (none-addresses fixed settled.history made same)) c.self.invariant.stored
    (settled-whole meaning address settled self.versions self.objects self.stood.items c.self.invariant none ∙ sym (none-objects fixed settled.history made same)) in
    let room : c.reserve.new.self.items ≡ self.stood.items = search rules in
    let none_stood = unmoved meaning address settled self.versions self.objects self.stood.items c.self.invariant none in
    subst (λ s. IsRecorded meaning address (recorded_of settled c.fork.new.self.core) s c.fork.new.self self.objects) (sym (c.push_reserved.ensures.items ∙ ap (λ l. l ++ forked.head ∷ []) (room ∙ none_stood))) kept

pub returns-clause-forked : goal.returns-clause-forked
returns-clause-forked g c =
    let meaning = g.T.Mrdt.meaning in
    let address = g.A.Address.address in
    let self = c.self.inside in
    let settled = self.settled.value.core in
    let fixed = fix meaning settled.terms address in
    let none = ap (λ r. r.pending) c.self.view_is ∙ c.requires.settled in
    let core = core-settled meaning address settled self.versions self.objects self.stood.items c.self.invariant none in
    let forked = c.in_ok-forked.forked in
    let forks = c.in_ok-forked.ensures.forked in
    let step = machine.Fork c.args.new c.args.from.now in
    let made = move.Fork c.args.new forked.number forks.0 in
    let outcome = machine.Forked forked.number forked.head in
    let same = fork-same fixed settled.history c.args.new c.args.from.now forked.number forks.0 in
    let longer = core-more meaning address settled self.versions self.objects self.stood.items c.self.invariant none made c.fork.new.self.core forks.1.history in
    let turned = subst (λ k. turn meaning k.terms k.history step ≡ record { outcome = outcome; made = made ∷ [] }) core forks.1.turn_is in
    let there = ap (λ k. branch_named (store_of k.terms.origin k.history).branches c.args.from.now) (sym core) ∙ sym c.find.ensures.number ∙ c.in-Some.is in
    let source = fork-source meaning settled.terms settled.history c.args.new c.args.from.now c.in-Some.source forked.number forks.0 there (ap (λ t. t.made) turned) in
    let whole = settled-whole meaning address settled self.versions self.objects self.stood.items c.self.invariant none ∙ sym (none-objects fixed settled.history made same) in
    let ends : c.end.result ≡ end_of fixed (settled.history ++ made ∷ []) = c.end.ensures ∙ ap (λ s. length (file_of s)) whole in (
      forks.0,
      subst (λ r. Makes (fix meaning r.terms address) r (recorded_of settled c.fork.new.self.core) step made outcome forked.moves (journal.Fork forked.number c.in-Some.source c.args.new c.end.result)) c.self.view_is
          (record {
            turn_is = full-makes fixed settled.history step refl made outcome turned (none-free fixed settled.history made same);
            pending = pending-one meaning address settled made c.fork.new.self longer;
            counted = forks.1.counted ∙ ap (λ k. length k.history) longer ∙ length-append settled.history (made ∷ []);
            recorded = ap (λ n. journal.Fork forked.number n c.args.new c.end.result) source ∙ ap (λ n. journal.Fork forked.number forks.0 c.args.new n) ends;
          }),
    )
