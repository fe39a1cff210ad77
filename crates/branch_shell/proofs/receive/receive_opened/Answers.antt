-- The name is tested first.
use Rattle.std.proofs.Common.{◌≡◌, ◌∙◌, [], ap, sym, subst, refl, inl, inr, Some}
use Rattle.std.proofs.KnownBytes.{Consumes-nil, Appends-nil}
use Rattle.branch_history.specs.Steps.{NameTaken}
use Rattle.branch_names.specs.Heads.{branch_named}
use Rattle.branch_print.specs.Sent.{stop_text}
use Rattle.branch_shell.specs.Stores.{Stored}
use Rattle.branch_shell.specs.Bundling.{branches_of, TellsTaken}
use Rattle.branch_shell.proofs.Said.{some_holds}
use Rattle.branch_shell.proofs.Once.{wrote_map, reason_said}
use Rattle.branch_shell.proofs.receive.receive_opened.Goals as goal

pub returns-in-Ok-Some-clause-ran : goal.returns-in-Ok-Some-clause-ran
returns-in-Ok-Some-clause-ran g c =
    let core = c.args.core in
    let store : Stored _ _ = record { terms = core.terms; history = core.history } in
    let name = c.args.name in
    let named = some_holds c.in-Ok-Some.field-0 (λ at. branch_named (branches_of store) name ≡ Some at.0) c.in-Ok-Some.at c.in-Ok-Some.field-0-is c.in-Ok-Some.ensures.found in
    let w = c.say_taken.ensures.wrote in (
      [],
      w.0,
      Consumes-nil (g.S.Source.left c.args.source.now),
      w.1,
      inl (
        refl,
        wrote_map (λ whole. ⊥) (λ whole. whole ≡ stop_text 0 (NameTaken c.in-Ok-Some.at.0)) (λ whole. ⊥) (TellsTaken store name) (λ whole no. no) (λ whole is. (c.in-Ok-Some.at.0, named, is)) c.say_taken.result w.0 w.2,
        c.close.ensures.same,
      ),
    )

pub returns-in-Ok-Some-clause-reason : goal.returns-in-Ok-Some-clause-reason
returns-in-Ok-Some-clause-reason g c =
    let faults = g.D.Disk.faults in
    reason_said (λ whole. ⊥) (λ whole. whole ≡ stop_text 0 (NameTaken c.in-Ok-Some.at.0)) (g.S.Source.faults c.args.source.now) (g.K.Sink.faults c.args.sink.now) (g.K.Sink.faults c.say_taken.new.sink) (faults c.args.core.disk) (faults c.close.result)
    (g.K.Sink.given c.args.sink.now) (g.K.Sink.given c.say_taken.new.sink) c.say_taken.result c.say_taken.ensures.wrote (ap faults c.close.ensures.same) c.say_taken.ensures.other c.say_taken.ensures.reason

pub returns-in-Ok-Some-clause-no_fault : goal.returns-in-Ok-Some-clause-no_fault
returns-in-Ok-Some-clause-no_fault g c fault = (refl, ap g.D.Disk.faults c.close.ensures.same)

pub receive_from-requires-clause-free : goal.receive_from-requires-clause-free
receive_from-requires-clause-free g c κs within = c.in-Ok-None.ensures.none c.in-Ok-None.field-0-is

pub returns-in-Ok-None-clause-ran : goal.returns-in-Ok-None-clause-ran
returns-in-Ok-None-clause-ran g c =
    let e = c.receive_from.ensures.ran in
    (e.0, e.1, e.2, e.3, inr e.4)

pub returns-in-Err-clause-ran : goal.returns-in-Err-clause-ran
returns-in-Err-clause-ran g c =
    ([], [], Consumes-nil (g.S.Source.left c.args.source.now), Appends-nil (g.K.Sink.given c.args.sink.now), inl (refl, refl, c.close-in-Err.ensures.same))
