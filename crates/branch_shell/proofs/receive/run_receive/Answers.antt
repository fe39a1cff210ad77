-- From the start: the store is opened, or it is not.
use Rattle.std.proofs.Common.{◌≡◌, [], refl, inl, inr, subst}
use Rattle.std.specs.Prelude.{Some}
use Rattle.std.proofs.KnownBytes.{Consumes-nil}
use Rattle.branch_shell.specs.Counts.{HasReason}
use Rattle.branch_shell.specs.Refusals.{unopened_text}
use Rattle.branch_shell.specs.Stores.{Stored, SaysRefused}
use Rattle.branch_shell.specs.Bundling.{SaysTaken}
use Rattle.branch_shell.proofs.Once.{answers_map, says_refused, reason_opening, not_behind}
use Rattle.branch_shell.proofs.Received.{ran-opened}
use Rattle.branch_shell.proofs.receive.run_receive.Goals as goal

pub returns-in-Ok-clause-ran : goal.returns-in-Ok-clause-ran
returns-in-Ok-clause-ran g c =
    let core = c.in-Ok.core in
    let opened = c.in-Ok.ensures in
    let store : Stored _ _ = record { terms = core.terms; history = core.history } in
    let run = c.receive_opened in
    let e = run.ensures.ran in (
      e.0,
      e.1,
      e.2,
      e.3,
      ran-opened g.D.Disk g.T.Kinded.KIND g.T.Mrdt.meaning g.U.Mrdt.meaning g.A.Address.address c.args.name c.args.disk core.disk run.result.1 store (g.S.Source.left run.new.source) run.result.0 e.0 e.1
          (record { valid = opened.valid; kind_is = opened.kind; reads = opened.reads; only = opened.only }) opened.any_moment e.4,
    )

pub returns-in-Ok-clause-reason : goal.returns-in-Ok-clause-reason
returns-in-Ok-clause-reason g c =
    let run = c.receive_opened in
    subst (λ n. HasReason (record { source = g.S.Source.faults c.args.source.now; sink = g.K.Sink.faults c.args.sink.now; disk = n })
    (record { source = g.S.Source.faults run.new.source; sink = g.K.Sink.faults run.new.sink; disk = g.D.Disk.faults run.result.1 }) run.result.0) c.in-Ok.ensures.no_cause run.ensures.reason

pub returns-in-Ok-clause-no_fault : goal.returns-in-Ok-clause-no_fault
returns-in-Ok-clause-no_fault g c fault =
    let run = c.receive_opened in
    subst (λ n. (g.S.Source.faults run.new.source ≡ g.S.Source.faults c.args.source.now) × (g.D.Disk.faults run.result.1 ≡ n)) c.in-Ok.ensures.no_cause (run.ensures.no_fault fault)

pub returns-in-Err-clause-ran : goal.returns-in-Err-clause-ran
returns-in-Err-clause-ran g c =
    let told = g.D.Disk.contents c.args.disk in
    let m = g.T.Mrdt.meaning in
    let address = g.A.Address.address in
    let w = answers_map (λ whole. ⊥) (λ whole. unopened_text c.in-Err.why ≡ Some whole) (λ whole. ⊥) (SaysTaken g.T.Kinded.KIND m g.U.Mrdt.meaning address told c.args.name) (λ whole no. no)
    (λ whole says. inl (says_refused g.T.Kinded.KIND m g.U.Mrdt.meaning address told c.in-Err.why c.in-Err.ensures.refused c.in-Err.ensures.refused_only whole says))
    c.refuse.result (g.K.Sink.given c.args.sink.now) (g.K.Sink.given c.refuse.new.sink) c.refuse.ensures.wrote in
    ([], w.0, Consumes-nil (g.S.Source.left c.args.source.now), w.1, inl (record { no_input = refl; wrote = w.2; kept = c.in-Err.ensures.any_moment_err }))

pub returns-in-Err-clause-reason : goal.returns-in-Err-clause-reason
returns-in-Err-clause-reason g c =
    reason_opening (λ whole. ⊥) (λ whole. unopened_text c.in-Err.why ≡ Some whole) (g.S.Source.faults c.args.source.now) (g.K.Sink.faults c.args.sink.now) (g.K.Sink.faults c.refuse.new.sink) (g.D.Disk.faults c.args.disk) (g.D.Disk.faults c.in-Err.disk)
    (g.K.Sink.given c.args.sink.now) (g.K.Sink.given c.refuse.new.sink) c.in-Err.why c.refuse.result c.refuse.ensures.wrote c.in-Err.ensures.cause c.refuse.ensures.fault c.refuse.ensures.reason

pub returns-in-Err-clause-no_fault : goal.returns-in-Err-clause-no_fault
returns-in-Err-clause-no_fault g c fault =
    (refl, not_behind (g.D.Disk.faults c.args.disk) (g.D.Disk.faults c.in-Err.disk) c.in-Err.why c.refuse.result c.in-Err.ensures.cause c.refuse.ensures.fault fault)
