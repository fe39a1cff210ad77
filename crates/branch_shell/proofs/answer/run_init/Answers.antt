-- A store is made where neither disk has a byte.
use Rattle.std.proofs.Common.{refl, inl, inr}
use Rattle.branch_disk.specs.Moments.{weakened}
use Rattle.branch_print.specs.Reports.{not_empty_text}
use Rattle.branch_shell.specs.Stores.{AreThese, SaysReady, SaysNotEmpty, ReadsAsNoneOrEmpty}
use Rattle.branch_shell.specs.Ran.{SaysMade, SaysNotMade}
use Rattle.branch_shell.proofs.Chosen.{said_reason}
use Rattle.branch_shell.proofs.Once.{answers_map, said_refused}
use Rattle.branch_shell.proofs.Inits.{empty_reads}
use Rattle.branch_shell.proofs.Runs.{untouched}
use Rattle.branch_shell.proofs.answer.run_init.Goals as goal

pub returns-in-Ok-true-clause-wrote : goal.returns-in-Ok-true-clause-wrote
returns-in-Ok-true-clause-wrote g c =
    let told = g.D.Disk.contents c.args.first in
    let second = g.D.Disk.contents c.args.second in
    let run = c.make_store-status in
    let empty = c.in-Ok-true.ensures.empty c.in-Ok-true.field-0-test in
    answers_map (SaysReady told) (SaysNotEmpty told) (SaysMade told second) (SaysNotMade told second) (λ whole is. (empty, is)) (λ whole is. inl is)
    run.result.0 (g.K.Sink.given c.args.sink.now) (g.K.Sink.given run.new.sink) run.ensures.wrote

pub returns-in-Ok-false-clause-wrote : goal.returns-in-Ok-false-clause-wrote
returns-in-Ok-false-clause-wrote g c =
    let told = g.D.Disk.contents c.args.first in
    let second = g.D.Disk.contents c.args.second in
    let bytes = c.in-Ok-false.ensures.bytes c.in-Ok-false.field-0-test in
    said_refused (SaysMade told second) (SaysNotMade told second) not_empty_text c.say.result (g.K.Sink.given c.args.sink.now) (g.K.Sink.given c.say.new.sink)
    (g.K.Sink.faults c.args.sink.now) (g.K.Sink.faults c.say.new.sink) (inr (bytes, refl)) c.say.ensures

pub returns-in-Ok-false-clause-any_moment : goal.returns-in-Ok-false-clause-any_moment
returns-in-Ok-false-clause-any_moment g c empty =
    let d = g.D.Disk in
    let first = c.args.first in
    weakened d.moment d.left_since first first (d.may_leave first) (ReadsAsNoneOrEmpty g.T.Mrdt.meaning g.A.Address.address (AreThese c.args.terms))
    (untouched g.A.Address.address d g.met.D.Disk.only_now first).kept (λ f was. empty_reads g.T.Mrdt.meaning g.A.Address.address (AreThese c.args.terms) f (empty f was))

pub returns-in-Err-clause-any_moment : goal.returns-in-Err-clause-any_moment
returns-in-Err-clause-any_moment g c empty =
    let d = g.D.Disk in
    let first = c.args.first in
    weakened d.moment d.left_since first first (d.may_leave first) (ReadsAsNoneOrEmpty g.T.Mrdt.meaning g.A.Address.address (AreThese c.args.terms))
    (untouched g.A.Address.address d g.met.D.Disk.only_now first).kept (λ f was. empty_reads g.T.Mrdt.meaning g.A.Address.address (AreThese c.args.terms) f (empty f was))

pub returns-in-Ok-true-clause-full : goal.returns-in-Ok-true-clause-full
returns-in-Ok-true-clause-full g c f told full =
    let empty = c.in-Ok-true.ensures.empty c.in-Ok-true.field-0-test in
    absurd (full (empty f told))

pub returns-in-Ok-true-clause-reason : goal.returns-in-Ok-true-clause-reason
returns-in-Ok-true-clause-reason g c n = inl (c.make_store-status.ensures.reason n, c.in-Ok-true.ensures.no_cause)

pub returns-in-Ok-true-clause-no_fault : goal.returns-in-Ok-true-clause-no_fault
returns-in-Ok-true-clause-no_fault g c fault = (c.make_store-status.ensures.no_fault fault, c.in-Ok-true.ensures.no_cause)

pub returns-in-Ok-false-clause-reason : goal.returns-in-Ok-false-clause-reason
returns-in-Ok-false-clause-reason g c n = inl (
  said_reason not_empty_text n (g.K.Sink.faults c.args.sink.now) (g.K.Sink.faults c.say.new.sink) (g.D.Disk.faults c.args.first) c.say.result
      (g.K.Sink.given c.args.sink.now) (g.K.Sink.given c.say.new.sink) c.say.ensures,
  c.in-Ok-false.ensures.no_cause,
)

pub returns-in-Ok-false-clause-no_fault : goal.returns-in-Ok-false-clause-no_fault
returns-in-Ok-false-clause-no_fault g c fault = (refl, c.in-Ok-false.ensures.no_cause)

pub returns-in-Err-clause-reason : goal.returns-in-Err-clause-reason
returns-in-Err-clause-reason g c n = inr ((c.in-Err.ensures.cause, refl, refl), refl)
