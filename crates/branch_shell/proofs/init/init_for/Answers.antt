-- A store is made of the values that are asked for.
use Rattle.branch_shell.specs.Disks.{Disks}
use Rattle.branch_shell.specs.Ran.{SaysMade, SaysNotMade}
use Rattle.branch_shell.specs.Stores.{AreThese}
use Rattle.branch_shell.specs.Values.{documents, documents_with_sequences}
use Rattle.branch_shell.proofs.Outcomes.{never_usage}
use Rattle.branch_shell.proofs.Runs.{init_said, init_wide, init_plain}
use denote.Param.Send.{sendable}
use Rattle.documents_cross.proofs.Crosses.{Doc-send, Doc-sync, Wide-send, Wide-sync}
use Rattle.branch_shell.proofs.init.init_for.Goals as goal

pub returns-then-kind-eq1-clause-ran : goal.returns-then-kind-eq1-clause-ran
returns-then-kind-eq1-clause-ran g c left sequences kind =
    let run = c.run_init in
    let old : Disks _ = record { first = c.args.first; second = c.args.second } in
    let new : Disks _ = record { first = run.result.1; second = run.result.2 } in
    let given = g.K.Sink.given c.args.sink.now in
    let gave = g.K.Sink.given run.new.sink in
    let e = run.ensures in
    init_wide g.A.Address.address g.D.Disk (AreThese c.args.terms) c.args.terms.kind sequences kind c.if-kind-eq1.true old new run.result.0 left given gave
    (init_said g.A.Address.address g.D.Disk documents_with_sequences.meaning (AreThese c.args.terms) old new run.result.0 left given gave e.wrote (record { any_moment = e.any_moment; made = e.made; kept = e.kept }) e.refused e.full e.second)

pub returns-else-kind-eq1-clause-ran : goal.returns-else-kind-eq1-clause-ran
returns-else-kind-eq1-clause-ran g c left sequences kind =
    let run = c.run_init-else-kind-eq1 in
    let old : Disks _ = record { first = c.args.first; second = c.args.second } in
    let new : Disks _ = record { first = run.result.1; second = run.result.2 } in
    let given = g.K.Sink.given c.args.sink.now in
    let gave = g.K.Sink.given run.new.sink in
    let e = run.ensures in
    init_plain g.A.Address.address g.D.Disk (AreThese c.args.terms) c.args.terms.kind sequences kind c.if-kind-eq1.false old new run.result.0 left given gave
    (init_said g.A.Address.address g.D.Disk documents.meaning (AreThese c.args.terms) old new run.result.0 left given gave e.wrote (record { any_moment = e.any_moment; made = e.made; kept = e.kept }) e.refused e.full e.second)

pub returns-then-kind-eq1-clause-usage : goal.returns-then-kind-eq1-clause-usage
returns-then-kind-eq1-clause-usage g c usage =
    let run = c.run_init in
    let first = g.D.Disk.contents c.args.first in
    let second = g.D.Disk.contents c.args.second in
    never_usage (SaysMade first second) (SaysNotMade first second) run.result.0 (g.K.Sink.given c.args.sink.now) (g.K.Sink.given run.new.sink) run.ensures.wrote usage

pub returns-else-kind-eq1-clause-usage : goal.returns-else-kind-eq1-clause-usage
returns-else-kind-eq1-clause-usage g c usage =
    let run = c.run_init-else-kind-eq1 in
    let first = g.D.Disk.contents c.args.first in
    let second = g.D.Disk.contents c.args.second in
    never_usage (SaysMade first second) (SaysNotMade first second) run.result.0 (g.K.Sink.given c.args.sink.now) (g.K.Sink.given run.new.sink) run.ensures.wrote usage

pub run_init-requires-send-T : goal.run_init-requires-send-T
run_init-requires-send-T g c κs within = let d = Wide-send in search sendable

pub run_init-requires-sync-T : goal.run_init-requires-sync-T
run_init-requires-sync-T g c κs within = let d = Wide-sync in search sendable

pub run_init-requires-else-kind-eq1-send-T : goal.run_init-requires-else-kind-eq1-send-T
run_init-requires-else-kind-eq1-send-T g c κs within = let d = Doc-send in search sendable

pub run_init-requires-else-kind-eq1-sync-T : goal.run_init-requires-else-kind-eq1-sync-T
run_init-requires-else-kind-eq1-sync-T g c κs within = let d = Doc-sync in search sendable
